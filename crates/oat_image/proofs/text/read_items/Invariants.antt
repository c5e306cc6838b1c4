use Rattle.std.proofs.Common.{◌≡◌, ◌-◌, None}
use Rattle.oat_image.specs.{Reading.items_at, Seen.seen}
use Rattle.oat_image.proofs.Loop.{with_front}
use Rattle.oat_image.proofs.text.read_items.Given as goal

abbrev pub invariant-loop : goal.invariant-loop
invariant-loop g l =
    with_front l.items.items (items_at g.F.Form.reads g.F.Form.key (l.count - l.counter) l.last (seen l.text))
    ≡ items_at g.F.Form.reads g.F.Form.key l.count None (seen l.initial.text)
