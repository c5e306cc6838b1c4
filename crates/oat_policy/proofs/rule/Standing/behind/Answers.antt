use Rattle.std.proofs.Common.{◌≡◌, ℕ, ◌+◌, Bool, Some, None, ap, ◌∙◌, arith}
use Rattle.std.specs.{Prelude.if◌then◌else◌, Option.option_or}
use Rattle.oat_policy.specs.{declared.rule.Standing.Standing, EdgeWords.edge_words, Standing.counted, Standing.forbids_behind}
use Rattle.oat_policy.proofs.Following.{next_standing, counted_bound}
use Rattle.oat_policy.proofs.rule.Standing.behind.Goals as goal

pub returns : goal.returns
returns c = λ flow path edge (place, met) same.
    let rule = c.args.rule.now in
    let count = c.args.self.count in
    let is_so : count ≡ counted flow rule path = ap (λ (z : Standing). z.count) same in
    let bound = counted_bound flow rule path in
    next_standing flow rule path edge c.args.self c.next_count.result c.broken_behind.result same
    (c.next_count.ensures (omega (arith, is_so, bound, place, c.ranges.place.fits))
    ∙ ap (λ (t : Bool). if t then count + 1 else count) (c.counts-is_counted.ensures (edge_words flow edge) met))
    (c.broken_behind.ensures (edge_words flow edge) met
    ∙ ap (λ (n : ℕ). option_or c.args.self.broken (if forbids_behind rule count (edge_words flow edge) then Some n else None)) place)
