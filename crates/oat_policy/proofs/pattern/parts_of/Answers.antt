use Rattle.std.proofs.Common.{List, [], ◌∷◌, ◌++◌, sym, ap, ◌∙◌}
use Rattle.oat_report.specs.{TextWord}
use Rattle.oat_policy.specs.Reading.{parts_of}
use Rattle.oat_policy.proofs.Loop.{shorter, part_taken, last_part}
use Rattle.oat_policy.proofs.pattern.parts_of.Goals as goal

pub colons-smaller : goal.colons-smaller
colons-smaller c = shorter c.colons.rest.now (c.in-Some.part.now, c.in-Some.after.now) (sym c.in-Some.ensures)

pub colons-preserved : goal.colons-preserved
colons-preserved c =
    ap (λ (ps : List TextWord). ps ++ parts_of c.in-Some.after.now)
    (c.in_ok-push.ensures.items ∙ ap (λ (w : TextWord). c.colons.parts.items ++ w ∷ []) (c.from_vec.ensures ∙ c.in_ok-from_slice.ensures.items))
    ∙ part_taken c.colons.parts.items c.args.word.now c.colons.rest.now c.in-Some.part.now c.in-Some.after.now (sym c.in-Some.ensures) c.colons.invariant

pub returns : goal.returns
returns c =
    c.in_ok-push-2.ensures.items ∙ ap (λ (w : TextWord). c.colons.parts.items ++ w ∷ []) (c.from_vec-2.ensures ∙ c.in_ok-from_slice-2.ensures.items)
    ∙ last_part c.colons.parts.items c.args.word.now c.colons.rest.now (sym c.in_default.ensures) c.colons.invariant
