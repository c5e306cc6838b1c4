use Rattle.std.proofs.Common.{◌++◌, ◌∷◌, [], ℕ, List, sym, ap, ◌∙◌, append_assoc, ◌+◌}
use Rattle.std.specs.List.{range_with_len}
use Rattle.oat_build.proofs.DataLists.{range_more}
use Rattle.oat_build.proofs.data.push_cells.Goals as goal

pub loop-i-preserved : goal.loop-i-preserved
loop-i-preserved c =
    c.in_ok-push.ensures.items
    ∙ ap (λ (xs : List ℕ). xs ++ (c.args.first + c.loop-i.i) ∷ []) c.loop-i.invariant
    ∙ append_assoc c.args.cells.now.items (range_with_len c.args.first c.loop-i.i) ((c.args.first + c.loop-i.i) ∷ [])
    ∙ ap (λ (xs : List ℕ). c.args.cells.now.items ++ xs) (sym (range_more c.args.first c.loop-i.i))
