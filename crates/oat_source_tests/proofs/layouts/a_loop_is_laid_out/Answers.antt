-- The instructions of the loop are in range.
use Rattle.std.proofs.Common.{sym, ◌∙◌, subst, arith}
use Rattle.std.specs.{Prelude.⊤, List.AllByRecursion}
use Rattle.std.proofs.lemmas.List.Elements.{All-contains, All-from_recursion}
use Rattle.oat_a64.specs.Table.{IsInRange}
use Rattle.oat_asm.specs.declared.item.Item.{Item}
use Rattle.oat_asm.specs.declared.item.Item.TheVariants as item
use Rattle.oat_source_tests.proofs.layouts.a_loop_is_laid_out.Goals as goal

abbrev IsFit : Item → Type 0
IsFit (item.Inst i) = IsInRange i
IsFit _ = ⊤

pub assemble-requires-clause-instructions : goal.assemble-requires-clause-instructions
assemble-requires-clause-instructions g c inst has =
    let is = c.from_vec-items.ensures ∙ c.in_ok-from_slice.ensures.items in
    let all = subst (AllByRecursion IsFit) (sym is)
    ((omega arith, (omega arith, (omega arith, tt))), (tt, (tt, (tt, ((omega arith, (omega arith, (omega arith, tt))), (tt, (tt, (tt, (tt, (tt, (tt, (tt, (tt, tt))))))))))))) in
    All-contains IsFit c.from_vec-items.result (item.Inst inst) (All-from_recursion IsFit c.from_vec-items.result all) has
