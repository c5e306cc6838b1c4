use Rattle.std.proofs.Common.{sym, ap, ◌∙◌, Some, refl}
use Rattle.std.specs.Option.{option_map}
use Rattle.oat_check.specs.Rules.{fault_at}
use Rattle.oat_check.proofs.FirstIn.{is_found, is_passed, is_nowhere}
use Rattle.oat_check.proofs.first_fault.fault_in_instrs.Goals as goal

pub loop-place-init : goal.loop-place-init
loop-place-init c = refl

pub returns-in-Some : goal.returns-in-Some
returns-in-Some c =
    is_found _ c.loop-place.place c.args.instrs.now c.index-instrs-place.result c.fault_at.result c.loop-place-test.true c.index-instrs-place.is c.loop-place.invariant
    (ap (option_map (fault_at c.args.number c.args.block c.loop-place.place)) (sym c.broken_by_instr.ensures ∙ c.in-Some.is) ∙ ap (λ y. Some y) (sym c.fault_at.ensures))

pub loop-place-preserved : goal.loop-place-preserved
loop-place-preserved c =
    is_passed _ c.loop-place.place c.args.instrs.now c.index-instrs-place.result c.loop-place-test.true c.index-instrs-place.is c.loop-place.invariant
    (ap (option_map (fault_at c.args.number c.args.block c.loop-place.place)) (sym c.broken_by_instr.ensures ∙ c.in_default.is))

pub returns : goal.returns
returns c = is_nowhere _ c.loop-place.place c.args.instrs.now c.loop-place-test.false c.loop-place.invariant
