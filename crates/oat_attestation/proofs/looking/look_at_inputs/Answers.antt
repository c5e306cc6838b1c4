use Rattle.std.proofs.Common.{rules, FitsSigned, ℤ, pos, get_or, subst, ◌≡◌, sym, arith}
use Rattle.std.specs.{Int.w64, List.All}
use Rattle.std.proofs.lemmas.{Int.ints, Int.to_z-of_z, List.take_all, List.Elements.All-more}
use Rattle.oat_attestation.proofs.looking.look_at_inputs.Goals as goal

pub loop-input-preserved : goal.loop-input-preserved
loop-input-preserved c =
    let here : FitsSigned w64 (get_or c.args.inputs.now c.loop-input.input-index (pos 0)) = search (rules, to_z-of_z, c.look_at_input.ensures) in
    All-more (FitsSigned w64) c.args.inputs.now c.loop-input.input-index (pos 0) c.loop-input-test.true c.loop-input.invariant here

pub returns : goal.returns
returns c = subst (All (FitsSigned w64)) (take_all c.loop-input.input-index c.args.inputs.now c.loop-input-test.false) c.loop-input.invariant
