use Rattle.std.proofs.Common.{FitsSigned, take}
use Rattle.std.specs.{Int.w64, List.All}
use Rattle.oat_attestation.proofs.looking.look_at_inputs.Given as goal

abbrev pub invariant-loop-input : goal.invariant-loop-input
invariant-loop-input l = All (FitsSigned w64) (take l.input-index l.inputs)
