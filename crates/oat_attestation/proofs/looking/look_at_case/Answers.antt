use Rattle.std.proofs.Common.{◌<◌, FitsSigned, subst}
use Rattle.std.specs.{Int.w64, List.All}
use Rattle.oat_build.specs.{Write}
use Rattle.oat_attestation.proofs.Given.{can_be_given}
use Rattle.oat_attestation.proofs.looking.look_at_case.Goals as goal

pub returns : goal.returns
returns c =
    can_be_given c.writes_can_be_made.ensures c.args.case.now c.requires (subst (All (FitsSigned w64)) c.as_slice.ensures c.look_at_inputs.ensures)
    (subst (All (λ (write : Write). All (λ byte. byte < 256) write.bytes)) c.as_slice-2.ensures c.look_at_writes.ensures)
