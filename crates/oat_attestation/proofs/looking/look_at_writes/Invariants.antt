use Rattle.std.proofs.Common.{◌<◌, take}
use Rattle.std.specs.List.{All}
use Rattle.oat_build.specs.{Write}
use Rattle.oat_attestation.proofs.looking.look_at_writes.Given as goal

abbrev pub invariant-loop-write : goal.invariant-loop-write
invariant-loop-write l = All (λ (write : Write). All (λ byte. byte < 256) write.bytes) (take l.write-index l.writes)
