use Rattle.std.proofs.Common.{◌<◌, ℕ, List, get_or, take, sym, subst, ◌∙◌}
use Rattle.std.specs.List.{All}
use Rattle.std.proofs.lemmas.{List.take_all, List.Elements.All-more}
use Rattle.oat_build.specs.{Write}
use Rattle.oat_attestation.proofs.looking.look_at_writes.Goals as goal

pub loop-write-preserved : goal.loop-write-preserved
loop-write-preserved c =
    let bytes = subst (All (λ byte. byte < 256)) c.as_slice.ensures c.look_at_bytes.ensures in
    All-more (λ (write : Write). All (λ byte. byte < 256) write.bytes) c.args.writes.now c.loop-write.write-index c.write-item.result c.loop-write-test.true c.loop-write.invariant
    (subst (λ (write : Write). All (λ byte. byte < 256) write.bytes) c.write-item.is bytes)

pub returns : goal.returns
returns c =
    subst (All (λ (write : Write). All (λ byte. byte < 256) write.bytes)) (take_all c.loop-write.write-index c.args.writes.now c.loop-write-test.false) c.loop-write.invariant
