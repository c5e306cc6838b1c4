use Rattle.std.proofs.Common.{◌∙◌, ap, sym}
use Rattle.sha2.specs.Sha256.{sha256}
use Rattle.oat_chain.specs.Chain.{link}
use Rattle.oat_chain.proofs.Lengths.{chain-push}
use Rattle.oat_chain.proofs.Chain.absorb.Goals as goal

pub returns : goal.returns
returns c = λ head addresses before.
    let first = c.update.ensures _ c.new-hasher.ensures in
    let second = rw c.to_be_bytes.ensures at (c.update-2.ensures _ first) in
    let digest = c.finalize-self.ensures _ second in
    record { digest = digest ∙ (ap (λ h. sha256 (link h c.args.address)) before.digest ∙ sym (chain-push head addresses c.args.address)) }
