use Rattle.std.proofs.Common.{◌∙◌, ap, length, sym}
use Rattle.oat_blob.proofs.Reading.{length-targets_in}
use Rattle.oat_blob.proofs.decoding.BlobRefRecords.target_count.Goals as goal

pub returns : goal.returns
returns c = sym (length-targets_in c.self.inside.target_count c.self.inside.targets.now) ∙ ap (λ shown. length shown.body.targets) c.self.view_is
