use Rattle.std.proofs.Common.{◌∙◌, ap, length, sym}
use Rattle.oat_bits.proofs.PackedForm.{length-bits_in}
use Rattle.oat_blob.proofs.decoding.BlobRefRecords.bit_count.Goals as goal

pub returns : goal.returns
returns c = sym (length-bits_in c.self.inside.bit_count c.self.inside.bits.now) ∙ ap (λ shown. length shown.body.bits) c.self.view_is
