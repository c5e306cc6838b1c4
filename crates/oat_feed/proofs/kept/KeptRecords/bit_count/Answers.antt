use Rattle.std.proofs.Common.{◌∙◌, ap, length, sym}
use Rattle.oat_bits.proofs.PackedForm.{length-bits_in}
use Rattle.oat_feed.proofs.kept.KeptRecords.bit_count.Goals as goal

pub returns : goal.returns
returns c = sym (length-bits_in c.self.inside.places.bit_count _) ∙ ap (λ records. length records.bits) c.self.view_is
