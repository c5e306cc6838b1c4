use Rattle.std.proofs.Common.{length, ap, sym, ◌∙◌}
use Rattle.oat_bits.proofs.PackedForm.{length-bits_in}
use Rattle.oat_bits.proofs.packed_bits.PackedBits.len.Goals as goal

pub returns : goal.returns
returns c = sym (length-bits_in c.self.inside.count c.self.inside.bytes.items) ∙ ap (λ shown. length shown.bits) c.self.view_is
