use Rattle.std.proofs.Common.{ap, sym, ◌∙◌}
use Rattle.oat_bits.specs.Packed.{packed}
use Rattle.oat_bits.proofs.packed_bits.PackedBits.bytes.Goals as goal

pub returns : goal.returns
returns c = c.as_slice.ensures.value ∙ (sym c.self.invariant.form ∙ ap (λ shown. packed shown.bits) c.self.view_is)
