use Rattle.std.proofs.Common.{refl, sym, arith}
use Rattle.oat_bits.specs.{Packed.octets, Packed.packed, Bits.bits_in}
use Rattle.oat_bits.proofs.PackedForm.{length-bits_in}
use Rattle.oat_bits.proofs.packed_bits.PackedBits.clear.Goals as goal

pub invariant_of-self : goal.invariant_of-self
unfolding bits_in packed octets
invariant_of-self c =
    let room = c.self.invariant.room in
    let fits = c.self.invariant.fits in
    let same = c.clear.ensures.capacity in record {
      form = sym c.clear.ensures.items;
      room = omega arith;
      fits = omega arith;
    }

pub returns-clause-empty : goal.returns-clause-empty
unfolding bits_in
returns-clause-empty c = refl

pub returns-clause-spare : goal.returns-clause-spare
returns-clause-spare c =
    let counted = length-bits_in c.self.inside.count c.self.inside.bytes.items in
    rw (← c.self.view_is, counted) refl
