use Rattle.std.proofs.Common.{refl, sym, arith}
use Rattle.std.proofs.lemmas.Grind.{div_ceil_times}
use Rattle.oat_bits.specs.{Packed.octets, Packed.packed, Bits.bits_in}
use Rattle.oat_bits.proofs.packed_bits.PackedBits.with_room.Goals as goal

pub invariant_of-result : goal.invariant_of-result
unfolding bits_in packed octets
invariant_of-result c =
    let capacity = c.in_ok-with_capacity.ensures.capacity in
    let bytes = c.div_ceil.ensures in record {
      form = sym c.in_ok-with_capacity.ensures.items;
      room = omega (arith, div_ceil_times);
      fits = omega arith;
    }

pub returns-clause-empty : goal.returns-clause-empty
unfolding bits_in
returns-clause-empty c = refl
