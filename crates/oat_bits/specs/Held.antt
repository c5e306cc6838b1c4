-- How a list of bits is kept: packed, in bytes with the capacity for the room.
use Rattle.std.specs.Prelude.{◌≡◌, ℕ, ◌+◌, ◌/◌, ◌^◌, ◌<◌, ◌≤◌, List}
use Rattle.oat_bits.specs.{Packed.packed, Bits.bits_in}

pub record IsHeld (count spare : ℕ) (bytes : List ℕ) (capacity : ℕ) : Type 0 where
  pub form : packed (bits_in count bytes) ≡ bytes
  pub room : (count + spare + 7) / 8 ≤ capacity
  pub fits : count + spare < 2 ^ 64
