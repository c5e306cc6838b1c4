-- The packed form of a list of bits, as a blob has it (docs/FORMATS.md): eight bits to a byte.
use Rattle.std.specs.Prelude.{ℕ, zero, suc, ◌+◌, ◌/◌, ◌^◌, Bool, List, [], ◌∷◌, length, drop, if◌then◌else◌}

-- the number whose binary digits are the first bits, the highest first, with zeros where bits are wanting
unfoldable pub digits : ℕ → List Bool → ℕ
digits zero bits = 0
digits (suc place) [] = 0
digits (suc place) (bit ∷ bits) = (if bit then 2 ^ place else 0) + digits place bits

-- so many bytes, each of the next eight bits
unfoldable pub octets : ℕ → List Bool → List ℕ
octets zero bits = []
octets (suc count) bits = digits 8 bits ∷ octets count (drop 8 bits)

unfoldable pub packed : List Bool → List ℕ
packed bits = octets ((length bits + 7) / 8) bits
