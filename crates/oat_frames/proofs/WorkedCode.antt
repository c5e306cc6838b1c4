-- Code and rows that are given by literal lists: which instructions the words are, and where a row is over an address.
use Rattle.std.proofs.Common.{◌≡◌, ◌+◌, ◌*◌, ◌<◌, ◌≤◌, ℕ, zero, suc, Bool, true, false, List, [], ◌∷◌, map, Some, refl}
use Rattle.std.specs.{List.slice_get, List.list_all, Option.option_and_then}
use Rattle.std.proofs.lemmas.Bool.{le-leb, lt-ltb, le-ltb, and_from, and_right, and_parts}
use Rattle.oat_a64.proofs.FetchLemmas.{word_from_test, inst_from_word}
use Rattle.oat_asm.specs.{Inst, inst_of, is_word, word_of, Row, address_of, word_count, is_over}

abbrev pub is_encodable : Inst → Bool
is_encodable i = is_word i (word_of i)

decodes : (i : Inst) → is_encodable i ≡ true → inst_of (word_of i) ≡ Some i
decodes i h = inst_from_word i (word_of i) (word_from_test i (word_of i) h)

pub decodes_at : (insts : List Inst) → list_all is_encodable insts ≡ true → (k : ℕ) → option_and_then inst_of (slice_get (map word_of insts) k) ≡ slice_get insts k
decodes_at [] h k = refl
decodes_at (i ∷ insts) h zero = decodes i (and_parts (is_encodable i) (list_all is_encodable insts) h).0
decodes_at (i ∷ insts) h (suc k) = decodes_at insts (and_parts (is_encodable i) (list_all is_encodable insts) h).1 k

pub over : (r : Row) (p : ℕ) → address_of r ≤ p → p < address_of r + 4 * word_count r → is_over p r ≡ true
over r p low high = and_from _ _ (le-leb (address_of r) p low) (lt-ltb p (address_of r + 4 * word_count r) high)

pub beyond : (r : Row) (p : ℕ) → address_of r + 4 * word_count r ≤ p → is_over p r ≡ false
beyond r p high = and_right _ _ (le-ltb p (address_of r + 4 * word_count r) high)
