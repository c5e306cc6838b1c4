-- Texts that stand in JSON as they are: digits, and what is said of a cause.
use Rattle.std.proofs.Common.{◌≡◌, ◌≤◌, ◌<◌, ◌/◌, ◌%◌, ◌==◌, ℕ, zero, suc, ℤ, pos, negsuc, Bool, true, false, cond, ◌&&◌, not, nat_le, List, [], ◌∷◌, ◌++◌, drop, decimal, refl, ap, arith, codes, Some}
use Rattle.std.proofs.Common.{None}
use Rattle.std.specs.{List.list_all, Fmt.digits, Fmt.digits_onto, Fmt.digit_glyph, Fmt.signed_decimal, Prelude.IsUtf8, Str.IsAscii}
use Rattle.std.proofs.lemmas.{Bool.Decides.nat_tests, Bool.and_parts, Str.IsUtf8-from_ascii}
use Rattle.json.specs.Print.{escape_byte, escape, quoted}
use Rattle.oat_verify.specs.{hexadecimal, hexadecimal_digit, ReplayCause, BitsEnd, TargetsEnd, BadTarget, Underflow, EndInside, Nested, WrongEnd, OffCode, BitsLeft, TargetsLeft, PathLimit}
use Rattle.oat_verify.specs.{declared.verdict.Cause.Cause}
use Rattle.oat_report.specs.{PathLine.space, PathLine.address_digits, VerdictLine.value_text, VerdictLine.replay_text, VerdictLine.cause_text, JsonLine.IsPlainByte, JsonLine.IsPlainText}
use Rattle.oat_report.specs.{JsonLine.json_string}
use Rattle.oat_verify.specs.declared.verdict.Cause.TheVariants as causes

unfoldable pub is_plain : ℕ → Bool
is_plain byte = nat_le 32 byte && nat_le byte 126 && not (byte == 34) && not (byte == 92)

plain_byte : (byte : ℕ) → is_plain byte ≡ true → IsPlainByte byte
unfolding is_plain
plain_byte byte test = record {
  low = grind (arith, nat_tests);
  high = grind (arith, nat_tests);
  unquoted = λ e. grind (arith, nat_tests);
  unescaped = λ e. grind (arith, nat_tests);
}

-- a text that was written out
pub plain_text : (text : List ℕ) → list_all is_plain text ≡ true → IsPlainText text
plain_text [] test = tt
plain_text (byte ∷ text) test = let both = and_parts (is_plain byte) (list_all is_plain text) test in (plain_byte byte both.0, plain_text text both.1)

pub plain_append : (first second : List ℕ) → IsPlainText first → IsPlainText second → IsPlainText (first ++ second)
plain_append [] second first_plain second_plain = second_plain
plain_append (byte ∷ first) second first_plain second_plain = (first_plain.0, plain_append first second first_plain.1 second_plain)

plain_drop : (n : ℕ) (text : List ℕ) → IsPlainText text → IsPlainText (drop n text)
plain_drop zero text plain = plain
plain_drop (suc n) [] plain = tt
plain_drop (suc n) (byte ∷ text) plain = plain_drop n text plain.1

between : (byte : ℕ) → 48 ≤ byte → byte ≤ 70 → IsPlainByte byte
between byte low high = record { low = omega arith; high = omega arith; unquoted = λ e. omega arith; unescaped = λ e. omega arith }

-- ---- numbers

glyph : (n : ℕ) → IsPlainByte (digit_glyph false (n % 10))
glyph n = between (digit_glyph false (n % 10)) (grind (arith, nat_tests)) (grind (arith, nat_tests))

plain_either : (last : Bool) (short long : List ℕ) → IsPlainText short → IsPlainText long → IsPlainText (cond last short long)
plain_either true short long short_plain long_plain = short_plain
plain_either false short long short_plain long_plain = long_plain

plain_onto : (k n : ℕ) (behind : List ℕ) → IsPlainText behind → IsPlainText (digits_onto k 10 false n behind)
plain_onto zero n behind plain = plain
plain_onto (suc k) n behind plain =
    let longer : List ℕ = digit_glyph false (n % 10) ∷ behind in
    plain_either (n / 10 == 0) longer (digits_onto k 10 false (n / 10) longer) (glyph n, plain) (plain_onto k (n / 10) longer (glyph n, plain))

pub plain_decimal : (n : ℕ) → IsPlainText (decimal n)
unfolding digits
plain_decimal n = plain_onto 64 n [] tt

plain_signed : (z : ℤ) → IsPlainText (signed_decimal z)
unfolding is_plain
plain_signed (pos n) = plain_decimal n
plain_signed (negsuc n) = (plain_byte 45 refl, plain_decimal (suc n))

hexadecimal_glyph : (d : ℕ) → d < 16 → IsPlainByte (hexadecimal_digit d)
hexadecimal_glyph d low = between (hexadecimal_digit d) (grind (arith, nat_tests)) (grind (arith, nat_tests))

pub plain_hexadecimal : (k n : ℕ) → IsPlainText (hexadecimal k n)
unfolding hexadecimal
plain_hexadecimal zero n = tt
plain_hexadecimal (suc k) n =
    plain_append (hexadecimal k (n / 16)) (hexadecimal_digit (n % 16) ∷ []) (plain_hexadecimal k (n / 16)) (hexadecimal_glyph (n % 16) (omega arith), tt)

pub plain_address : (n : ℕ) → IsPlainText (address_digits n)
plain_address n = plain_drop _ (hexadecimal 16 n) (plain_hexadecimal 16 n)

-- ---- causes

counted : (keyword : List ℕ) (n : ℕ) → list_all is_plain keyword ≡ true → IsPlainText (keyword ++ decimal n)
counted keyword n test = plain_append keyword (decimal n) (plain_text keyword test) (plain_decimal n)

plain_replay : (cause : ReplayCause) → IsPlainText (replay_text cause)
unfolding is_plain
plain_replay BitsEnd = plain_text (codes "BitsEnd") refl
plain_replay TargetsEnd = plain_text (codes "TargetsEnd") refl
plain_replay (BadTarget target) = plain_append (codes "BadTarget ") (address_digits target) (plain_text (codes "BadTarget ") refl) (plain_address target)
plain_replay Underflow = plain_text (codes "Underflow") refl
plain_replay EndInside = plain_text (codes "EndInside") refl
plain_replay Nested = plain_text (codes "Nested") refl
plain_replay WrongEnd = plain_text (codes "WrongEnd") refl
plain_replay OffCode = plain_text (codes "OffCode") refl
plain_replay (BitsLeft count) = counted (codes "BitsLeft ") count refl
plain_replay (TargetsLeft count) = counted (codes "TargetsLeft ") count refl
plain_replay PathLimit = plain_text (codes "PathLimit") refl

-- text behind a space
pub spaced : (first second : List ℕ) → IsPlainText first → IsPlainText second → IsPlainText ((first ++ space) ++ second)
unfolding is_plain
spaced first second first_plain second_plain = plain_append (first ++ space) second (plain_append first space first_plain (plain_text space refl)) second_plain

pub cause_is_plain : (cause : Cause) → IsPlainText (cause_text cause)
unfolding is_plain
cause_is_plain (causes.Form offset) = counted (codes "form ") offset refl
cause_is_plain causes.Mac = plain_text (codes "mac") refl
cause_is_plain causes.Nonce = plain_text (codes "nonce") refl
cause_is_plain (causes.Serial None) = plain_text (codes "serial -") refl
cause_is_plain (causes.Serial (Some serial)) = counted (codes "serial ") serial refl
cause_is_plain causes.Operation = plain_text (codes "operation") refl
cause_is_plain causes.Image = plain_text (codes "image") refl
cause_is_plain (causes.Replay cause turn) = spaced (codes "replay " ++ decimal turn) (replay_text cause) (counted (codes "replay ") turn refl) (plain_replay cause)
cause_is_plain causes.Hash = plain_text (codes "hash") refl
cause_is_plain (causes.Critical violation) =
    let cell = counted (codes "critical ") violation.cell refl in
    spaced ((codes "critical " ++ decimal violation.cell) ++ space ++ value_text violation.expected) (value_text violation.found)
    (spaced (codes "critical " ++ decimal violation.cell) (value_text violation.expected) cell (plain_signed _)) (plain_signed _)

-- ---- what a plain text is to others

plain_ascii : (text : List ℕ) → IsPlainText text → IsAscii text
plain_ascii [] plain i = omega arith
plain_ascii (byte ∷ text) plain zero = omega (arith, plain.0.high)
plain_ascii (byte ∷ text) plain (suc i) = plain_ascii text plain.1 i

pub plain_utf8 : (text : List ℕ) → IsPlainText text → IsUtf8 text
plain_utf8 text plain = IsUtf8-from_ascii text (plain_ascii text plain)

unescaped_byte : (byte : ℕ) → IsPlainByte byte → escape_byte byte ≡ byte ∷ []
unfolding escape_byte
unescaped_byte byte plain = let a = plain.low in let b = plain.unquoted in let c = plain.unescaped in grind (arith, nat_tests)

unescaped : (text : List ℕ) → IsPlainText text → escape text ≡ text
unescaped [] plain = refl
unescaped (byte ∷ text) plain = rw (unescaped_byte byte plain.0, unescaped text plain.1) refl

-- a plain text is quoted as it is
pub quoted_plain : (text : List ℕ) → IsPlainText text → quoted text ≡ json_string text
quoted_plain text plain = ap (λ (inner : List ℕ). 34 ∷ (inner ++ 34 ∷ [])) (unescaped text plain)
