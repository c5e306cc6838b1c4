-- A case that a text stands for can be given to a run.
use Rattle.std.proofs.Common.{◌≡◌, ◌<◌, ◌^◌, ℕ, ℤ, pos, negsuc, List, [], ◌∷◌, Option, Some, None, refl, subst}
use Rattle.std.specs.{Prelude.FitsSigned, Prelude.IsTrue, Int.w64, List.All, List.AllByRecursion, List.cons_option, List.filter_map}
use Rattle.std.proofs.lemmas.{Bool.ltb-true, List.get_or_default, List.Elements.All-from_recursion}
use Rattle.hex.proofs.HexLemmas.{decode_of-ok}
use Rattle.oat_lines.proofs.Steps.{some_is}
use Rattle.oat_room_attest.specs.{is_i64, TextWord, Case, Write, IsCaseText, SaysStatement, SayStatements, Statement, InputIs, WriteIs, input_in, write_in, WritesCanBeMade, AreGiven}

-- what each statement gives, all those that are said give
all_said : {X : Type 0} (gives : Statement → Option X) (P : X → Type 0)
    → ((words : List TextWord) (said : Statement) (x : X) → SaysStatement words said → gives said ≡ Some x → P x)
    → (lines : List (List TextWord)) (statements : List Statement) → SayStatements lines statements → AllByRecursion P (filter_map gives statements)
all_said gives P each [] [] says = tt
all_said gives P each [] (s ∷ statements) says = absurd says
all_said gives P each (words ∷ lines) [] says = absurd says
all_said {X} gives P each (words ∷ lines) (s ∷ statements) says = by (gives s) refl (all_said gives P each lines statements says.1)
  where
    by : (o : Option X) → gives s ≡ o → AllByRecursion P (filter_map gives statements) → AllByRecursion P (cons_option o (filter_map gives statements))
    by None is rest = rest
    by (Some x) is rest = (each words s x says.0 is, rest)

i64_fits : (value : ℤ) → IsTrue (is_i64 value) → FitsSigned w64 value
i64_fits (pos n) within = record { sfits = ltb-true n (2 ^ 63) within }
i64_fits (negsuc n) within = record { sfits = ltb-true n (2 ^ 63) within }

input_fits : (words : List TextWord) (said : Statement) (value : ℤ) → SaysStatement words said → input_in said ≡ Some value → FitsSigned w64 value
input_fits words (InputIs one) value says is = subst (FitsSigned w64) (some_is one value is) (i64_fits one says.3)
input_fits words said value says is = absurd cc

abbrev HasBytes : Write → Type 0
HasBytes write = All (λ byte. byte < 256) write.bytes

write_has_bytes : (words : List TextWord) (said : Statement) (write : Write) → SaysStatement words said → write_in said ≡ Some write → HasBytes write
write_has_bytes words (WriteIs made) write (number, place, digits, words_are, before, address, decoded) is =
    let bytes = (decode_of-ok digits made.bytes decoded).3 in
    subst HasBytes (some_is made write is) (λ k d below. subst (λ (byte : ℕ). byte < 256) (get_or_default made.bytes k 0 d below) (bytes k))
write_has_bytes words said write says is = absurd cc

inputs_fit : (text : List ℕ) (case : Case) → IsCaseText text case → All (FitsSigned w64) case.inputs
inputs_fit text case stands =
    subst (All (FitsSigned w64)) stands.inputs
    (All-from_recursion (FitsSigned w64) (filter_map input_in stands.statements)
    (all_said input_in (FitsSigned w64) input_fits stands.lines stands.statements stands.each))

writes_have_bytes : (text : List ℕ) (case : Case) → IsCaseText text case → All HasBytes case.writes
writes_have_bytes text case stands =
    subst (All HasBytes) stands.writes
    (All-from_recursion HasBytes (filter_map write_in stands.statements)
    (all_said write_in HasBytes write_has_bytes stands.lines stands.statements stands.each))

pub case_is_given : WritesCanBeMade → (text : List ℕ) (case : Case) → IsCaseText text case → AreGiven case.inputs case.writes
case_is_given made text case stands =
    let fit = made case stands.limits in
    let bytes = writes_have_bytes text case stands in
    record {
      inputs_fit = inputs_fit text case stands;
      writes_fit = λ k d below. record { within = fit.0 k d below; bytes = bytes k d below };
      rising = fit.1;
    }
