-- The text of the value that is made of a report is the report's line.
use Rattle.std.proofs.Common.{◌≡◌, ◌∙◌, ◌<◌, ◌≤◌, ◌+◌, ℕ, zero, suc, ℤ, pos, negsuc, Bool, true, false, List, [], ◌∷◌, ◌++◌, map, take, length, get_or, Option, Some, None, is_some, refl, sym, ap}
use Rattle.std.proofs.Common.{arith, append_assoc, codes}
use Rattle.std.specs.{List.AllByRecursion, Fmt.signed_decimal}
use Rattle.std.proofs.lemmas.List.{map_push, take_more, take_all}
use Rattle.json.specs.Print.{quoted}
use Rattle.serde_json.specs.{Data.Data, Data.boolean, Data.string, Data.array, Data.object, Data.Members, Data.member, View.view, View.items_of, View.items_view, Written.has_float}
use Rattle.serde_json.specs.{Written.items_have_float, Written.members_have_float, Written.compact_text, Written.items_text, Written.members_text, declared.value.Value.Value}
use Rattle.oat_verify.specs.{declared.verdict.Verdict.Verdict, declared.verdict.Verdict.TheVariants.Accept, declared.verdict.Verdict.TheVariants.Refuse}
use Rattle.oat_report.specs.{declared.json_report.Report.Report, VerdictLine.cause_text, JsonLine.json_string, JsonLine.json_bool, JsonLine.behind_commas, JsonLine.json_array, JsonLine.json_member}
use Rattle.oat_report.specs.{JsonLine.json_object, JsonLine.is_accepted, JsonLine.cause_member, JsonLine.serial_member, JsonLine.json_text, JsonLine.IsPlainText, JsonLine.IsPlainReport}
use Rattle.oat_report.specs.{JsonData.number_data, JsonData.with_cause, JsonData.serial_members, JsonData.report_members}
use Rattle.oat_report.proofs.PlainTexts.{is_plain, plain_text, cause_is_plain, quoted_plain}

-- ---- loops that make the values of a list

-- one value more
pub value_more : {X : Type 0} (f : X → Data) (xs : List X) (values : List Value) (value : Value) (k : ℕ) (x : X)
    → k < length xs → map view values ≡ map f (take k xs) → view value ≡ f (get_or xs k x)
    → map view (values ++ value ∷ []) ≡ map f (take (k + 1) xs)
value_more f xs values value k x within before is =
    rw (map_push view values value, take_more xs k x within, map_push f (take k xs) (get_or xs k x), before, is) refl

-- all of them
pub values_all : {X : Type 0} (f : X → Data) (xs : List X) (values : List Value) (k : ℕ)
    → length xs ≤ k → map view values ≡ map f (take k xs) → array (items_view values) ≡ array (items_of (map f xs))
values_all f xs values k behind before = ap (λ (items : List Data). array (items_of items)) (before ∙ ap (map f) (take_all k xs behind))

-- each of plain texts is plain
pub plain_at : (texts : List (List ℕ)) (k : ℕ) (or : List ℕ) → AllByRecursion IsPlainText texts → k < length texts → IsPlainText (get_or texts k or)
plain_at [] k or plain within = absurd (omega (arith, within))
plain_at (text ∷ texts) zero or plain within = plain.0
plain_at (text ∷ texts) (suc k) or plain within = plain_at texts k or plain.1 (omega (arith, within))

-- ---- texts

-- the text of a value
record IsSaid (d : Data) (text : List ℕ) : Type 0 where
  is : compact_text d ≡ text

-- the text of members behind others
record AreSaid (members : Members) (texts : List (List ℕ)) : Type 0 where
  are : members_text true members ≡ behind_commas texts ++ 125 ∷ []

number_said : (z : ℤ) → IsSaid (number_data z) (signed_decimal z)
number_said (pos n) = record { is = refl }
number_said (negsuc n) = record { is = refl }

string_said : (text : List ℕ) → IsPlainText text → IsSaid (string text) (json_string text)
string_said text plain = record { is = quoted_plain text plain }

bool_said : (value : Bool) → IsSaid (boolean value) (json_bool value)
bool_said true = record { is = refl }
bool_said false = record { is = refl }

-- ---- arrays

module _ {X : Type 0} (f : X → Data) (say : X → List ℕ) where
  items_said : (xs : List X) → AllByRecursion (λ x. IsSaid (f x) (say x)) xs → items_text true (items_of (map f xs)) ≡ behind_commas (map say xs) ++ 93 ∷ []
  items_said [] said = refl
  items_said (x ∷ xs) said =
      rw (said.0.is, items_said xs said.1) (ap (λ (rest : List ℕ). 44 ∷ rest) (sym (append_assoc (say x) (behind_commas (map say xs)) (93 ∷ []))))

  array_said : (xs : List X) → AllByRecursion (λ x. IsSaid (f x) (say x)) xs → IsSaid (array (items_of (map f xs))) (json_array (map say xs))
  array_said [] said = record { is = refl }
  array_said (x ∷ xs) said = record {
    is = rw (said.0.is, items_said xs said.1) (ap (λ (rest : List ℕ). 91 ∷ rest) (sym (append_assoc (say x) (behind_commas (map say xs)) (93 ∷ []))));
  }

numbers_said : (zs : List ℤ) → AllByRecursion (λ z. IsSaid (number_data z) (signed_decimal z)) zs
numbers_said [] = tt
numbers_said (z ∷ zs) = (number_said z, numbers_said zs)

strings_said : (texts : List (List ℕ)) → AllByRecursion IsPlainText texts → AllByRecursion (λ text. IsSaid (string text) (json_string text)) texts
strings_said [] plain = tt
strings_said (text ∷ texts) plain = (string_said text plain.0, strings_said texts plain.1)

-- ---- members

member_said : (key : List ℕ) (d : Data) (said : List ℕ) (ms : Members) (rest : List (List ℕ)) → IsPlainText key → IsSaid d said → AreSaid ms rest
    → quoted key ++ 58 ∷ (compact_text d ++ members_text true ms) ≡ (json_member key said ++ behind_commas rest) ++ 125 ∷ []
member_said key d said ms rest plain value behind =
    ap (λ (q : List ℕ). q ++ 58 ∷ (compact_text d ++ members_text true ms)) (quoted_plain key plain)
    ∙ ap (λ (c : List ℕ). json_string key ++ 58 ∷ (c ++ members_text true ms)) value.is
    ∙ ap (λ (m : List ℕ). json_string key ++ 58 ∷ (said ++ m)) behind.are
    ∙ simp append_assoc

-- one member more in front
more_said : (key : List ℕ) {d : Data} {said : List ℕ} {ms : Members} {rest : List (List ℕ)} → IsPlainText key → IsSaid d said → AreSaid ms rest
    → AreSaid (member key d ms) (json_member key said ∷ rest)
more_said key {d} {said} {ms} {rest} plain value behind = record { are = ap (λ (t : List ℕ). 44 ∷ t) (member_said key d said ms rest plain value behind) }

cause_said : (verdict : Option Verdict) {ms : Members} {rest : List (List ℕ)} → AreSaid ms rest → AreSaid (with_cause verdict ms) (cause_member verdict ++ rest)
unfolding is_plain
cause_said (Some (Refuse cause)) behind = more_said (codes "cause") (plain_text (codes "cause") refl) (string_said (cause_text cause) (cause_is_plain cause)) behind
cause_said (Some (Accept path)) behind = behind
cause_said None behind = behind

serial_said : (serial : Option ℕ) → AreSaid (serial_members serial) (serial_member serial)
unfolding is_plain
serial_said None = record { are = refl }
serial_said (Some serial) = more_said (codes "serial") (plain_text (codes "serial") refl) (record { is = refl }) (record { are = refl })

first_said : (key : List ℕ) {d : Data} {said : List ℕ} {ms : Members} {rest : List (List ℕ)} → IsPlainText key → IsSaid d said → AreSaid ms rest
    → compact_text (object (member key d ms)) ≡ json_object (json_member key said ∷ rest)
first_said key {d} {said} {ms} {rest} plain value behind = ap (λ (t : List ℕ). 123 ∷ t) (member_said key d said ms rest plain value behind)

pub report_said : (report : Report) → IsPlainReport report → compact_text (object (report_members report)) ≡ json_text report
unfolding is_plain
report_said report plain =
    let outputs = array_said number_data signed_decimal report.outputs (numbers_said report.outputs) in
    let path = array_said string json_string report.path (strings_said report.path plain.path) in
    let from_sealed = more_said (codes "sealed") (plain_text (codes "sealed") refl) (bool_said (is_some report.verdict)) (serial_said report.serial) in
    let from_path = more_said (codes "path") (plain_text (codes "path") refl) path from_sealed in
    let from_outputs = more_said (codes "outputs") (plain_text (codes "outputs") refl) outputs from_path in
    let from_end = more_said (codes "end") (plain_text (codes "end") refl) (string_said report.end plain.end) from_outputs in
    first_said (codes "accepted") (plain_text (codes "accepted") refl) (bool_said (is_accepted report.verdict)) (cause_said report.verdict from_end)

-- ---- no number is a float

integer_items : (zs : List ℤ) → items_have_float (items_of (map number_data zs)) ≡ false
integer_items [] = refl
integer_items (pos n ∷ zs) = integer_items zs
integer_items (negsuc n ∷ zs) = integer_items zs

string_items : (texts : List (List ℕ)) → items_have_float (items_of (map string texts)) ≡ false
string_items [] = refl
string_items (text ∷ texts) = string_items texts

cause_whole : (verdict : Option Verdict) (rest : Members) → members_have_float (with_cause verdict rest) ≡ members_have_float rest
cause_whole (Some (Refuse cause)) rest = refl
cause_whole (Some (Accept path)) rest = refl
cause_whole None rest = refl

serial_whole : (serial : Option ℕ) → members_have_float (serial_members serial) ≡ false
serial_whole None = refl
serial_whole (Some serial) = refl

pub report_whole : (report : Report) → has_float (object (report_members report)) ≡ false
report_whole report = rw (cause_whole report.verdict _, integer_items report.outputs, string_items report.path, serial_whole report.serial) refl
