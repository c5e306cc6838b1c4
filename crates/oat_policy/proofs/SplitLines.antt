-- The words of an edge hold bytes and no blank, so that they are its line split at blanks.
use Rattle.std.proofs.Common.{◌≡◌, ℕ, ◌^◌, ◌<◌, Bool, true, false, List, [], ◌∷◌, ◌++◌, length, take, Option, Some, None, inl, inr, refl, sym, ap, subst, ◌∙◌, arith}
use Rattle.std.specs.{Prelude.codes, Prelude.position, Prelude.unwrap_or, Fmt.decimal, List.All, List.AllByRecursion, List.list_all}
use Rattle.std.proofs.lemmas.{Bool.and_parts, Bool.ne_eqb, Bool.ltb-true, Fmt.decimal_nonempty, List.length-append, List.length-drop, List.length-take-le, List.Elements.All-from_recursion}
use Rattle.std.proofs.lemmas.{List.Splits.slice_split_at, List.Splits.slice_split_none}
use Rattle.oat_lines.proofs.{Decimals.decimal_digits, Hexadecimals.hexadecimal_length}
use Rattle.oat_report.specs.{is_decimal_digit, spaced, is_visible, IsField, hexadecimal, words_of, is_blank, has_bytes, Edge, PlaceName, Site, place_name, PathLine.place_text, PathLine.site_text}
use Rattle.oat_report.specs.{PathLine.bit_text, PathLine.address_digits, Map, SameLines.IsEdgeOf, SameLines.IsOfMapType}
use Rattle.oat_report.proofs.{Sites.IsNamed, Sites.named_by, Splitting.IsSiteWord, Splitting.is_place_byte, Splitting.is_nonzero_digit, Splitting.all_weaker, Splitting.place_bytes}
use Rattle.oat_report.proofs.{Splitting.place_visible, Splitting.digit_visible, Splitting.site_visible, Splitting.address_visible, Splitting.place_of_nonzero, Splitting.position_bound}
use Rattle.oat_report.proofs.{SameLines.function_named, SameLines.place_word, SameLines.name_word}
use Rattle.oat_policy.specs.{EdgeWords.edge_words, Laws.WordsSplitTheLine}
use Rattle.oat_policy.proofs.Spacing.{words_make_the_line}
use Rattle.oat_report.specs.edges as edges

-- ---- words with one space between two

no_blank : (b : ℕ) → is_visible b ≡ true → is_blank b ≡ false
no_blank b e =
    let above : 32 < b = ltb-true 32 b e in
    rw (ne_eqb b 32 (λ f. omega arith), ne_eqb b 9 (λ f. omega arith)) refl

solid : (word : List ℕ) → list_all is_visible word ≡ true → AllByRecursion (λ b. is_blank b ≡ false) word
solid [] e = tt
solid (b ∷ bs) e = let p = and_parts (is_visible b) (list_all is_visible bs) e in (no_blank b p.0, solid bs p.1)

some_bytes : (word : List ℕ) → 0 < length word → has_bytes word ≡ true
some_bytes [] some = absurd (omega arith)
some_bytes (b ∷ bs) some = refl

all_solid : (word : List ℕ) → IsField word → All (λ b. is_blank b ≡ false) word
all_solid word field = All-from_recursion (λ b. is_blank b ≡ false) word (solid word field.visible)

words_spaced : (words : List (List ℕ)) → AllByRecursion IsField words → words_of (spaced words) ≡ words
unfolding words_of
words_spaced [] fields = refl
words_spaced (word ∷ []) fields =
    rw (slice_split_none is_blank word (all_solid word fields.0), some_bytes word fields.0.nonempty) refl
words_spaced (word ∷ next ∷ words) fields =
    rw (slice_split_at is_blank word 32 (spaced (next ∷ words)) (all_solid word fields.0) refl, some_bytes word fields.0.nonempty)
    (ap (λ (rest : List (List ℕ)). word ∷ rest) (words_spaced (next ∷ words) fields.1))

-- ---- the words of an edge

some_joined : (front : List ℕ) (byte : ℕ) (rest : List ℕ) → 0 < length ((front ++ byte ∷ []) ++ rest)
some_joined front byte rest =
    let whole = length-append (front ++ byte ∷ []) rest in
    let part = length-append front (byte ∷ []) in
    omega (arith, whole, part)

some_name : (flow : Map) → IsOfMapType flow → (place : ℕ) (name : PlaceName) → IsNamed flow place name → 0 < length (place_text (Some name))
some_name flow typed place name (inl (f, has, at, same)) =
    let begun = (function_named flow typed f has).begun in
    subst (λ (n : PlaceName). 0 < length (place_text (Some n))) (sym same) (omega (arith, begun))
some_name flow typed place name (inr (b, has, at, same)) =
    subst (λ (n : PlaceName). 0 < length (place_text (Some n))) (sym same) (some_joined _ 46 b.label)

some_place : (flow : Map) → IsOfMapType flow → (place : ℕ) (o : Option PlaceName) → place_name flow place ≡ o → 0 < length (place_text o)
some_place flow typed place None is = omega arith
some_place flow typed place (Some name) is = some_name flow typed place name (named_by flow place name is)

place_field : (flow : Map) → IsOfMapType flow → (place : ℕ) → IsField (place_text (place_name flow place))
place_field flow typed place = record {
  visible = all_weaker is_place_byte is_visible place_visible (place_text (place_name flow place)) (place_bytes (place_name flow place) (place_word flow typed place));
  nonempty = some_place flow typed place (place_name flow place) refl;
}

site_field : (site : Site) → IsSiteWord site → IsField (site_text site)
site_field site words = record { visible = site_visible site words; nonempty = some_joined (place_text site.place) 35 (decimal site.number) }

number_field : (n : ℕ) → n < 2 ^ 64 → IsField (decimal n)
number_field n low = record { visible = all_weaker is_decimal_digit is_visible digit_visible (decimal n) (decimal_digits n low); nonempty = decimal_nonempty n low }

bit_field : (bit : Bool) → IsField (bit_text bit)
bit_field true = record { visible = refl; nonempty = omega arith }
bit_field false = record { visible = refl; nonempty = omega arith }

address_field : (n : ℕ) → IsField (address_digits n)
address_field n =
    let digits = hexadecimal 16 n in
    let many : length digits ≡ 16 = hexadecimal_length 16 n in
    let front : length (take 8 digits) ≡ 8 = length-take-le 8 digits (omega arith) in
    let zeros = place_of_nonzero (take 8 digits) 8 front in
    let few = position_bound (take 8 digits) in
    let left = length-drop (unwrap_or (position is_nonzero_digit (take 8 digits)) 8) digits in
    record { visible = address_visible n; nonempty = omega (arith, many, front, zeros, few, left) }

keyword_field : (keyword : List ℕ) → list_all is_visible keyword ≡ true → 0 < length keyword → IsField keyword
keyword_field keyword visible some = record { visible = visible; nonempty = some }

fields : (flow : Map) (typed : IsOfMapType flow) (edge : Edge) → IsEdgeOf flow edge → AllByRecursion IsField (edge_words flow edge)
fields flow typed (edges.Jump from to) is =
    (keyword_field (codes "jump") refl (omega arith), (site_field _ (name_word flow typed (edges.Jump from to) is).0, (place_field flow typed to, tt)))
fields flow typed (edges.Branch from bit to) is =
    (keyword_field (codes "branch") refl (omega arith), (site_field _ (name_word flow typed (edges.Branch from bit to) is).0, (bit_field bit, (place_field flow typed to, tt))))
fields flow typed (edges.Call from to) is =
    (keyword_field (codes "call") refl (omega arith), (site_field _ (name_word flow typed (edges.Call from to) is).0, (place_field flow typed to, tt)))
fields flow typed (edges.ICall from to) is =
    (keyword_field (codes "icall") refl (omega arith), (site_field _ (name_word flow typed (edges.ICall from to) is).0, (place_field flow typed to, tt)))
fields flow typed (edges.Ret from to) is =
    let words = name_word flow typed (edges.Ret from to) is in
    (keyword_field (codes "ret") refl (omega arith), (site_field _ words.0, (site_field _ words.1, tt)))
fields flow typed (edges.End op) is =
    (keyword_field (codes "end") refl (omega arith), (number_field op (name_word flow typed (edges.End op) is), tt))
fields flow typed (edges.Stray from to) is = (keyword_field (codes "stray") refl (omega arith), (address_field from, (address_field to, tt)))

pub words_split_the_line : WordsSplitTheLine
words_split_the_line flow edge typed is =
    sym (ap words_of (words_make_the_line flow edge)) ∙ words_spaced (edge_words flow edge) (fields flow typed edge is)
