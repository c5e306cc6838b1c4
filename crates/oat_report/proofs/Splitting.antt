-- Names of edges with one text are the same: keywords, spaces and marks part a line in one way.
use Rattle.std.proofs.Common.{◌≡◌, ℕ, zero, suc, ◌+◌, ◌^◌, ◌<◌, ◌≤◌, Bool, true, false, not, ◌||◌, eqb, List, [], ◌∷◌, ◌++◌, length, take, drop, Option, Some, None, refl, sym, ap, ◌∙◌, inl, inr}
use Rattle.std.proofs.Common.{append_assoc, arith}
use Rattle.std.specs.{Prelude.codes, Prelude.position, Prelude.unwrap_or, Fmt.decimal, List.list_all, List.position_or_len, Str.Parse.digits_value}
use Rattle.std.proofs.lemmas.{Bool.cases_Bool, Bool.cases_lt, Bool.and_parts, Bool.false≢true, Bool.eqb-true, Bool.lt-ltb, Bool.le-ltb, Bool.Decides.nat_tests, Fmt.decimal_injective}
use Rattle.std.proofs.lemmas.{List.append_cancel_left, List.length-take-le, List.Folds.list_all-append}
use Rattle.oat_lines.proofs.{Decimals.decimal_digits, Hexadecimals.hexadecimal_length, Hexadecimals.hexadecimal_digits, Hexadecimals.hexadecimal_again, Steps.chosen}
use Rattle.oat_verify.specs.{is_decimal_digit, is_visible, hexadecimal, is_hexadecimal_digit, is_name_byte, PlaceName, Site, EdgeName, jump, branch, call, icall, return, finish, stray}
use Rattle.oat_report.specs.PathLine.{name_in, place_text, site_text, bit_text, address_digits, name_text}

-- ---- lists of bytes that pass a test

pub all_weaker : (test weaker : ℕ → Bool) → ((c : ℕ) → test c ≡ true → weaker c ≡ true) → (text : List ℕ)
    → list_all test text ≡ true → list_all weaker text ≡ true
all_weaker test weaker from [] all = refl
all_weaker test weaker from (c ∷ text) all =
    let parts = and_parts (test c) (list_all test text) all in
    rw (from c parts.0, all_weaker test weaker from text parts.1) refl

all_joined : (test : ℕ → Bool) (front rest : List ℕ) → list_all test front ≡ true → list_all test rest ≡ true → list_all test (front ++ rest) ≡ true
all_joined test front rest one other = rw (list_all-append test front rest, one, other) refl

all_behind : (test : ℕ → Bool) (k : ℕ) (text : List ℕ) → list_all test text ≡ true → list_all test (drop k text) ≡ true
all_behind test zero text all = all
all_behind test (suc k) [] all = refl
all_behind test (suc k) (c ∷ text) all = all_behind test k text (and_parts (test c) (list_all test text) all).1

lacks : (test : ℕ → Bool) (byte : ℕ) (front rest : List ℕ) → test byte ≡ false → list_all test (front ++ byte ∷ rest) ≡ true → ⊥
lacks test byte [] rest stops all = let parts = and_parts (test byte) (list_all test rest) all in absurd cc
lacks test byte (c ∷ front) rest stops all = lacks test byte front rest stops (and_parts (test c) (list_all test (front ++ byte ∷ rest)) all).1

-- a text is parted in one way by the first byte that fails
parted : (test : ℕ → Bool) (byte : ℕ) (front other rest more : List ℕ) → test byte ≡ false → list_all test front ≡ true → list_all test other ≡ true
    → front ++ byte ∷ rest ≡ other ++ byte ∷ more → (front ≡ other) × (rest ≡ more)
parted test byte [] [] rest more stops all all_other same = (refl, cc)
parted test byte [] (c ∷ other) rest more stops all all_other same =
    let head : byte ≡ c = cc in
    let passes = (and_parts (test c) (list_all test other) all_other).0 in
    absurd (false≢true (sym stops ∙ ap test head ∙ passes))
parted test byte (c ∷ front) [] rest more stops all all_other same =
    let head : byte ≡ c = cc in
    let passes = (and_parts (test c) (list_all test front) all).0 in
    absurd (false≢true (sym stops ∙ ap test head ∙ passes))
parted test byte (c ∷ front) (d ∷ other) rest more stops all all_other same =
    let head : c ≡ d = cc in
    let tail : front ++ byte ∷ rest ≡ other ++ byte ∷ more = cc in
    let parts = parted test byte front other rest more stops (and_parts (test c) (list_all test front) all).1 (and_parts (test d) (list_all test other) all_other).1 tail in
    (cc, parts.1)

-- a byte between two texts belongs to the second
regrouped : (front : List ℕ) (byte : ℕ) (rest : List ℕ) → (front ++ byte ∷ []) ++ rest ≡ front ++ byte ∷ rest
regrouped front byte rest = append_assoc front (byte ∷ []) rest

abbrev first_byte : List ℕ → ℕ
first_byte [] = 0
first_byte (c ∷ text) = c

-- ---- places

-- the bytes of names alone
abbrev pub IsWord : List ℕ → Type 0
IsWord text = list_all is_name_byte text ≡ true

abbrev pub IsBlockWord : Option (List ℕ) → Type 0
IsBlockWord None = Unit {0}
IsBlockWord (Some block) = IsWord block

abbrev pub IsPlaceWord : Option PlaceName → Type 0
IsPlaceWord None = Unit {0}
IsPlaceWord (Some place) = IsWord place.function × IsBlockWord place.block

abbrev pub is_place_byte : ℕ → Bool
is_place_byte c = is_name_byte c || eqb c 46 || eqb c 45

of_place : (c : ℕ) → is_name_byte c ≡ true → is_place_byte c ≡ true
of_place c passes = rw passes refl

name_bytes : (function : List ℕ) (block : Option (List ℕ)) → IsWord function → IsBlockWord block → list_all is_place_byte (name_in function block) ≡ true
name_bytes function None word words = all_weaker is_name_byte is_place_byte of_place function word
name_bytes function (Some block) word words =
    rw (regrouped function 46 block) (all_joined is_place_byte function (46 ∷ block) (all_weaker is_name_byte is_place_byte of_place function word)
    (all_weaker is_name_byte is_place_byte of_place block words))

pub place_bytes : (place : Option PlaceName) → IsPlaceWord place → list_all is_place_byte (place_text place) ≡ true
place_bytes None words = refl
place_bytes (Some place) words = name_bytes place.function place.block words.0 words.1

no_dash : (function : List ℕ) (block : Option (List ℕ)) → IsWord function → 45 ∷ [] ≡ name_in function block → ⊥
no_dash function None word same = (let fails : list_all is_name_byte (45 ∷ []) ≡ true = ap (list_all is_name_byte) same ∙ word in false≢true fails)
no_dash [] (Some block) word same = let head : Path ℕ 45 46 = ap first_byte same in omega arith
no_dash (c ∷ function) (Some block) word same =
    let head : 45 ≡ c = ap first_byte same in
    false≢true (ap is_name_byte head ∙ (and_parts (is_name_byte c) (list_all is_name_byte function) word).0)

one_name_in : (f g : List ℕ) (b c : Option (List ℕ)) → IsWord f → IsWord g → name_in f b ≡ name_in g c → (f ≡ g) × (b ≡ c)
one_name_in f g None None word other same = (same, refl)
one_name_in f g None (Some c) word other same = absurd (lacks is_name_byte 46 g c refl (ap (list_all is_name_byte) (sym (same ∙ regrouped g 46 c)) ∙ word))
one_name_in f g (Some b) None word other same = absurd (lacks is_name_byte 46 f b refl (ap (list_all is_name_byte) (sym (regrouped f 46 b) ∙ same) ∙ other))
one_name_in f g (Some b) (Some c) word other same =
    let parts = parted is_name_byte 46 f g b c refl word other (sym (regrouped f 46 b) ∙ same ∙ regrouped g 46 c) in
    (parts.0, ap Some parts.1)

one_place_text : (p q : Option PlaceName) → IsPlaceWord p → IsPlaceWord q → place_text p ≡ place_text q → p ≡ q
one_place_text None None word other same = refl
one_place_text None (Some q) word other same = absurd (no_dash q.function q.block other.0 same)
one_place_text (Some p) None word other same = absurd (no_dash p.function p.block word.0 (sym same))
one_place_text (Some p) (Some q) word other same =
    let parts = one_name_in p.function q.function p.block q.block word.0 other.0 same in
    ap (λ (f : List ℕ). Some (record { function = f; block = p.block })) parts.0
    ∙ ap (λ (b : Option (List ℕ)). Some (record { function = q.function; block = b })) parts.1

-- ---- sites

abbrev pub IsSiteWord : Site → Type 0
IsSiteWord site = IsPlaceWord site.place × (site.number < 2 ^ 64)

pub place_visible : (c : ℕ) → is_place_byte c ≡ true → is_visible c ≡ true
place_visible c passes = grind (arith, nat_tests)

pub digit_visible : (c : ℕ) → is_decimal_digit c ≡ true → is_visible c ≡ true
digit_visible c passes = grind (arith, nat_tests)

pub site_visible : (site : Site) → IsSiteWord site → list_all is_visible (site_text site) ≡ true
site_visible site words =
    rw (regrouped (place_text site.place) 35 (decimal site.number))
    (all_joined is_visible (place_text site.place) (35 ∷ decimal site.number)
    (all_weaker is_place_byte is_visible place_visible (place_text site.place) (place_bytes site.place words.0))
    (all_weaker is_decimal_digit is_visible digit_visible (decimal site.number) (decimal_digits site.number words.1)))

one_site_text : (s t : Site) → IsSiteWord s → IsSiteWord t → site_text s ≡ site_text t → s ≡ t
one_site_text s t words others same =
    let parts = parted is_place_byte 35 (place_text s.place) (place_text t.place) (decimal s.number) (decimal t.number) refl
    (place_bytes s.place words.0) (place_bytes t.place others.0)
    (sym (regrouped (place_text s.place) 35 (decimal s.number)) ∙ same ∙ regrouped (place_text t.place) 35 (decimal t.number)) in
    let place = one_place_text s.place t.place words.0 others.0 parts.0 in
    let number = decimal_injective s.number t.number words.1 others.1 parts.1 in
    ap (λ (p : Option PlaceName). record { place = p; number = s.number }) place
    ∙ ap (λ (n : ℕ). record { place = t.place; number = n }) number

-- a site and what stands behind the space
behind_site : (s t : Site) (rest more : List ℕ) → IsSiteWord s → IsSiteWord t → site_text s ++ 32 ∷ rest ≡ site_text t ++ 32 ∷ more → (s ≡ t) × (rest ≡ more)
behind_site s t rest more words others same =
    let parts = parted is_visible 32 (site_text s) (site_text t) rest more refl (site_visible s words) (site_visible t others) same in
    (one_site_text s t words others parts.0, parts.1)

site_and_place : (s t : Site) (p q : Option PlaceName) → IsSiteWord s × IsPlaceWord p → IsSiteWord t × IsPlaceWord q
    → site_text s ++ 32 ∷ place_text p ≡ site_text t ++ 32 ∷ place_text q → (s ≡ t) × (p ≡ q)
site_and_place s t p q words others same =
    let parts = behind_site s t (place_text p) (place_text q) words.0 others.0 same in
    (parts.0, one_place_text p q words.1 others.1 parts.1)

one_bit : (bit other : Bool) (p q : Option PlaceName) → IsPlaceWord p → IsPlaceWord q
    → bit_text bit ++ 32 ∷ place_text p ≡ bit_text other ++ 32 ∷ place_text q → (bit ≡ other) × (p ≡ q)
one_bit true true p q words others same = (refl, one_place_text p q words others cc)
one_bit false false p q words others same = (refl, one_place_text p q words others cc)
one_bit true false p q words others same = let heads : Path ℕ 49 48 = ap first_byte same in absurd (omega arith)
one_bit false true p q words others same = let heads : Path ℕ 48 49 = ap first_byte same in absurd (omega arith)

-- ---- addresses

abbrev pub is_nonzero_digit : ℕ → Bool
is_nonzero_digit digit = not (eqb digit 48)

one_more : (n : ℕ) → 1 + n ≡ suc n
one_more n = omega arith

-- zeros in front don't change a number
zeros_skipped : (m : ℕ) (ds : List ℕ) → digits_value 16 (drop (position_or_len is_nonzero_digit (take m ds)) ds) ≡ digits_value 16 ds
zeros_skipped zero ds = refl
zeros_skipped (suc m) [] = refl
zeros_skipped (suc m) (d ∷ ds) =
    elim (cases_Bool (eqb d 48)) [
      | inl is_zero ↦ rw (is_zero, one_more) (zeros_skipped m ds ∙ ap (λ (c : ℕ). digits_value 16 (c ∷ ds)) (sym (eqb-true d 48 is_zero)))
      | inr other ↦ rw other refl
    ]

pub position_bound : (xs : List ℕ) → position_or_len is_nonzero_digit xs ≤ length xs
position_bound [] = omega arith
position_bound (x ∷ xs) =
    elim (cases_Bool (eqb x 48)) [
      | inl is_zero ↦ rw is_zero (omega (arith, position_bound xs))
      | inr other ↦ rw other (omega arith)
    ]

pub place_of_nonzero : (xs : List ℕ) (n : ℕ) → length xs ≡ n → unwrap_or (position is_nonzero_digit xs) n ≡ position_or_len is_nonzero_digit xs
place_of_nonzero xs n many =
    elim (cases_lt (position_or_len is_nonzero_digit xs) (length xs)) [
      | inl within ↦ rw (lt-ltb (position_or_len is_nonzero_digit xs) (length xs) within) refl
      | inr past ↦ rw (le-ltb (position_or_len is_nonzero_digit xs) (length xs) past) (omega (arith, position_bound xs))
    ]

address_value : (n : ℕ) → n < 2 ^ 64 → digits_value 16 (address_digits n) ≡ n
address_value n low =
    let digits = hexadecimal 16 n in
    let many : length digits ≡ 16 = hexadecimal_length 16 n in
    let front : length (take 8 digits) ≡ 8 = length-take-le 8 digits (omega arith) in
    ap (λ (k : ℕ). digits_value 16 (drop k digits)) (place_of_nonzero (take 8 digits) 8 front)
    ∙ zeros_skipped 8 digits
    ∙ (chosen _ _ n (hexadecimal_again 16 n low)).1

hexadecimal_visible : (c : ℕ) → is_hexadecimal_digit c ≡ true → is_visible c ≡ true
hexadecimal_visible c passes = grind (arith, nat_tests)

pub address_visible : (n : ℕ) → list_all is_visible (address_digits n) ≡ true
address_visible n = all_behind is_visible _ (hexadecimal 16 n) (all_weaker is_hexadecimal_digit is_visible hexadecimal_visible (hexadecimal 16 n) (hexadecimal_digits 16 n))

one_address : (m n : ℕ) → m < 2 ^ 64 → n < 2 ^ 64 → address_digits m ≡ address_digits n → m ≡ n
one_address m n low other same = sym (address_value m low) ∙ ap (digits_value 16) same ∙ address_value n other

-- ---- names

abbrev pub IsNameWord : EdgeName → Type 0
IsNameWord (jump site place) = IsSiteWord site × IsPlaceWord place
IsNameWord (branch site bit place) = IsSiteWord site × IsPlaceWord place
IsNameWord (call site place) = IsSiteWord site × IsPlaceWord place
IsNameWord (icall site place) = IsSiteWord site × IsPlaceWord place
IsNameWord (return site called_from) = IsSiteWord site × IsSiteWord called_from
IsNameWord (finish op) = op < 2 ^ 64
IsNameWord (stray from to) = (from < 2 ^ 64) × (to < 2 ^ 64)

-- a line by its keyword, its site and the rest
line_parts : (keyword site rest : List ℕ) → ((keyword ++ site) ++ 32 ∷ []) ++ rest ≡ keyword ++ (site ++ 32 ∷ rest)
line_parts keyword site rest = regrouped (keyword ++ site) 32 rest ∙ append_assoc keyword site (32 ∷ rest)

branch_parts : (keyword site bit place : List ℕ)
    → ((((keyword ++ site) ++ 32 ∷ []) ++ bit) ++ 32 ∷ []) ++ place ≡ keyword ++ (site ++ 32 ∷ (bit ++ 32 ∷ place))
branch_parts keyword site bit place =
    regrouped (((keyword ++ site) ++ 32 ∷ []) ++ bit) 32 place ∙ append_assoc ((keyword ++ site) ++ 32 ∷ []) bit (32 ∷ place)
    ∙ line_parts keyword site (bit ++ 32 ∷ place)

-- lines with one keyword
behind_keyword : (keyword site rest other more : List ℕ)
    → ((keyword ++ site) ++ 32 ∷ []) ++ rest ≡ ((keyword ++ other) ++ 32 ∷ []) ++ more → site ++ 32 ∷ rest ≡ other ++ 32 ∷ more
behind_keyword keyword site rest other more same =
    append_cancel_left keyword (site ++ 32 ∷ rest) (other ++ 32 ∷ more)
    (sym (line_parts keyword site rest) ∙ same ∙ line_parts keyword other more)

-- the first letter of a name's text, by which kinds of edges differ
abbrev initial : EdgeName → ℕ
initial (jump site place) = 106
initial (branch site bit place) = 98
initial (call site place) = 99
initial (icall site place) = 105
initial (return site called_from) = 114
initial (finish op) = 101
initial (stray from to) = 115

initial_is : (name : EdgeName) → first_byte (name_text name) ≡ initial name
initial_is (jump site place) = refl
initial_is (branch site bit place) = refl
initial_is (call site place) = refl
initial_is (icall site place) = refl
initial_is (return site called_from) = refl
initial_is (finish op) = refl
initial_is (stray from to) = refl

one_initial : (name other : EdgeName) → name_text name ≡ name_text other → initial name ≡ initial other
one_initial name other same = sym (initial_is name) ∙ ap first_byte same ∙ initial_is other

pub one_name : (name other : EdgeName) → IsNameWord name → IsNameWord other → name_text name ≡ name_text other → name ≡ other
one_name (jump s p) (jump t q) words others same =
    let parts = site_and_place s t p q words others (behind_keyword (codes "jump ") (site_text s) (place_text p) (site_text t) (place_text q) same) in
    ap (λ (u : Site). jump u p) parts.0 ∙ ap (jump t) parts.1
one_name (call s p) (call t q) words others same =
    let parts = site_and_place s t p q words others (behind_keyword (codes "call ") (site_text s) (place_text p) (site_text t) (place_text q) same) in
    ap (λ (u : Site). call u p) parts.0 ∙ ap (call t) parts.1
one_name (icall s p) (icall t q) words others same =
    let parts = site_and_place s t p q words others (behind_keyword (codes "icall ") (site_text s) (place_text p) (site_text t) (place_text q) same) in
    ap (λ (u : Site). icall u p) parts.0 ∙ ap (icall t) parts.1
one_name (branch s b p) (branch t c q) words others same =
    let rest = append_cancel_left (codes "branch ") (site_text s ++ 32 ∷ (bit_text b ++ 32 ∷ place_text p)) (site_text t ++ 32 ∷ (bit_text c ++ 32 ∷ place_text q))
    (sym (branch_parts (codes "branch ") (site_text s) (bit_text b) (place_text p)) ∙ same ∙ branch_parts (codes "branch ") (site_text t) (bit_text c) (place_text q)) in
    let parts = behind_site s t (bit_text b ++ 32 ∷ place_text p) (bit_text c ++ 32 ∷ place_text q) words.0 others.0 rest in
    let ends = one_bit b c p q words.1 others.1 parts.1 in
    ap (λ (u : Site). branch u b p) parts.0 ∙ ap (λ (d : Bool). branch t d p) ends.0 ∙ ap (branch t c) ends.1
one_name (return s p) (return t q) words others same =
    let parts = behind_site s t (site_text p) (site_text q) words.0 others.0 (behind_keyword (codes "ret ") (site_text s) (site_text p) (site_text t) (site_text q) same) in
    ap (λ (u : Site). return u p) parts.0 ∙ ap (return t) (one_site_text p q words.1 others.1 parts.1)
one_name (finish op) (finish other) words others same =
    ap finish (decimal_injective op other words others (append_cancel_left (codes "end ") (decimal op) (decimal other) same))
one_name (stray from to) (stray other there) words others same =
    let parts = parted is_visible 32 (address_digits from) (address_digits other) (address_digits to) (address_digits there) refl
    (address_visible from) (address_visible other)
    (behind_keyword (codes "stray ") (address_digits from) (address_digits to) (address_digits other) (address_digits there) same) in
    ap (λ (a : ℕ). stray a to) (one_address from other words.0 others.0 parts.0) ∙ ap (stray other) (one_address to there words.1 others.1 parts.1)
one_name name other words others same = let letter : Path ℕ (initial name) (initial other) = one_initial name other same in absurd (omega arith)
