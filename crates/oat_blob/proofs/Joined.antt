-- A part behind a part: where the two stand whole, and where they stop.
use Rattle.std.proofs.Common.{◌≡◌, ℕ, zero, suc, ◌+◌, ◌≤◌, List, [], ◌∷◌, ◌++◌, length, take, drop, refl, ap, sym, subst, ◌∙◌, arith, append_assoc, length-append, ◌⊎◌, inl, inr}
use Rattle.std.proofs.Math.Seq.{take-append-add}
use Rattle.std.proofs.lemmas.List.{append-nil, append_cancel_left, length-take-le, take-append-drop, take-append-le, take_at}
use Rattle.oat_blob.specs.Parts.{IsFront, Breaks}
use Rattle.oat_blob.proofs.Parts.{IsPart}

abbrev pub joined_part : {X Y : Type 0} → (X → List ℕ) → (Y → List ℕ) → X × Y → List ℕ
joined_part first second both = first both.0 ++ second both.1

-- what fits behind may depend on what stands in front
abbrev pub joined_fits : {X Y : Type 0} → (X → Type 0) → (X → Y → Type 0) → X × Y → Type 0
joined_fits first second both = first both.0 × second both.0 both.1

take_front : (n : ℕ) (front rest : List ℕ) → (more : List ℕ) × (take n (front ++ rest) ≡ take n front ++ more)
take_front zero front rest = ([], refl)
take_front (suc n) [] rest = (take (suc n) rest, refl)
take_front (suc n) (x ∷ front) rest = let cut = take_front n front rest in (cut.0, ap (λ xs. x ∷ xs) cut.1)

-- so many bytes are within a list, or are the list and more
within : (n : ℕ) (xs : List ℕ) → (n ≤ length xs) ⊎ ((more : ℕ) × (n ≡ length xs + more))
within zero xs = inl (omega arith)
within (suc n) [] = inr (suc n, omega arith)
within (suc n) (x ∷ xs) = elim (within n xs) [ inl fits ↦ inl (omega arith) | inr past ↦ inr (past.0, (let at = past.1 in omega arith)) ]

take_to : (n more : ℕ) (front rest : List ℕ) → n ≡ length front + more → take n (front ++ rest) ≡ front ++ take more rest
take_to n more front rest at = ap (λ m. take m (front ++ rest)) at ∙ take-append-add front rest more

-- a spelling as the front of another
goes_on : (text middle other rest : List ℕ) (n more : ℕ) → n ≡ length text + more → n ≤ length other → text ++ middle ≡ take n other ++ rest → text ++ (take more middle ++ drop n other) ≡ other ++ []
goes_on text middle other rest n more at short same =
    let front : text ++ take more middle ≡ take n other =
    sym (take_to n more text middle at) ∙ (ap (take n) same ∙ take_at (take n other) rest n (length-take-le n other short)) in
    sym (append_assoc text (take more middle) (drop n other)) ∙ (ap (λ xs. xs ++ drop n other) front ∙ (take-append-drop n other ∙ sym (append-nil other)))

-- what is spelled where another part with something behind it goes on is that part
same_front : {X : Type 0} (spell : X → List ℕ) (fits : X → Type 0) → IsPart spell fits → (x y : X) (middle behind rest : List ℕ) (n more : ℕ) → fits x → fits y → n ≡ length (spell x) + more
    → spell x ++ middle ≡ take n (spell y ++ behind) ++ rest → x ≡ y
same_front spell fits part x y middle behind rest n more of_x of_y at same = elim (within n (spell y)) [
  | inl short ↦
      let cut : take n (spell y ++ behind) ≡ take n (spell y) = take-append-le n (spell y) behind short in
      (part.one x y (take more middle ++ drop n (spell y)) [] of_x of_y (goes_on (spell x) middle (spell y) rest n more at short (same ∙ ap (λ xs. xs ++ rest) cut))).0
  | inr past ↦
      let cut : take n (spell y ++ behind) ≡ spell y ++ take past.0 behind = take_to n past.0 (spell y) behind past.1 in
      (part.one x y middle (take past.0 behind ++ rest) of_x of_y (same ∙ (ap (λ xs. xs ++ rest) cut ∙ append_assoc (spell y) (take past.0 behind) rest))).0
]

pub joined_front : {X Y : Type 0} (first : X → List ℕ) (second : Y → List ℕ) (fa : X → Type 0) (fb : X → Y → Type 0) (bytes middle rest : List ℕ) (x : X) (y : Y)
    → IsFront first fa bytes x middle → IsFront second (fb x) middle y rest → IsFront (joined_part first second) (joined_fits fa fb) bytes (x, y) rest
joined_front first second fa fb bytes middle rest x y a b = record {
  fitting = (a.fitting, b.fitting);
  spelled = a.spelled ∙ (ap (λ xs. first x ++ xs) b.spelled ∙ sym (append_assoc (first x) (second y) rest));
}

-- bytes stop in the first part, which some second part could follow
pub stops_first : {X Y : Type 0} (first : X → List ℕ) (second : Y → List ℕ) (fa : X → Type 0) (fb : X → Y → Type 0) (bytes : List ℕ) (left : ℕ)
    → ((x : X) → fa x → (y : Y) × fb x y) → Breaks first fa bytes left → Breaks (joined_part first second) (joined_fits fa fb) bytes left
stops_first first second fa fb bytes left some a =
    let next = some a.value a.fitting in
    record {
      front = a.front;
      behind = a.behind;
      parted = a.parted;
      counted = a.counted;
      value = (a.value, next.0);
      more = a.more ++ second next.0;
      fitting = (a.fitting, next.1);
      begins = sym (append_assoc a.front a.more (second next.0)) ∙ ap (λ xs. xs ++ second next.0) a.begins;
      halts = λ other rest fits same.
          let cut = take_front (suc (length a.front)) (first other.0) (second other.1) in
          a.halts other.0 (cut.0 ++ rest) fits.0 (same ∙ (ap (λ xs. xs ++ rest) cut.1 ∙ append_assoc (take (suc (length a.front)) (first other.0)) cut.0 rest));
    }

-- bytes stop in the second part, behind the first
halts_behind : {X Y : Type 0} (first : X → List ℕ) (second : Y → List ℕ) (fa : X → Type 0) (fb : X → Y → Type 0) (middle front : List ℕ) (x : X) → IsPart first fa → fa x
    → ((y : Y) (rest : List ℕ) → fb x y → middle ≡ take (suc (length front)) (second y) ++ rest → ⊥)
    → (z : X) (y : Y) (rest : List ℕ) → fa z → fb z y → first x ++ middle ≡ take (suc (length (first x ++ front))) (first z ++ second y) ++ rest → ⊥
halts_behind {X} {Y} first second fa fb middle front x part of_x halts z y rest of_z of_y same =
    let at : suc (length (first x ++ front)) ≡ length (first x) + suc (length front) = omega (arith, length-append (first x) front) in
    let one : x ≡ z = same_front first fa part x z middle (second y) rest (suc (length (first x ++ front))) (suc (length front)) of_x of_z at same in
    let of_y_here : fb x y = subst (λ (v : X). fb v y) (sym one) of_y in
    let same_here : first x ++ middle ≡ take (suc (length (first x ++ front))) (first x ++ second y) ++ rest =
    same ∙ ap (λ v. take (suc (length (first x ++ front))) (first v ++ second y) ++ rest) (sym one) in
    let behind : first x ++ middle ≡ first x ++ (take (suc (length front)) (second y) ++ rest) =
    same_here ∙ (ap (λ xs. xs ++ rest) (take_to _ (suc (length front)) (first x) (second y) at) ∙ append_assoc (first x) (take (suc (length front)) (second y)) rest) in
    halts y rest of_y_here (append_cancel_left (first x) middle (take (suc (length front)) (second y) ++ rest) behind)

pub stops_second : {X Y : Type 0} (first : X → List ℕ) (second : Y → List ℕ) (fa : X → Type 0) (fb : X → Y → Type 0) (bytes middle : List ℕ) (x : X) (left : ℕ)
    → IsPart first fa → IsFront first fa bytes x middle → Breaks second (fb x) middle left → Breaks (joined_part first second) (joined_fits fa fb) bytes left
stops_second first second fa fb bytes middle x left part a b = record {
  front = first x ++ b.front;
  behind = b.behind;
  parted = a.spelled ∙ (ap (λ xs. first x ++ xs) b.parted ∙ sym (append_assoc (first x) b.front b.behind));
  counted = b.counted;
  value = (x, b.value);
  more = b.more;
  fitting = (a.fitting, b.fitting);
  begins = append_assoc (first x) b.front b.more ∙ ap (λ xs. first x ++ xs) b.begins;
  halts = λ other rest fits same. halts_behind first second fa fb middle b.front x part a.fitting b.halts other.0 other.1 rest fits.0 fits.1 (sym a.spelled ∙ same);
}

-- two parts determine both values
pub joined_one : {X Y : Type 0} (first : X → List ℕ) (second : Y → List ℕ) (fa : X → Type 0) (fb : X → Y → Type 0) → IsPart first fa → ((x : X) → IsPart second (fb x)) → IsPart (joined_part first second) (joined_fits fa fb)
joined_one {X} {Y} first second fa fb a b = record { one = both } where
  both : (x y : X × Y) (r s : List ℕ) → joined_fits fa fb x → joined_fits fa fb y → joined_part first second x ++ r ≡ joined_part first second y ++ s → (x ≡ y) × (r ≡ s)
  both x y r s of_x of_y same =
      let here = a.one x.0 y.0 (second x.1 ++ r) (second y.1 ++ s) of_x.0 of_y.0 (sym (append_assoc (first x.0) (second x.1) r) ∙ (same ∙ append_assoc (first y.0) (second y.1) s)) in
      let of_next : fb x.0 y.1 = subst (λ (v : X). fb v y.1) (sym here.0) of_y.1 in
      let next = (b x.0).one x.1 y.1 r s of_x.1 of_next here.1 in
      ((λ i. (here.0 i, next.0 i)), next.1)

-- ---- the same bytes with another value

-- each value of one part has a value of the other that is spelled so
pub record IsRecoded {X Y : Type 0} (first : X → List ℕ) (fa : X → Type 0) (second : Y → List ℕ) (fb : Y → Type 0) (to : X → Y) (from : Y → X) : Type 0 where
  pub to_fits : (x : X) → fa x → fb (to x)
  pub to_same : (x : X) → fa x → first x ≡ second (to x)
  pub from_fits : (y : Y) → fb y → fa (from y)
  pub from_same : (y : Y) → fb y → second y ≡ first (from y)

pub recoded_front : {X Y : Type 0} (first : X → List ℕ) (fa : X → Type 0) (second : Y → List ℕ) (fb : Y → Type 0) (to : X → Y) (from : Y → X) (bytes rest : List ℕ) (x : X)
    → IsRecoded first fa second fb to from → IsFront first fa bytes x rest → IsFront second fb bytes (to x) rest
recoded_front first fa second fb to from bytes rest x code a = record {
  fitting = code.to_fits x a.fitting;
  spelled = a.spelled ∙ ap (λ xs. xs ++ rest) (code.to_same x a.fitting);
}

pub recoded_stops : {X Y : Type 0} (first : X → List ℕ) (fa : X → Type 0) (second : Y → List ℕ) (fb : Y → Type 0) (to : X → Y) (from : Y → X) (bytes : List ℕ) (left : ℕ)
    → IsRecoded first fa second fb to from → Breaks first fa bytes left → Breaks second fb bytes left
recoded_stops first fa second fb to from bytes left code a = record {
  front = a.front;
  behind = a.behind;
  parted = a.parted;
  counted = a.counted;
  value = to a.value;
  more = a.more;
  fitting = code.to_fits a.value a.fitting;
  begins = a.begins ∙ code.to_same a.value a.fitting;
  halts = λ other rest fits same. a.halts (from other) rest (code.from_fits other fits) (same ∙ ap (λ xs. take (suc (length a.front)) xs ++ rest) (code.from_same other fits));
}
