-- Items of calls, those of one call behind those of the other, and the part of them that is of one call.
use Rattle.std.proofs.Common.{◌≡◌, ◌+◌, ◌<◌, ◌≤◌, ◌⊎◌, ◌-◌, ℕ, zero, suc, List, [], ◌∷◌, ◌++◌, length, get_or, take, drop, Option, Some, None, refl, sym, ap, subst, ◌∙◌, inl, inr, arith, append_assoc}
use Rattle.std.proofs.Common.{append-nil, drop-cons}
use Rattle.std.specs.{Prelude.slice_get, List.flat_map, List.slice_range}
use Rattle.std.proofs.Math.Seq.{drop-append_seam, get_or-append_seam, take-append_seam, take-length}
use Rattle.std.proofs.lemmas.{Bool.cases_lt, List.get_or_append_left, List.length-append, List.take-append-drop, List.take-append-le, List.take_more, Grind.flat_map-append}
use Rattle.std.proofs.lemmas.{Option.get_or_from_slice_get, Option.slice_get_within}
use Rattle.oat_check.specs.{SourceEvent, Steps.LineEdge}
use Rattle.oat_meaning.specs.Recording.{calls_end}

abbrev pub Events : Type 0
Events = List (SourceEvent LineEdge)

-- the calls one behind the other
abbrev pub joined : List Events → Events
joined calls = flat_map (λ (call : Events). call) calls

abbrev pub opened : Option Events → Events
opened None = []
opened (Some es) = es

joined_with : (calls : List Events) (call : Events) → joined (calls ++ call ∷ []) ≡ joined calls ++ call
joined_with calls call = flat_map-append (λ (es : Events). es) calls (call ∷ []) ∙ ap (λ xs. joined calls ++ xs) (append-nil call)

-- ---- a part of a list

pub record IsPart {X : Type 0} (all : List X) (start end : ℕ) (part : List X) : Type 0 where
  pub ordered : start ≤ end
  pub inside : end ≤ length all
  pub is : slice_range all start end ≡ part

between : {X : Type 0} (all before own behind : List X) (start end : ℕ) → all ≡ before ++ (own ++ behind) → start ≡ length before → end ≡ length (before ++ own) → IsPart all start end own
between all before own behind start end whole starts ends =
    let long = length-append before own in
    let rest = length-append own behind in
    let sum : length all ≡ length before + length (own ++ behind) = ap length whole ∙ length-append before (own ++ behind) in
    let size : end - start ≡ length own = omega (arith, long, starts, ends) in
    record {
      ordered = omega (arith, long, starts, ends);
      inside = omega (arith, long, rest, sum, ends);
      is =
          ap (λ n. take n (drop start all)) size ∙ ap (λ xs. take (length own) xs) ((λ i. drop (starts i) (whole i)) ∙ drop-append_seam before (own ++ behind))
          ∙ take-append_seam own behind;
    }

pub part_at : {X : Type 0} (all kept part : List X) (start start_is end end_is : ℕ) → IsPart all start_is end_is part → kept ≡ all → start ≡ start_is → end ≡ end_is → IsPart kept start end part
part_at all kept part start start_is end end_is is same starts ends =
    subst (λ (n : ℕ). IsPart kept n end part) (sym starts) (subst (λ (n : ℕ). IsPart kept start_is n part) (sym ends) (subst (λ xs. IsPart xs start_is end_is part) (sym same) is))

-- ---- items of one kind

-- A function gives the items of events: those of the first ones, and then those of the others.
module _ {X : Type 0} (f : Events → List X) (appends : (xs ys : Events) → f (xs ++ ys) ≡ f xs ++ f ys) where
  -- The items are those of the calls that are closed and of one on its way, and it is told where those of each closed call end.
  pub record FromCalls (items : List X) (ends : List ℕ) (closed : List Events) (going : Events) : Type 0 where
    pub all : items ≡ f (joined closed ++ going)
    pub count : length ends ≡ length closed
    pub each : (n : ℕ) → n ≤ length closed → calls_end ends n ≡ length (f (joined (take n closed)))

  -- before the first event
  pub from_no_calls : [] ≡ f [] → FromCalls [] [] [] []
  from_no_calls none = record { all = none; count = refl; each = λ n l. by n l } where
    by : (n : ℕ) → n ≤ 0 → calls_end [] n ≡ length (f (joined (take n [])))
    by zero l = ap length none
    by (suc n) l = absurd (omega (arith, l))

  -- an event inside a call that doesn't end it
  pub from_calls_more : (items more : List X) (ends : List ℕ) (closed : List Events) (es : Events) (e : SourceEvent LineEdge) → FromCalls items ends closed es
      → more ≡ items ++ f (e ∷ []) → FromCalls more ends closed (es ++ e ∷ [])
  from_calls_more items more ends closed es e k is = record {
    all = is ∙ ap (λ xs. xs ++ f (e ∷ [])) k.all ∙ sym (appends (joined closed ++ es) (e ∷ [])) ∙ ap f (append_assoc (joined closed) es (e ∷ []));
    count = k.count;
    each = k.each;
  }

  -- the event that ends it
  pub from_calls_ended : (items more : List X) (ends : List ℕ) (end : ℕ) (closed : List Events) (es : Events) (e : SourceEvent LineEdge) → FromCalls items ends closed es
      → more ≡ items ++ f (e ∷ []) → end ≡ length more → FromCalls more (ends ++ end ∷ []) (closed ++ (es ++ e ∷ []) ∷ []) []
  from_calls_ended items more ends end closed es e k is last = record {
    all = whole ∙ ap f (sym (append-nil (joined calls)));
    count = longer ∙ ap (λ n. n + 1) k.count ∙ sym long;
    each = λ n l. by n l (cases_lt (length closed) n);
  } where
    calls : List Events
    calls = closed ++ (es ++ e ∷ []) ∷ []

    whole : more ≡ f (joined calls)
    whole =
        is ∙ ap (λ xs. xs ++ f (e ∷ [])) k.all ∙ sym (appends (joined closed ++ es) (e ∷ []))
        ∙ ap f (append_assoc (joined closed) es (e ∷ []) ∙ sym (joined_with closed (es ++ e ∷ [])))

    long : length calls ≡ length closed + 1
    long = length-append closed ((es ++ e ∷ []) ∷ [])

    longer : length (ends ++ end ∷ []) ≡ length ends + 1
    longer = length-append ends (end ∷ [])

    by : (n : ℕ) → n ≤ length calls → (length closed < n) ⊎ (n ≤ length closed) → calls_end (ends ++ end ∷ []) n ≡ length (f (joined (take n calls)))
    by n l (inl high) =
        let count = k.count in
        let at : n ≡ length (0 ∷ ends) = omega (arith, count, long, high, l) in
        let all : n ≡ length calls = omega (arith, long, high, l) in
        ap (λ m. get_or (0 ∷ ends ++ end ∷ []) m 0) at ∙ get_or-append_seam (0 ∷ ends) end [] 0 ∙ last ∙ ap length whole
        ∙ ap (λ cs. length (f (joined cs))) (sym (ap (λ m. take m calls) all ∙ take-length calls))
    by n l (inr low) =
        get_or_append_left (0 ∷ ends) (end ∷ []) 0 n (let count = k.count in omega (arith, count, low)) ∙ k.each n low
        ∙ ap (λ cs. length (f (joined cs))) (sym (take-append-le n closed ((es ++ e ∷ []) ∷ []) low))

  -- the items of one of the calls
  pub part_of_call : (items : List X) (ends : List ℕ) (closed : List Events) (going : Events) (s : ℕ) (call : Events) → FromCalls items ends closed going → slice_get closed s ≡ Some call
      → IsPart items (calls_end ends s) (calls_end ends (s + 1)) (f call)
  part_of_call items ends closed going s call k is =
      between items (f before) (f call) (f behind) _ _ (k.all ∙ ap f split ∙ appends before (call ++ behind) ∙ ap (λ xs. f before ++ xs) (appends call behind))
      (k.each s (omega (arith, low))) (k.each (s + 1) (omega (arith, low)) ∙ ap length (ap f front ∙ appends before call)) where
        low : s < length closed
        low = slice_get_within closed s call is

        own : get_or closed s call ≡ call
        own = get_or_from_slice_get closed s call call is

        before : Events
        before = joined (take s closed)

        behind : Events
        behind = joined (drop (suc s) closed) ++ going

        -- the calls up to this one
        front : joined (take (s + 1) closed) ≡ before ++ call
        front = ap joined (take_more closed s call low ∙ ap (λ (es : Events). take s closed ++ es ∷ []) own) ∙ joined_with (take s closed) call

        split : joined closed ++ going ≡ before ++ (call ++ behind)
        split =
            ap (λ (calls : List Events). joined calls ++ going)
            (sym (take-append-drop s closed) ∙ ap (λ (calls : List Events). take s closed ++ calls) (drop-cons closed s call low ∙ ap (λ (es : Events). es ∷ drop (suc s) closed) own))
            ∙ ap (λ (es : Events). es ++ going) (flat_map-append (λ (es : Events). es) (take s closed) (call ∷ drop (suc s) closed))
            ∙ append_assoc before (call ++ joined (drop (suc s) closed)) going
            ∙ ap (λ xs. before ++ xs) (append_assoc call (joined (drop (suc s) closed)) going)
