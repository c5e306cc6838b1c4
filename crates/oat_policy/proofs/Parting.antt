-- The patterns of a policy one behind the other, and which of them an edge matches.
use Rattle.std.proofs.Common.{◌≡◌, ℕ, ◌+◌, ◌<◌, ◌≤◌, Bool, List, [], ◌∷◌, ◌++◌, length, map, take, drop, get_or, set, refl, sym, ap, ◌∙◌, append_assoc, arith}
use Rattle.std.proofs.lemmas.{List.take_more, List.take_more_set, List.map_more, List.take_all, List.map-append, List.length-map, List.length-append, List.Concat.flat_map-append}
use Rattle.oat_report.specs.{TextWord}
use Rattle.oat_policy.specs.{declared.policy.PolicyRule.PolicyRule, EdgeWords.meets_each, Standing.patterns_of, Standing.all_patterns, Standing.met_of}

-- ---- the list of patterns

-- one element more of a list is pushed
pub one_pushed : {X Y : Type 0} (view : X → Y) (new old first : List X) (x : X) (ys : List Y) (i : ℕ)
    → new ≡ old ++ x ∷ [] → view x ≡ get_or ys i (view x) → i < length ys
    → map view old ≡ map view first ++ take i ys → map view new ≡ map view first ++ take (i + 1) ys
one_pushed view new old first x ys i more is within so_far =
    ap (map view) more ∙ map-append view old (x ∷ []) ∙ ap (λ front. front ++ view x ∷ []) so_far
    ∙ append_assoc (map view first) (take i ys) (view x ∷ [])
    ∙ ap (λ y. map view first ++ (take i ys ++ y ∷ [])) is
    ∙ ap (λ front. map view first ++ front) (sym (take_more ys i (view x) within))

pub all_pushed : {X Y : Type 0} (view : X → Y) (new first : List X) (ys : List Y) (i : ℕ) → length ys ≤ i
    → map view new ≡ map view first ++ take i ys → map view new ≡ map view first ++ ys
all_pushed view new first ys i past so_far = so_far ∙ ap (λ ends. map view first ++ ends) (take_all i ys past)

-- the patterns of one rule more
pub one_rule : (ps qs : List (List TextWord)) (rules : List PolicyRule) (i : ℕ) (rule : PolicyRule)
    → rule ≡ get_or rules i rule → i < length rules → ps ≡ all_patterns (take i rules) → qs ≡ ps ++ patterns_of rule.rule → qs ≡ all_patterns (take (i + 1) rules)
one_rule ps qs rules i rule is within so_far more =
    more ∙ ap (λ front. front ++ patterns_of rule.rule) so_far
    ∙ ap (λ (r : PolicyRule). all_patterns (take i rules) ++ patterns_of r.rule) is
    ∙ sym (ap all_patterns (take_more rules i rule within) ∙ flat_map-append (λ (r : PolicyRule). patterns_of r.rule) (take i rules) (get_or rules i rule ∷ [])
    ∙ ap (λ ends. all_patterns (take i rules) ++ ends) (alone (patterns_of (get_or rules i rule).rule)))
  where
    alone : (ps : List (List TextWord)) → ps ++ [] ≡ ps
    alone [] = refl
    alone (p ∷ ps) = ap (λ ends. p ∷ ends) (alone ps)

pub all_rules : (ps : List (List TextWord)) (rules : List PolicyRule) (i : ℕ) → length rules ≤ i → ps ≡ all_patterns (take i rules) → ps ≡ all_patterns rules
all_rules ps rules i past so_far = so_far ∙ ap all_patterns (take_all i rules past)

-- ---- what is met

-- the patterns as they are seen
pub seen : {X : Type 0} (view : X → List TextWord) (words : List TextWord) (xs : List X) → map (λ x. meets_each (view x) words) xs ≡ met_of words (map view xs)
seen view words [] = refl
seen view words (x ∷ xs) = ap (λ met. meets_each (view x) words ∷ met) (seen view words xs)

pub one_met_more : {X : Type 0} (test : X → Bool) (met : List Bool) (b : Bool) (xs : List X) (i : ℕ) (d : X) → b ≡ test (get_or xs i d) → i < length met → i < length xs
    → take i met ≡ map test (take i xs) → take (i + 1) (set met i b) ≡ map test (take (i + 1) xs)
one_met_more test met b xs i d is within inside so_far =
    take_more_set met i b within ∙ ap (λ front. front ++ b ∷ []) so_far ∙ ap (λ c. map test (take i xs) ++ c ∷ []) is ∙ sym (map_more test xs i d inside)

pub all_met_by : {X : Type 0} (view : X → List TextWord) (words : List TextWord) (met : List Bool) (xs : List X) (i : ℕ) → length xs ≤ i → length met ≡ length xs
    → take i met ≡ map (λ x. meets_each (view x) words) (take i xs) → met ≡ met_of words (map view xs)
all_met_by view words met xs i past many so_far =
    sym (take_all i met (omega (arith, past, many))) ∙ so_far ∙ ap (map (λ x. meets_each (view x) words)) (take_all i xs past) ∙ seen view words xs

-- ---- the parts of each rule

first_part : (words : List TextWord) (ps qs : List (List TextWord)) → take (length ps) (met_of words (ps ++ qs)) ≡ met_of words ps
first_part words [] qs = refl
first_part words (p ∷ ps) qs = ap (λ met. meets_each p words ∷ met) (first_part words ps qs)

other_part : (words : List TextWord) (ps qs : List (List TextWord)) → drop (length ps) (met_of words (ps ++ qs)) ≡ met_of words qs
other_part words [] qs = refl
other_part words (p ∷ ps) qs = other_part words ps qs

-- what a rule's patterns and those behind them meet, at the place between the two
pub record AreParted (words : List TextWord) (ps qs : List (List TextWord)) (rest : List Bool) (n : ℕ) : Type 0 where
  pub first : take n rest ≡ met_of words ps
  pub others : drop n rest ≡ met_of words qs

pub parted : (words : List TextWord) (ps qs : List (List TextWord)) (rest : List Bool) (n : ℕ) → rest ≡ met_of words (ps ++ qs) → n ≡ length ps → AreParted words ps qs rest n
parted words ps qs rest n is count = record {
  first = ap (take n) is ∙ ap (λ (k : ℕ). take k (met_of words (ps ++ qs))) count ∙ first_part words ps qs;
  others = ap (drop n) is ∙ ap (λ (k : ℕ). drop k (met_of words (ps ++ qs))) count ∙ other_part words ps qs;
}

-- there are so many at least
pub enough : (words : List TextWord) (ps qs : List (List TextWord)) (rest : List Bool) → rest ≡ met_of words (ps ++ qs) → length ps ≤ length rest
enough words ps qs rest is =
    let long = ap length is in
    let met = length-map (ps ++ qs) (λ (p : List TextWord). meets_each p words) in
    omega (arith, long, met, length-append ps qs)
