-- An order is kept where as many patterns are matched as it has, each by the first edge that can.
use Rattle.std.proofs.Common.{◌≡◌, ℕ, zero, suc, ◌+◌, ◌≤◌, ◌<◌, Bool, true, false, not, ◌&&◌, ◌||◌, ltb, List, [], ◌∷◌, length, drop, get_or, Option, Some, None, refl, sym, ap, ◌∙◌, inl, inr, arith}
use Rattle.std.specs.{Prelude.if◌then◌else◌, Prelude.◌⊎◌, List.fold, List.slice_get}
use Rattle.std.proofs.lemmas.{Bool.cases_Bool, Bool.cases_lt, Bool.lt-ltb, Bool.le-ltb, Bool.and_parts, List.drop_more, List.drop_all}
use Rattle.oat_report.specs.{Map, Edge, TextWord}
use Rattle.oat_policy.specs.{declared.policy.PathRule.PathRule, declared.policy.PathRule.TheVariants.Order, EdgeWords.edge_words, EdgeWords.matches, declared.rule.Standing.Standing, Rules.is_in_turn}
use Rattle.oat_policy.specs.{Rules.broken_at, Standing.counted_next, Standing.counted, Standing.meets_some, Standing.standing}

abbrev Patterns : Type 0
Patterns = List (List TextWord)

get_some : (ps : Patterns) (n : ℕ) → n < length ps → slice_get ps n ≡ Some (get_or ps n [])
get_some [] n within = absurd (omega arith)
get_some (p ∷ ps) zero within = refl
get_some (p ∷ ps) (suc n) within = get_some ps n (omega arith)

get_none : (ps : Patterns) (n : ℕ) → length ps ≤ n → slice_get ps n ≡ None
get_none [] n past = refl
get_none (p ∷ ps) zero past = absurd (omega arith)
get_none (p ∷ ps) (suc n) past = get_none ps n (omega arith)

or_right : (a b : Bool) → b ≡ true → (a || b) ≡ true
or_right true b passes = refl
or_right false b passes = passes

or_left : (a b : Bool) → (b ≡ true → a ≡ true) → (a || b) ≡ a
or_left true b from = refl
or_left false true from = sym (from refl)
or_left false false from = refl

or_cases : (a b : Bool) → (a || b) ≡ true → (a ≡ true) ⊎ (b ≡ true)
or_cases true b passes = inl refl
or_cases false b passes = inr passes

-- more edges keep an order
later_too : (flow : Map) (ps : Patterns) (edge : Edge) (path : List Edge) → is_in_turn flow ps path ≡ true → is_in_turn flow ps (edge ∷ path) ≡ true
unfolding is_in_turn
later_too flow [] edge path passes = refl
later_too flow (p ∷ ps) edge path passes = or_right (matches flow p edge && is_in_turn flow ps path) (is_in_turn flow (p ∷ ps) path) passes

-- and fewer patterns
fewer_too : (flow : Map) (p : List TextWord) (ps : Patterns) (path : List Edge) → is_in_turn flow (p ∷ ps) path ≡ true → is_in_turn flow ps path ≡ true
unfolding is_in_turn
fewer_too flow p ps [] passes = absurd cc
fewer_too flow p ps (edge ∷ path) passes =
    elim (or_cases (matches flow p edge && is_in_turn flow ps path) (is_in_turn flow (p ∷ ps) path) passes) [
      | inl now ↦ later_too flow ps edge path (and_parts (matches flow p edge) (is_in_turn flow ps path) now).1
      | inr later ↦ later_too flow ps edge path (fewer_too flow p ps path later)
    ]

-- one edge decides of the first pattern
one_edge : (flow : Map) (p : List TextWord) (ps : Patterns) (edge : Edge) (path : List Edge)
    → is_in_turn flow (p ∷ ps) (edge ∷ path) ≡ (if matches flow p edge then is_in_turn flow ps path else is_in_turn flow (p ∷ ps) path)
unfolding is_in_turn
one_edge flow p ps edge path =
    elim (cases_Bool (matches flow p edge)) [
      | inl passes ↦ rw passes (or_left (is_in_turn flow ps path) (is_in_turn flow (p ∷ ps) path) (fewer_too flow p ps path))
      | inr fails ↦ rw fails refl
    ]

kept_by_none : (flow : Map) (path : List Edge) → is_in_turn flow [] path ≡ true
unfolding is_in_turn
kept_by_none flow path = refl

lost_at_end : (flow : Map) (p : List TextWord) (ps : Patterns) → is_in_turn flow (p ∷ ps) [] ≡ false
unfolding is_in_turn
lost_at_end flow p ps = refl

missing : (flow : Map) (ps : Patterns) (n : ℕ) (path : List Edge) → ltb (fold (counted_next flow (Order ps)) n path) (length ps) ≡ not (is_in_turn flow (drop n ps) path)
missing flow ps n [] =
    elim (cases_lt n (length ps)) [
      | inl within ↦ lt-ltb n (length ps) within ∙ sym (ap not (ap (λ (qs : Patterns). is_in_turn flow qs []) (drop_more ps n [] within) ∙ lost_at_end flow (get_or ps n []) (drop (n + 1) ps)))
      | inr past ↦ le-ltb n (length ps) past ∙ sym (ap not (ap (λ (qs : Patterns). is_in_turn flow qs []) (drop_all n ps past) ∙ kept_by_none flow []))
    ]
missing flow ps n (edge ∷ path) =
    elim (cases_lt n (length ps)) [
      | inl within ↦
          let p : List TextWord = get_or ps n [] in
          let split : drop n ps ≡ p ∷ drop (n + 1) ps = drop_more ps n [] within in
          let first : is_in_turn flow (drop n ps) (edge ∷ path) ≡ (if matches flow p edge then is_in_turn flow (drop (n + 1) ps) path else is_in_turn flow (p ∷ drop (n + 1) ps) path) =
          ap (λ (qs : Patterns). is_in_turn flow qs (edge ∷ path)) split ∙ one_edge flow p (drop (n + 1) ps) edge path in
          let next : counted_next flow (Order ps) n edge ≡ (if matches flow p edge then n + 1 else n) =
          ap (λ (o : Option (List TextWord)). if meets_some o (edge_words flow edge) then n + 1 else n) (get_some ps n within) in
          elim (cases_Bool (matches flow p edge)) [
            | inl passes ↦
                ap (λ (m : ℕ). ltb (fold (counted_next flow (Order ps)) m path) (length ps)) (next ∙ ap (λ (t : Bool). if t then n + 1 else n) passes)
                ∙ missing flow ps (n + 1) path
                ∙ sym (ap not (first ∙ ap (λ (t : Bool). if t then is_in_turn flow (drop (n + 1) ps) path else is_in_turn flow (p ∷ drop (n + 1) ps) path) passes))
            | inr fails ↦
                ap (λ (m : ℕ). ltb (fold (counted_next flow (Order ps)) m path) (length ps)) (next ∙ ap (λ (t : Bool). if t then n + 1 else n) fails)
                ∙ missing flow ps n path
                ∙ ap not (ap (λ (qs : Patterns). is_in_turn flow qs path) split)
                ∙ sym (ap not (first ∙ ap (λ (t : Bool). if t then is_in_turn flow (drop (n + 1) ps) path else is_in_turn flow (p ∷ drop (n + 1) ps) path) fails))
          ]
      | inr past ↦
          let none : drop n ps ≡ [] = drop_all n ps past in
          let next : counted_next flow (Order ps) n edge ≡ n =
          ap (λ (o : Option (List TextWord)). if meets_some o (edge_words flow edge) then n + 1 else n) (get_none ps n past) in
          ap (λ (m : ℕ). ltb (fold (counted_next flow (Order ps)) m path) (length ps)) next
          ∙ missing flow ps n path
          ∙ ap not (ap (λ (qs : Patterns). is_in_turn flow qs path) none ∙ kept_by_none flow path)
          ∙ sym (ap not (ap (λ (qs : Patterns). is_in_turn flow qs (edge ∷ path)) none ∙ kept_by_none flow (edge ∷ path)))
    ]

pub in_turn : (flow : Map) (ps : Patterns) (path : List Edge) → ltb (counted flow (Order ps) path) (length ps) ≡ not (is_in_turn flow ps path)
unfolding counted
in_turn flow ps path = missing flow ps 0 path

if_not : (b : Bool) (n : ℕ) → (if not b then Some n else None) ≡ (if b then None else Some n)
if_not true n = refl
if_not false n = refl

pub order_broken : (flow : Map) (ps : Patterns) (path : List Edge) (count edges : ℕ) (r : Option ℕ) → count ≡ counted flow (Order ps) path → edges ≡ length path
    → r ≡ (if ltb count (length ps) then Some (edges + 1) else None) → r ≡ (if is_in_turn flow ps path then None else Some (length path + 1))
order_broken flow ps path count edges r count_is edges_are r_is =
    r_is
    ∙ ap (λ (n : ℕ). if ltb n (length ps) then Some (edges + 1) else None) count_is
    ∙ ap (λ (t : Bool). if t then Some (edges + 1) else None) (in_turn flow ps path)
    ∙ ap (λ (n : ℕ). if not (is_in_turn flow ps path) then Some (n + 1) else None) edges_are
    ∙ if_not (is_in_turn flow ps path) (length path + 1)

pub order_broken_at : (flow : Map) (rule : PathRule) (ps : Patterns) (path : List Edge) (s : Standing) (many edges : ℕ) (r : Option ℕ)
    → rule ≡ Order ps → s ≡ standing flow path rule → edges ≡ length path → many ≡ length ps
    → r ≡ (if ltb s.count many then Some (edges + 1) else None) → r ≡ broken_at flow rule path
order_broken_at flow rule ps path s many edges r is same edges_are many_are r_is =
    let stands : s ≡ standing flow path (Order ps) = same ∙ ap (standing flow path) is in
    order_broken flow ps path s.count edges r (ap (λ (z : Standing). z.count) stands) edges_are
    (r_is ∙ ap (λ (m : ℕ). if ltb s.count m then Some (edges + 1) else None) many_are)
    ∙ ap (λ (q : PathRule). broken_at flow q path) (sym is)
