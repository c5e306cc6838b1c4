-- How a rule stands behind one more edge.
use Rattle.std.proofs.Common.{◌≡◌, ℕ, ◌+◌, ◌≤◌, Bool, not, ◌&&◌, cond, eqb, List, [], ◌∷◌, ◌++◌, length, Option, Some, None, refl, sym, ap, ◌∙◌, inl, inr, append_assoc, arith}
use Rattle.std.specs.{Prelude.count_by, Prelude.if◌then◌else◌, List.fold, List.list_any, Option.option_or}
use Rattle.std.proofs.lemmas.{Bool.cases_Bool, Bool.ne_eqb, List.append-nil, List.Sums.fold-append}
use Rattle.oat_report.specs.{Map, Edge}
use Rattle.oat_policy.specs.{declared.policy.PathRule.PathRule, declared.policy.PathRule.TheVariants.Never, declared.policy.PathRule.TheVariants.Before, declared.policy.PathRule.TheVariants.Most}
use Rattle.oat_policy.specs.{declared.policy.PathRule.TheVariants.Order, declared.rule.Standing.Standing, EdgeWords.edge_words, EdgeWords.matches, Rules.forbids, Rules.first_forbidden}
use Rattle.oat_policy.specs.{Standing.counts, Standing.counted_next, Standing.counted, Standing.forbids_behind, Standing.standing}

-- ---- what counts

counted_more : (flow : Map) (rule : PathRule) (path : List Edge) (edge : Edge) → counted flow rule (path ++ edge ∷ []) ≡ counted_next flow rule (counted flow rule path) edge
unfolding counted
counted_more flow rule path edge = fold-append (counted_next flow rule) 0 path (edge ∷ [])

next_bound : (flow : Map) (rule : PathRule) (count : ℕ) (edge : Edge) → counted_next flow rule count edge ≤ count + 1
next_bound flow rule count edge =
    elim (cases_Bool (counts rule count (edge_words flow edge))) [
      | inl passes ↦ rw passes (omega arith)
      | inr fails ↦ rw fails (omega arith)
    ]

count_bound : (flow : Map) (rule : PathRule) (count : ℕ) (path : List Edge) → fold (counted_next flow rule) count path ≤ count + length path
count_bound flow rule count [] = omega arith
count_bound flow rule count (edge ∷ path) =
    let later = count_bound flow rule (counted_next flow rule count edge) path in
    let one = next_bound flow rule count edge in
    omega (arith, later, one)

pub counted_bound : (flow : Map) (rule : PathRule) (path : List Edge) → counted flow rule path ≤ length path
unfolding counted
counted_bound flow rule path = let bound = count_bound flow rule 0 path in omega (arith, bound)

abbrev counted_by : (Edge → Bool) → ℕ → Edge → ℕ
counted_by test count edge = if test edge then count + 1 else count

abbrev summed_by : (Edge → Bool) → ℕ → Edge → ℕ
summed_by test count edge = count + cond (test edge) 1 0

one_same : (test : Edge → Bool) (count : ℕ) (edge : Edge) → counted_by test count edge ≡ summed_by test count edge
one_same test count edge =
    elim (cases_Bool (test edge)) [
      | inl passes ↦ rw passes refl
      | inr fails ↦ rw fails (omega arith)
    ]

same_count : (test : Edge → Bool) (count : ℕ) (path : List Edge) → fold (counted_by test) count path ≡ fold (summed_by test) count path
same_count test count [] = refl
same_count test count (edge ∷ path) =
    same_count test (counted_by test count edge) path ∙ ap (λ (n : ℕ). fold (summed_by test) n path) (one_same test count edge)

grows : (test : Edge → Bool) (count : ℕ) (path : List Edge) → count ≤ fold (summed_by test) count path
grows test count [] = omega arith
grows test count (edge ∷ path) = let later = grows test (summed_by test count edge) path in omega (arith, later)

none_counted : (test : Edge → Bool) (path : List Edge) → not (list_any test path) ≡ eqb (count_by test path) 0
none_counted test [] = refl
none_counted test (edge ∷ path) =
    elim (cases_Bool (test edge)) [
      | inl passes ↦ let some : 1 ≤ fold (summed_by test) 1 path = grows test 1 path in rw passes (sym (ne_eqb (fold (summed_by test) 1 path) 0 (λ e. omega (arith, e, some))))
      | inr fails ↦ rw fails (none_counted test path)
    ]

-- what the rule forbids, by the number of edges that count
forbids_is : (flow : Map) (rule : PathRule) (path : List Edge) (edge : Edge) → forbids flow rule path edge ≡ forbids_behind rule (counted flow rule path) (edge_words flow edge)
unfolding counted
forbids_is flow (Never pattern) path edge = refl
forbids_is flow (Before first second) path edge =
    ap (λ (b : Bool). matches flow second edge && b)
    (none_counted (matches flow first) path ∙ ap (λ (n : ℕ). eqb n 0) (sym (same_count (matches flow first) 0 path)))
forbids_is flow (Most limit pattern) path edge =
    ap (λ (n : ℕ). matches flow pattern edge && eqb n limit) (sym (same_count (matches flow pattern) 0 path))
forbids_is flow (Order patterns) path edge = refl

-- ---- the first edge that the rule forbids

abbrev here : Map → PathRule → List Edge → Edge → Option ℕ
here flow rule before edge = if forbids flow rule before edge then Some (length before + 1) else None

forbidden_more : (flow : Map) (rule : PathRule) (before path : List Edge) (edge : Edge)
    → first_forbidden flow rule before (path ++ edge ∷ []) ≡ option_or (first_forbidden flow rule before path) (here flow rule (before ++ path) edge)
unfolding first_forbidden
forbidden_more flow rule before [] edge = rw (append-nil before) refl
forbidden_more flow rule before (first ∷ path) edge =
    elim (cases_Bool (forbids flow rule before first)) [
      | inl passes ↦ rw passes refl
      | inr fails ↦ rw fails
          (forbidden_more flow rule (before ++ first ∷ []) path edge
          ∙ ap (λ (b : List Edge). option_or (first_forbidden flow rule (before ++ first ∷ []) path) (here flow rule b edge)) (append_assoc before (first ∷ []) path))
    ]

-- ---- both

pub next_standing : (flow : Map) (rule : PathRule) (path : List Edge) (edge : Edge) (s : Standing) (count : ℕ) (broken : Option ℕ)
    → s ≡ standing flow path rule → count ≡ counted_next flow rule s.count edge
    → broken ≡ option_or s.broken (if forbids_behind rule s.count (edge_words flow edge) then Some (length path + 1) else None)
    → Path Standing (record { count = count; broken = broken }) (standing flow (path ++ edge ∷ []) rule)
next_standing flow rule path edge s count broken same count_is broken_is =
    let n : s.count ≡ counted flow rule path = ap (λ (z : Standing). z.count) same in
    let b : s.broken ≡ first_forbidden flow rule [] path = ap (λ (z : Standing). z.broken) same in
    let counts_so : count ≡ counted flow rule (path ++ edge ∷ []) =
    count_is ∙ ap (λ (m : ℕ). counted_next flow rule m edge) n ∙ sym (counted_more flow rule path edge) in
    let breaks_so : broken ≡ first_forbidden flow rule [] (path ++ edge ∷ []) =
    broken_is
    ∙ ap (λ (o : Option ℕ). option_or o (if forbids_behind rule s.count (edge_words flow edge) then Some (length path + 1) else None)) b
    ∙ ap (λ (m : ℕ). option_or (first_forbidden flow rule [] path) (if forbids_behind rule m (edge_words flow edge) then Some (length path + 1) else None)) n
    ∙ ap (λ (t : Bool). option_or (first_forbidden flow rule [] path) (if t then Some (length path + 1) else None)) (sym (forbids_is flow rule path edge))
    ∙ sym (forbidden_more flow rule [] path edge) in
    ap (λ (m : ℕ). record { count = m; broken = broken }) counts_so
    ∙ ap (λ (o : Option ℕ). record { count = counted flow rule (path ++ edge ∷ []); broken = o }) breaks_so
