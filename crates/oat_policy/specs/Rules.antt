-- What a rule asks of the whole path, and the place where a path breaks it, counted from 1 (docs/FORMATS.md, "Policies").
use Rattle.std.specs.{Prelude.ℕ, Prelude.◌+◌, Prelude.◌==◌, Prelude.Bool, Prelude.true, Prelude.false, Prelude.not, Prelude.◌&&◌, Prelude.◌||◌, Prelude.List, Prelude.[], Prelude.◌∷◌, Prelude.◌++◌}
use Rattle.std.specs.{Prelude.length, Prelude.count_by, Prelude.Option, Prelude.Some, Prelude.None, Prelude.if◌then◌else◌, List.list_any}
use Rattle.oat_report.specs.{TextWord, Map, Edge}
use Rattle.oat_policy.specs.{declared.policy.PathRule.PathRule, declared.policy.PathRule.TheVariants.Never, declared.policy.PathRule.TheVariants.Before, declared.policy.PathRule.TheVariants.Most}
use Rattle.oat_policy.specs.{declared.policy.PathRule.TheVariants.Order, EdgeWords.matches}

-- the edge behind these edges is one that the rule forbids
abbrev pub forbids : Map → PathRule → List Edge → Edge → Bool
forbids flow (Never pattern) before edge = matches flow pattern edge
forbids flow (Before first second) before edge = matches flow second edge && not (list_any (matches flow first) before)
forbids flow (Most limit pattern) before edge = matches flow pattern edge && count_by (matches flow pattern) before == limit
forbids flow (Order patterns) before edge = false

-- the place of the first edge of the path that the rule forbids, behind these edges
unfoldable pub first_forbidden : Map → PathRule → List Edge → List Edge → Option ℕ
first_forbidden flow rule before [] = None
first_forbidden flow rule before (edge ∷ path) =
    if forbids flow rule before edge then Some (length before + 1) else first_forbidden flow rule (before ++ edge ∷ []) path

-- edges at rising places match the patterns in turn
unfoldable pub is_in_turn : Map → List (List TextWord) → List Edge → Bool
is_in_turn flow [] path = true
is_in_turn flow (pattern ∷ patterns) [] = false
is_in_turn flow (pattern ∷ patterns) (edge ∷ path) =
    (matches flow pattern edge && is_in_turn flow patterns path) || is_in_turn flow (pattern ∷ patterns) path

-- the place where the path breaks the rule; None where the rule holds
abbrev pub broken_at : Map → PathRule → List Edge → Option ℕ
broken_at flow (Never pattern) path = first_forbidden flow (Never pattern) [] path
broken_at flow (Before first second) path = first_forbidden flow (Before first second) [] path
broken_at flow (Most limit pattern) path = first_forbidden flow (Most limit pattern) [] path
broken_at flow (Order patterns) path = if is_in_turn flow patterns path then None else Some (length path + 1)
