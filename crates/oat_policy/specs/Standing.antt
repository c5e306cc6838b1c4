-- The path for which a Watch stands while its edges come in one by one (docs/DEFINITIONS.md).
use Rattle.std.specs.{Prelude.◌≡◌, Prelude.◌≤◌, Prelude.ℕ, Prelude.◌+◌, Prelude.◌==◌, Prelude.◌&&◌, Prelude.Bool, Prelude.false, Prelude.List, Prelude.[], Prelude.◌∷◌, Prelude.◌++◌, Prelude.map}
use Rattle.std.specs.{Prelude.length, Prelude.Option, Prelude.Some, Prelude.None, Prelude.unwrap_or, Prelude.IfSome, Prelude.if◌then◌else◌, List.All, List.flat_map, List.fold, List.slice_get}
use Rattle.oat_report.specs.{TextWord, Map, Edge}
use Rattle.oat_policy.specs.{declared.policy.PathRule.PathRule, declared.policy.PathRule.TheVariants.Never, declared.policy.PathRule.TheVariants.Before, declared.policy.PathRule.TheVariants.Most}
use Rattle.oat_policy.specs.{declared.policy.PathRule.TheVariants.Order, declared.policy.PolicyRule.PolicyRule, declared.rule.Standing.Standing, declared.recent.RecentEdge.RecentEdge}
use Rattle.oat_policy.specs.{declared.watch.Watch.Watch, EdgeWords.edge_words, EdgeWords.meets_each, Rules.first_forbidden}

-- the pattern at this place, if there is one, is met by these words
abbrev pub meets_some : Option (List TextWord) → List TextWord → Bool
meets_some None words = false
meets_some (Some pattern) words = meets_each pattern words

-- Behind so many edges that count, one of these words counts: for an order, where it matches the next pattern.
abbrev pub counts : PathRule → ℕ → List TextWord → Bool
counts (Never pattern) count words = false
counts (Before first second) count words = meets_each first words
counts (Most limit pattern) count words = meets_each pattern words
counts (Order patterns) count words = meets_some (slice_get patterns count) words

abbrev pub counted_next : Map → PathRule → ℕ → Edge → ℕ
counted_next flow rule count edge = if counts rule count (edge_words flow edge) then count + 1 else count

-- how many edges of the path count
unfoldable pub counted : Map → PathRule → List Edge → ℕ
counted flow rule path = fold (counted_next flow rule) 0 path

-- the rule forbids an edge of these words behind so many that count
abbrev pub forbids_behind : PathRule → ℕ → List TextWord → Bool
forbids_behind (Never pattern) count words = meets_each pattern words
forbids_behind (Before first second) count words = meets_each second words && count == 0
forbids_behind (Most limit pattern) count words = meets_each pattern words && count == limit
forbids_behind (Order patterns) count words = false

-- how one rule stands behind a path
abbrev pub standing : Map → List Edge → PathRule → Standing
standing flow path rule = record { count = counted flow rule path; broken = first_forbidden flow rule [] path }

abbrev pub standings : Map → List Edge → List PolicyRule → List Standing
standings flow path policy = map (λ rule. standing flow path rule.rule) policy

-- ---- one more edge

-- the patterns of a rule, in the order of its line
abbrev pub patterns_of : PathRule → List (List TextWord)
patterns_of (Never pattern) = pattern ∷ []
patterns_of (Before first second) = first ∷ second ∷ []
patterns_of (Most limit pattern) = pattern ∷ []
patterns_of (Order patterns) = patterns

-- the patterns of all rules, one behind the other
abbrev pub all_patterns : List PolicyRule → List (List TextWord)
all_patterns policy = flat_map (λ rule. patterns_of rule.rule) policy

-- which of these patterns the words meet
abbrev pub met_of : List TextWord → List (List TextWord) → List Bool
met_of words patterns = map (λ pattern. meets_each pattern words) patterns

-- the pattern of this number is there and met
abbrev pub is_met : List Bool → ℕ → Bool
is_met met number = unwrap_or (slice_get met number) false

-- behind the path comes this edge, at this place, and these of the patterns are met by its words
abbrev pub ComesNext : Map → List Edge → Edge → ℕ → List (List TextWord) → List Bool → Type 0
ComesNext flow path edge place patterns met = (place ≡ length path + 1) × (met ≡ met_of (edge_words flow edge) patterns)

-- What stands for a path before an edge at this place, which meets these of the patterns, stands for the longer path after it.
abbrev pub StandsNext : {S : Type 0} → (Map → List Edge → S) → ℕ → List (List TextWord) → List Bool → S → S → Type 0
StandsNext stands place patterns met before after =
    (flow : Map) (path : List Edge) (edge : Edge) → ComesNext flow path edge place patterns met → before ≡ stands flow path → after ≡ stands flow (path ++ edge ∷ [])

-- ---- the watch

-- what is kept of an edge says which of the patterns it matches
pub record IsRecent (flow : Map) (patterns : List (List TextWord)) (recent : RecentEdge) : Type 0 where
  pub many : length recent.met.items ≡ length patterns
  pub met : IfSome recent.edge (λ edge. recent.met.items ≡ met_of (edge_words flow edge) patterns)

pub record HasSeen (watch : Watch) (policy : List PolicyRule) (flow : Map) (path : List Edge) : Type 0 where
  pub same_policy : watch.policy.now ≡ policy
  pub same_map : watch.map.now ≡ flow
  pub given : watch.given ≡ length path
  pub room : watch.given ≤ 4194304
  pub each : watch.standings.items ≡ standings flow path policy
  pub patterns : map (λ pattern. pattern.now) watch.patterns.items ≡ all_patterns policy
  pub recent : All (IsRecent flow (all_patterns policy)) watch.recent.items
