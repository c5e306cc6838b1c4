-- What a replay that keeps no path has found before a turn: the steps, and the chain of their returns.
use Rattle.std.proofs.Common.{◌≡◌, ℕ, ◌+◌, Bool, List, [], ◌∷◌, ◌++◌, length, ap, ◌∙◌, append-nil}
use Rattle.std.proofs.lemmas.List.Elements.{filter_map-append}
use Rattle.oat_verify.specs.{Edge, End, Map, Step, passed, moved, edge_of, path_of, return_of, returns_of, Chain, StandsFor, Replay, StandsBehind}

pub record ReplaysSoFar (flow : Map) (op : ℕ) (bits : List Bool) (targets : List ℕ) (replay : Replay) (chain : Chain) (head : List ℕ) (turn : ℕ) : Type 0 where
  pub steps : List Step
  pub behind : StandsBehind flow op bits targets replay steps
  pub chained : StandsFor chain head (returns_of (path_of steps))
  pub turn_is : turn ≡ length steps + 1

pub returns-moved : (steps : List Step) (edge : Edge) → returns_of (path_of (steps ++ moved edge ∷ [])) ≡ returns_of (path_of steps) ++ returns_of (edge ∷ [])
returns-moved steps edge =
    ap returns_of (filter_map-append edge_of steps (moved edge ∷ [])) ∙ filter_map-append return_of (path_of steps) (edge ∷ [])

pub returns-passed : (steps : List Step) → returns_of (path_of (steps ++ passed ∷ [])) ≡ returns_of (path_of steps)
returns-passed steps = ap returns_of (filter_map-append edge_of steps (passed ∷ []) ∙ append-nil (path_of steps))

pub returns-done : (steps : List Step) (edge : Edge) (op : ℕ) → edge ≡ End op → returns_of (path_of (steps ++ moved edge ∷ [])) ≡ returns_of (path_of steps)
returns-done steps edge op is =
    returns-moved steps edge ∙ (ap (λ (e : Edge). returns_of (path_of steps) ++ returns_of (e ∷ [])) is ∙ append-nil (returns_of (path_of steps)))
