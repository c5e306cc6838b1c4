-- What the loop over turns has found before a turn.
use Rattle.std.proofs.Common.{◌≡◌, ℕ, ◌+◌, Bool, List, [], ◌∷◌, ◌++◌, length, ◌∙◌, append-nil}
use Rattle.std.proofs.lemmas.List.Elements.{filter_map-append}
use Rattle.oat_map.specs.{declared.edge.Edge.Edge, declared.map.Map.Map, Walk.Step, Walk.passed, Walk.moved, Walk.edge_of, Walk.path_of}
use Rattle.oat_replay.specs.{declared.replay.Replay.Replay, StandsBehind.StandsBehind}

-- the steps before a turn, and their path
pub record WalksSoFar (flow : Map) (op : ℕ) (bits : List Bool) (targets : List ℕ) (replay : Replay) (path : List Edge) (turn : ℕ) : Type 0 where
  pub steps : List Step
  pub behind : StandsBehind flow op bits targets replay steps
  pub path_is : path ≡ path_of steps
  pub turn_is : turn ≡ length steps + 1

pub path-push : (steps : List Step) (edge : Edge) → path_of (steps ++ moved edge ∷ []) ≡ path_of steps ++ edge ∷ []
path-push steps edge = filter_map-append edge_of steps (moved edge ∷ [])

pub path-pass : (steps : List Step) → path_of (steps ++ passed ∷ []) ≡ path_of steps
path-pass steps = filter_map-append edge_of steps (passed ∷ []) ∙ append-nil (path_of steps)
