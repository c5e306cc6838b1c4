-- Which partial walk a replay has made so far, and what each of its turns leads to (docs/DEFINITIONS.md).
use Rattle.std.specs.Prelude.{ℕ, ◌≡◌, ◌+◌, Bool, List, [], ◌∷◌, ◌++◌, length, Some}
use Rattle.oat_map.specs.{declared.map.Map.Map, declared.row.Row.Row, Rows.next, Stack.IsStack, Walk.Step, Walk.passed, Walk.moved, Walk.path_of, Walk.bits_of, Walk.targets_of, Walk.Walk}
use Rattle.oat_replay.specs.{declared.cause.WalkFault.WalkFault, declared.replay.Replay.Replay, declared.turn.Turn.Turn, declared.turn.Turn.TheVariants.Moved, declared.turn.Turn.TheVariants.Passed}
use Rattle.oat_replay.specs.{declared.turn.Turn.TheVariants.Done, declared.turn.Turn.TheVariants.Stuck, Replay.FollowsRecords, Replay.IsWalked, Replay.GetsStuck}
use Rattle.oat_map.specs.declared.edge.Edge.TheVariants as edges
use Rattle.oat_replay.specs.declared.cause.WalkFault.TheVariants as faults

-- the replay has made these steps, which follow the records, and stands where they lead
pub record StandsBehind (flow : Map) (op : ℕ) (bits : List Bool) (targets : List ℕ) (replay : Replay) (steps : List Step) : Type 0 where
  pub same_map : replay.map.now ≡ flow
  pub same_op : replay.op ≡ op
  pub bits_left : List Bool
  pub targets_left : List ℕ
  pub follows : FollowsRecords flow op bits targets steps replay.place bits_left targets_left
  pub turns_made : replay.turns ≡ length steps
  pub bits_used : replay.bits_used ≡ length (bits_of (path_of steps))
  pub targets_used : replay.targets_used ≡ length (targets_of (path_of steps))
  pub open_calls : IsStack steps replay.stack.items

-- what a turn of a replay behind these steps answers, and where the replay stands then
abbrev pub Turns : Map → ℕ → List Bool → List ℕ → List Step → Replay → Turn → Type 0
Turns flow op bits targets steps new (Moved edge) = StandsBehind flow op bits targets new (steps ++ moved edge ∷ [])
Turns flow op bits targets steps new Passed = StandsBehind flow op bits targets new (steps ++ passed ∷ [])
Turns flow op bits targets steps new (Done edge) =
    StandsBehind flow op bits targets new steps × (edge ≡ edges.End op)
    × IsWalked flow op bits targets (path_of (steps ++ moved edge ∷ [])) × Walk flow op (steps ++ moved edge ∷ [])
Turns flow op bits targets steps new (Stuck cause) =
    StandsBehind flow op bits targets new steps × GetsStuck flow op bits targets cause (length steps + 1)

-- so whatever steps the replay has made
abbrev pub TurnsOn : List Bool → List ℕ → Replay → Replay → Turn → Type 0
TurnsOn bits targets old new turn =
    (flow : Map) (op : ℕ) (steps : List Step) → StandsBehind flow op bits targets old steps → Turns flow op bits targets steps new turn

-- the same, where the replay stands at this row
abbrev pub TurnsAt : Row → List Bool → List ℕ → Replay → Replay → Turn → Type 0
TurnsAt row bits targets old new turn =
    (flow : Map) (op : ℕ) (steps : List Step) → StandsBehind flow op bits targets old steps
    → next flow.rows old.place ≡ Some row → Turns flow op bits targets steps new turn

-- turns of replays behind the same steps answer the same: so a turn that is done or stuck, and leaves
-- the replay where it stood, would be answered the same again
abbrev pub OneAnswer : Type 0
OneAnswer = (flow : Map) (op : ℕ) (bits : List Bool) (targets : List ℕ) (steps : List Step) (one two : Replay) (answer other : Turn)
    → Turns flow op bits targets steps one answer → Turns flow op bits targets steps two other → answer ≡ other

-- a walk that fails gets stuck as told, or finds no memory
abbrev pub WalkFails : Map → ℕ → List Bool → List ℕ → WalkFault → Type 0
WalkFails flow op bits targets (faults.Stuck cause turn) = GetsStuck flow op bits targets cause turn
WalkFails flow op bits targets faults.Memory = Unit {0}
