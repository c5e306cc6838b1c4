-- What a turn at an End row answers (docs/DEFINITIONS.md).
use Rattle.std.specs.Prelude.{ℕ, ◌≡◌}
use Rattle.oat_replay.specs.{declared.turn.Turn.Turn, declared.turn.Turn.TheVariants.Moved, declared.turn.Turn.TheVariants.Passed, declared.turn.Turn.TheVariants.Done}
use Rattle.oat_replay.specs.{declared.turn.Turn.TheVariants.Stuck, Replay.StuckAtEnd}
use Rattle.oat_map.specs.declared.edge.Edge.TheVariants as edges

-- the walk is done where the end is the operation's own, no call is open and no record is left
abbrev pub EndsTurn : (op ended open_calls bits targets : ℕ) → Turn → Type 0
EndsTurn op ended open_calls bits targets (Moved edge) = ⊥
EndsTurn op ended open_calls bits targets Passed = ⊥
EndsTurn op ended open_calls bits targets (Done edge) =
    (ended ≡ op) × (open_calls ≡ 0) × (bits ≡ 0) × (targets ≡ 0) × (edge ≡ edges.End op)
EndsTurn op ended open_calls bits targets (Stuck cause) = StuckAtEnd op ended open_calls bits targets cause
