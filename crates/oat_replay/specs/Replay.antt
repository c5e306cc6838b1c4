-- What a replay of given records is to find: the path of the one walk that has just these records,
-- or else how far they lead and why no further. docs/DEFINITIONS.md says the same in words.
use Rattle.std.specs.Prelude.{ℕ, ◌≡◌, ◌≢◌, ◌+◌, ◌≤◌, ◌<◌, Bool, List, [], ◌∷◌, ◌++◌, length, Option, None, Some}
use Rattle.oat_map.specs.{declared.row.Row.Row, declared.row.Row.TheVariants.Jump, declared.row.Row.TheVariants.Branch, declared.row.Row.TheVariants.Call, declared.row.Row.TheVariants.ICall}
use Rattle.oat_map.specs.{declared.row.Row.TheVariants.Ret, declared.row.Row.TheVariants.Begin, declared.row.Row.TheVariants.End, declared.row.Row.TheVariants.UseCell}
use Rattle.oat_map.specs.{declared.row.Row.TheVariants.DefCell, declared.row.Row.TheVariants.UseAt, declared.row.Row.TheVariants.DefAt, declared.row.Row.TheVariants.Check, declared.edge.Edge.Edge}
use Rattle.oat_map.specs.{declared.map.Map.Map, Rows.next, Rows.IsIndirectTarget, Walk.Step, Walk.PartialWalk, Walk.Walk, Walk.path_of, Walk.bits_of, Walk.targets_of, Walk.depth, Walk.path_limit}
use Rattle.oat_replay.specs.{declared.cause.ReplayCause.ReplayCause, declared.cause.ReplayCause.TheVariants.BitsEnd, declared.cause.ReplayCause.TheVariants.TargetsEnd}
use Rattle.oat_replay.specs.{declared.cause.ReplayCause.TheVariants.BadTarget, declared.cause.ReplayCause.TheVariants.Underflow, declared.cause.ReplayCause.TheVariants.EndInside}
use Rattle.oat_replay.specs.{declared.cause.ReplayCause.TheVariants.Nested, declared.cause.ReplayCause.TheVariants.WrongEnd, declared.cause.ReplayCause.TheVariants.OffCode}
use Rattle.oat_replay.specs.{declared.cause.ReplayCause.TheVariants.BitsLeft, declared.cause.ReplayCause.TheVariants.TargetsLeft, declared.cause.ReplayCause.TheVariants.PathLimit}

-- the path is that of a walk within the limit, whose bits and targets are these
pub record IsWalked (flow : Map) (op : ℕ) (bits : List Bool) (targets : List ℕ) (path : List Edge) : Type 0 where
  pub steps : List Step
  pub walk : Walk flow op steps
  pub within : length steps ≤ path_limit
  pub path_is : path ≡ path_of steps
  pub bits_are : bits_of path ≡ bits
  pub targets_are : targets_of path ≡ targets

-- a partial walk within the limit, whose bits and targets are the first of these; the others are left
pub record FollowsRecords (flow : Map) (op : ℕ) (bits : List Bool) (targets : List ℕ) (steps : List Step) (place : ℕ)
    (bits_left : List Bool) (targets_left : List ℕ) : Type 0 where
  pub partial : PartialWalk flow op steps place
  pub within : length steps ≤ path_limit
  pub bits_are : bits ≡ bits_of (path_of steps) ++ bits_left
  pub targets_are : targets ≡ targets_of (path_of steps) ++ targets_left

-- an indirect call can't be followed: no target is left, or the next one isn't allowed
pub data StuckAtICall (flow : Map) (params : ℕ) (targets_left : List ℕ) (cause : ReplayCause) : Type 0 where
  no_target : targets_left ≡ [] → cause ≡ TargetsEnd → StuckAtICall flow params targets_left cause
  bad_target : (target : ℕ) (others : List ℕ) → targets_left ≡ target ∷ others
      → ¬ IsIndirectTarget flow.functions params target → cause ≡ BadTarget target
      → StuckAtICall flow params targets_left cause

-- the end of the operation `ended` isn't that of a walk of op with these records: the first reason
pub data StuckAtEnd (op ended open_calls bits targets : ℕ) (cause : ReplayCause) : Type 0 where
  wrong_end : ended ≢ op → cause ≡ WrongEnd → StuckAtEnd op ended open_calls bits targets cause
  end_inside : ended ≡ op → 0 < open_calls → cause ≡ EndInside → StuckAtEnd op ended open_calls bits targets cause
  unused_bits : ended ≡ op → open_calls ≡ 0 → 0 < bits → cause ≡ BitsLeft bits
      → StuckAtEnd op ended open_calls bits targets cause
  unused_targets : ended ≡ op → open_calls ≡ 0 → bits ≡ 0 → 0 < targets → cause ≡ TargetsLeft targets
      → StuckAtEnd op ended open_calls bits targets cause

-- why no step and no end follows at the next row, behind these steps and with these records left
abbrev pub StuckAt : Map → ℕ → Option Row → List Step → List Bool → List ℕ → ReplayCause → Type 0
StuckAt flow op None steps bits_left targets_left cause = cause ≡ OffCode
StuckAt flow op (Some (Jump at target)) steps bits_left targets_left cause = ⊥
StuckAt flow op (Some (Branch at taken other)) steps bits_left targets_left cause = (bits_left ≡ []) × (cause ≡ BitsEnd)
StuckAt flow op (Some (Call at target)) steps bits_left targets_left cause = ⊥
StuckAt flow op (Some (ICall at params)) steps bits_left targets_left cause = StuckAtICall flow params targets_left cause
StuckAt flow op (Some (Ret at)) steps bits_left targets_left cause = (depth steps ≡ 0) × (cause ≡ Underflow)
StuckAt flow op (Some (Begin at begun)) steps bits_left targets_left cause = cause ≡ Nested
StuckAt flow op (Some (End at ended)) steps bits_left targets_left cause =
    StuckAtEnd op ended (depth steps) (length bits_left) (length targets_left) cause
StuckAt flow op (Some (UseCell at cell)) steps bits_left targets_left cause = ⊥
StuckAt flow op (Some (DefCell at cell)) steps bits_left targets_left cause = ⊥
StuckAt flow op (Some (UseAt at cell len)) steps bits_left targets_left cause = ⊥
StuckAt flow op (Some (DefAt at cell len)) steps bits_left targets_left cause = ⊥
StuckAt flow op (Some (Check at)) steps bits_left targets_left cause = ⊥

-- the longest partial walk within the limit that follows these records ends for this cause, which
-- turn number `turn` finds
pub record GetsStuck (flow : Map) (op : ℕ) (bits : List Bool) (targets : List ℕ) (cause : ReplayCause) (turn : ℕ) : Type 0 where
  pub steps : List Step
  pub place : ℕ
  pub bits_left : List Bool
  pub targets_left : List ℕ
  pub follows : FollowsRecords flow op bits targets steps place bits_left targets_left
  pub longest : (others : List Step) (other_place : ℕ) (other_bits : List Bool) (other_targets : List ℕ)
      → FollowsRecords flow op bits targets others other_place other_bits other_targets → length others ≤ length steps
  pub turn_is : turn ≡ length steps + 1
  pub at_limit : length steps ≡ path_limit → cause ≡ PathLimit
  pub before_limit : length steps < path_limit
      → StuckAt flow op (next flow.rows place) steps bits_left targets_left cause

-- records are those of one walk at most, passes included
abbrev pub OneWalk : Type 0
OneWalk = (flow : Map) (op : ℕ) (bits : List Bool) (targets : List ℕ) (one two : List Edge)
    → (first : IsWalked flow op bits targets one) → (second : IsWalked flow op bits targets two) → first.steps ≡ second.steps

-- so a walked path is the only one
abbrev pub OnePath : Type 0
OnePath = (flow : Map) (op : ℕ) (bits : List Bool) (targets : List ℕ) (one two : List Edge)
    → IsWalked flow op bits targets one → IsWalked flow op bits targets two → one ≡ two

-- a partial walk that follows the records of a walk is a front of it
abbrev pub FollowersAreFronts : Type 0
FollowersAreFronts = (flow : Map) (op : ℕ) (bits : List Bool) (targets : List ℕ) (path : List Edge)
    → (walked : IsWalked flow op bits targets path)
    → (steps : List Step) (place : ℕ) (bits_left : List Bool) (targets_left : List ℕ)
    → FollowsRecords flow op bits targets steps place bits_left targets_left
    → (rest : List Step) × (walked.steps ≡ steps ++ rest)

-- replays of the same records get stuck for one cause, at one turn
abbrev pub OneCause : Type 0
OneCause = (flow : Map) (op : ℕ) (bits : List Bool) (targets : List ℕ) (cause other : ReplayCause) (turn next_turn : ℕ)
    → GetsStuck flow op bits targets cause turn → GetsStuck flow op bits targets other next_turn
    → (cause ≡ other) × (turn ≡ next_turn)

-- where a path is walked, nothing gets stuck
abbrev pub NeverBoth : Type 0
NeverBoth = (flow : Map) (op : ℕ) (bits : List Bool) (targets : List ℕ) (path : List Edge) (cause : ReplayCause) (turn : ℕ)
    → IsWalked flow op bits targets path → ¬ GetsStuck flow op bits targets cause turn
