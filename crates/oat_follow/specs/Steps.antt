-- An image follows a source step by step: each source step is matched by some instructions of the bare run that show the same.
use Rattle.std.specs.Prelude.{◌≡◌, ◌≤◌, ◌+◌, ◌*◌, ℕ, ℤ, List, [], map, None, option_map}
use Rattle.oat_journal.specs.{Finish, SourceMachine, halted, trapped, Image, name_of, declared.end.DeviceEnd.DeviceEnd, Run.Running, Run.started}
use Rattle.oat_follow.specs.{Placement.AreNamed, Placement.Placement, Placement.seen_at, Reaching.run_on, Reaching.shown_on}
use Rattle.oat_journal.specs.edges as edges
use Rattle.oat_journal.specs.declared.end.DeviceEnd.TheVariants as ends

abbrev pub device_end : Finish → DeviceEnd
device_end halted = ends.Halted
device_end (trapped kind) = ends.Trap kind

-- so many instructions at most match a source step
abbrev pub step_limit : ℕ
step_limit = 300

-- so many at most lead from the start of a run to behind k source steps
abbrev pub instructions_for : ℕ → ℕ
instructions_for k = step_limit * (k + 1)

-- From related states: a source step, and the instructions that match it, at least one.
pub record IsMatched (S : SourceMachine) (image : Image) (p : Placement S.Edge) (Related : S.State → Running → Type 0) (s : S.State) (m : Running) : Type 0 where
  pub count : ℕ
  pub some : 1 ≤ count
  pub few : count ≤ step_limit
  pub kept : Related (S.next s) (run_on image count m)
  pub alike : shown_on image count m ≡ map (seen_at p) (S.show s)
  pub named : AreNamed image.map p S.name (S.show s)

-- the end of an operation is seen as that edge, and has its name
pub record IsFinish (S : SourceMachine) (image : Image) (p : Placement S.Edge) (op : ℕ) : Type 0 where
  pub edge : p.edge (S.finish op) ≡ edges.End op
  pub name : name_of image.map (p.edge (S.finish op)) ≡ S.name (S.finish op)

pub record FollowsSteps (S : SourceMachine) (image : Image) (p : Placement S.Edge) (inputs : List ℤ) : Type 1 where
  pub Related : S.State → Running → Type 0
  -- the instructions before the first source step
  pub lead : ℕ
  pub few : lead ≤ step_limit
  pub first : Related S.start (run_on image lead (started image inputs))
  pub silent : shown_on image lead (started image inputs) ≡ []
  pub ends : (s : S.State) (m : Running) → Related s m → m.end ≡ option_map device_end (S.end s)
  pub finish : (op : ℕ) → IsFinish S image p op
  pub step : (s : S.State) (m : Running) → Related s m → S.end s ≡ None → IsMatched S image p Related s m
