-- What the terminators jump, branch and halt come to, from the relation to the relation.
use Rattle.std.specs.Prelude.{◌≡◌, ◌+◌, ℕ, true, false, List, [], ◌∷◌}
use Rattle.oat_frames.specs.{Running, IsShaped, Frame, Code.CodeStands, moves, Frames.World, Frames.IsWorld, Frames.Home, Frames.IsAt, Frames.home_in, Frames.line_address, Comes.StepsTo}
use Rattle.oat_frames.specs.{Comes.EndsWithin, Lines.IsNumberLocal}
use Rattle.oat_locals.specs.Code.{jump_code, branch_code, halt_code}
use Rattle.oat_frames.specs.edges as edges
use Rattle.oat_frames.specs.ends as ends

-- a block of the frame's function begins at a label
abbrev pub BlockBegins : World → Frame → ℕ → ℕ → Type 0
BlockBegins w f block label = w.place f.func block 0 ≡ w.label label

-- on to the first line of a block
abbrev pub in_block : Frame → ℕ → Frame
in_block f block = record f { block = block; line = 0 }

-- ---- jump

pub record IsJumpLine (w : World) (f : Frame) (to label : ℕ) : Type 0 where
  pub code : CodeStands w (line_address w f) (jump_code label)
  pub block : BlockBegins w f to label

abbrev pub JumpsLead : Type 0
JumpsLead =
    (w : World) → IsWorld w → (f : Frame) (callers : List Frame) (globals : ℕ → ℕ) (to label : ℕ) (m : Running)
    → IsAt w f callers globals m → IsJumpLine w f to label
    → StepsTo w 1 (in_block f to) callers globals (moves (edges.Jump (line_address w f) (w.label label)) ∷ []) m

-- ---- branch

-- No block begins inside the group of a branch, at its third word: there a branch that isn't taken would show the edge of one that is.
pub record IsBranchLine (w : World) (f : Frame) (x first second taken other : ℕ) : Type 0 where
  pub code : CodeStands w (line_address w f) (branch_code (home_in w f x) taken other)
  pub from : IsNumberLocal w f x
  pub first_block : BlockBegins w f first taken
  pub second_block : BlockBegins w f second other
  pub apart : w.label taken ≡ line_address w f + 12 → ⊥

-- the first block where X isn't 0
abbrev pub TakenBranchesLead : Type 0
TakenBranchesLead =
    (w : World) → IsWorld w → (f : Frame) (callers : List Frame) (globals : ℕ → ℕ) (x first second taken other : ℕ) (m : Running)
    → IsAt w f callers globals m → IsBranchLine w f x first second taken other → (f.locals x ≡ 0 → ⊥)
    → StepsTo w 3 (in_block f first) callers globals (moves (edges.Branch (line_address w f + 4) true (w.label taken)) ∷ []) m

abbrev pub OtherBranchesLead : Type 0
OtherBranchesLead =
    (w : World) → IsWorld w → (f : Frame) (callers : List Frame) (globals : ℕ → ℕ) (x first second taken other : ℕ) (m : Running)
    → IsAt w f callers globals m → IsBranchLine w f x first second taken other → f.locals x ≡ 0
    → StepsTo w 4 (in_block f second) callers globals (moves (edges.Branch (line_address w f + 4) false (w.label other)) ∷ []) m

-- where the image has the shape, no block begins inside the group of a branch
abbrev pub BranchesAreApart : Type 0
BranchesAreApart =
    (w : World) (f : Frame) (x : Home) (taken other : ℕ) → IsShaped w.image → CodeStands w (line_address w f) (branch_code x taken other)
    → w.label taken ≡ line_address w f + 12 → ⊥

-- ---- halt

abbrev pub HaltsEnd : Type 0
HaltsEnd =
    (w : World) → IsWorld w → (f : Frame) (callers : List Frame) (globals : ℕ → ℕ) (m : Running)
    → IsAt w f callers globals m → CodeStands w (line_address w f) halt_code
    → EndsWithin w 1 ends.Halted m
