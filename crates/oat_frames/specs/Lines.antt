-- Where the lines of a function stand: the code of a line, the locals that it names, and the lines of a block one behind another.
use Rattle.std.specs.Prelude.{◌≡◌, ◌+◌, ◌*◌, ◌<◌, ◌≤◌, ℕ, List, [], ◌∷◌, ◌++◌, length, take, slice_get, Some}
use Rattle.oat_asm.specs.{declared.item.Item.Item, Items.words_needed}
use Rattle.oat_check.specs.{I64, Steps.Frame}
use Rattle.oat_frames.specs.{Code.CodeStands, Frames.World, Frames.line_address}

-- the code of the line at which a frame stands, with the next line behind it
pub record IsLineAt (w : World) (f : Frame) (is : List Item) : Type 0 where
  pub code : CodeStands w (line_address w f) is
  pub next : w.place f.func f.block (f.line + 1) ≡ line_address w f + 4 * words_needed is

-- a local is a number
pub record IsNumberLocal (w : World) (f : Frame) (x : ℕ) : Type 0 where
  pub local : x < w.locals f.func
  pub ty : w.ty f.func x ≡ I64

-- on to the next line
abbrev pub on_next_line : Frame → Frame
on_next_line f = record f { line = f.line + 1 }

-- ---- blocks

abbrev pub lines_code : List (List Item) → List Item
lines_code [] = []
lines_code (is ∷ codes) = is ++ lines_code codes

-- the words of the lines before one
abbrev pub words_before_line : List (List Item) → ℕ → ℕ
words_before_line codes l = words_needed (lines_code (take l codes))

-- The code of a block, a list of items for each line, stands at its label, and each line at its place.
pub record IsBlockAt (w : World) (func block label : ℕ) (codes : List (List Item)) : Type 0 where
  pub stands : CodeStands w (w.label label) (lines_code codes)
  pub places : (l : ℕ) → l ≤ length codes → w.place func block l ≡ w.label label + 4 * words_before_line codes l

abbrev pub LinesStand : Type 0
LinesStand =
    (w : World) (f : Frame) (label : ℕ) (codes : List (List Item)) (is : List Item)
    → IsBlockAt w f.func f.block label codes → slice_get codes f.line ≡ Some is → IsLineAt w f is

-- where no line has more than n words, the block has at most n for each
abbrev pub WordsAddUp : Type 0
WordsAddUp =
    (n : ℕ) (codes : List (List Item)) → ((l : ℕ) (is : List Item) → slice_get codes l ≡ Some is → words_needed is ≤ n) → words_needed (lines_code codes) ≤ n * length codes
