-- What each line comes to whose operands are locals alone, from the relation to the relation.
use Rattle.std.specs.{Prelude.◌≡◌, Prelude.◌<◌, Prelude.ℕ, Prelude.ℤ, Prelude.FitsSigned, Prelude.List, Prelude.[], Prelude.◌∷◌, Prelude.◌++◌, Prelude.Some, Prelude.None, Int.w64}
use Rattle.oat_frames.specs.{signed, DivZero, InputEnd, Running, BinOp, number, result_of, Frame, prints, Frames.World, Frames.IsWorld, Frames.IsAt, Frames.home_in, Comes.ComesTo, Comes.StepsTo}
use Rattle.oat_frames.specs.{Comes.EndsWithin, Comes.with_result, Lines.IsLineAt, Lines.IsNumberLocal, Lines.on_next_line}
use Rattle.oat_locals.specs.Code.{binary_code, const_code, copy_code, input_code, output_code}
use Rattle.oat_frames.specs.ends as ends

-- ---- three operands

pub record IsBinaryLine (w : World) (f : Frame) (op : BinOp) (x y z : ℕ) : Type 0 where
  pub line : IsLineAt w f (binary_code op (home_in w f x) (home_in w f y) (home_in w f z))
  pub to : IsNumberLocal w f x
  pub left : IsNumberLocal w f y
  pub right : IsNumberLocal w f z

-- X = Y op Z, for each of the nineteen
abbrev pub BinariesLead : Type 0
BinariesLead =
    (w : World) → IsWorld w → (f : Frame) (callers : List Frame) (globals : ℕ → ℕ) (op : BinOp) (x y z value : ℕ) (m : Running)
    → IsAt w f callers globals m → IsBinaryLine w f op x y z → result_of op (f.locals y) (f.locals z) ≡ Some value
    → StepsTo w 6 (with_result f x value) callers globals [] m

-- where Z is 0, a quotient and a remainder trap
abbrev pub DivisionsTrap : Type 0
DivisionsTrap =
    (w : World) → IsWorld w → (f : Frame) (callers : List Frame) (globals : ℕ → ℕ) (op : BinOp) (x y z : ℕ) (m : Running)
    → IsAt w f callers globals m → IsBinaryLine w f op x y z → result_of op (f.locals y) (f.locals z) ≡ None
    → EndsWithin w 4 (ends.Trap DivZero) m

-- ---- constants and copies

pub record IsConstLine (w : World) (f : Frame) (x : ℕ) (value : ℤ) : Type 0 where
  pub line : IsLineAt w f (const_code (home_in w f x) value)
  pub to : IsNumberLocal w f x

abbrev pub ConstsLead : Type 0
ConstsLead =
    (w : World) → IsWorld w → (f : Frame) (callers : List Frame) (globals : ℕ → ℕ) (x : ℕ) (value : ℤ) (m : Running)
    → IsAt w f callers globals m → IsConstLine w f x value
    → StepsTo w 5 (with_result f x (number value)) callers globals [] m

-- of one type
pub record IsCopyLine (w : World) (f : Frame) (x y : ℕ) : Type 0 where
  pub line : IsLineAt w f (copy_code (home_in w f x) (home_in w f y))
  pub to_local : x < w.locals f.func
  pub from_local : y < w.locals f.func
  pub types : w.ty f.func y ≡ w.ty f.func x

abbrev pub CopiesLead : Type 0
CopiesLead =
    (w : World) → IsWorld w → (f : Frame) (callers : List Frame) (globals : ℕ → ℕ) (x y : ℕ) (m : Running)
    → IsAt w f callers globals m → IsCopyLine w f x y
    → StepsTo w 2 (with_result f x (f.locals y)) callers globals [] m

-- ---- inputs and outputs

pub record IsInputLine (w : World) (f : Frame) (x : ℕ) : Type 0 where
  pub line : IsLineAt w f (input_code (home_in w f x))
  pub to : IsNumberLocal w f x

abbrev pub InputsLead : Type 0
InputsLead =
    (w : World) → IsWorld w → (f : Frame) (callers : List Frame) (globals : ℕ → ℕ) (x : ℕ) (value : ℤ) (rest : List ℤ) (m : Running)
    → IsAt w f callers globals m → IsInputLine w f x → m.inputs ≡ value ∷ rest → FitsSigned w64 value
    → ComesTo w 2 (with_result f x (number value)) callers globals [] rest m.outputs m

abbrev pub InputEndsTrap : Type 0
InputEndsTrap =
    (w : World) → IsWorld w → (f : Frame) (callers : List Frame) (globals : ℕ → ℕ) (x : ℕ) (m : Running)
    → IsAt w f callers globals m → IsInputLine w f x → m.inputs ≡ []
    → EndsWithin w 1 (ends.Trap InputEnd) m

pub record IsOutputLine (w : World) (f : Frame) (x : ℕ) : Type 0 where
  pub line : IsLineAt w f (output_code (home_in w f x))
  pub from : IsNumberLocal w f x

abbrev pub OutputsLead : Type 0
OutputsLead =
    (w : World) → IsWorld w → (f : Frame) (callers : List Frame) (globals : ℕ → ℕ) (x : ℕ) (m : Running)
    → IsAt w f callers globals m → IsOutputLine w f x
    → ComesTo w 2 (on_next_line f) callers globals (prints (signed (f.locals x)) ∷ []) m.inputs (m.outputs ++ signed (f.locals x) ∷ []) m
