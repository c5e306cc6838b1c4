-- What the lines on scalars come to, and a reference, from the relation to the relation. In the event of a critical scalar stands the source's value.
use Rattle.std.specs.Prelude.{◌≡◌, true, ◌+◌, ◌<◌, ◌^◌, ℕ, List, [], ◌∷◌}
use Rattle.oat_frames.specs.{I64, Fn, Frame, assigned, Running, monitors, Frames.World, Frames.IsWorld, Frames.IsAt, Frames.home_in, Comes.StepsTo, Comes.with_result, Lines.IsLineAt}
use Rattle.oat_frames.specs.{Lines.IsNumberLocal, Lines.on_next_line}
use Rattle.oat_globals.specs.Code.{load_code, store_code, ref_code, use_code, define_code}
use Rattle.oat_frames.specs.svc as svc

-- ---- scalars: numbers and references

-- a word of global data and a local are there, and of one type
pub record IsScalarPair (w : World) (f : Frame) (g x : ℕ) : Type 0 where
  pub global : g < w.globals
  pub local : x < w.locals f.func
  pub types : w.ty f.func x ≡ w.global_ty g

abbrev pub LoadsLead : Type 0
LoadsLead =
    (w : World) → IsWorld w → (f : Frame) (callers : List Frame) (globals : ℕ → ℕ) (x g : ℕ) (m : Running)
    → IsAt w f callers globals m → IsLineAt w f (load_code (home_in w f x) g) → IsScalarPair w f g x
    → StepsTo w 4 (with_result f x (globals g)) callers globals [] m

abbrev pub StoresLead : Type 0
StoresLead =
    (w : World) → IsWorld w → (f : Frame) (callers : List Frame) (globals : ℕ → ℕ) (g x : ℕ) (m : Running)
    → IsAt w f callers globals m → IsLineAt w f (store_code g (home_in w f x)) → IsScalarPair w f g x
    → StepsTo w 4 (on_next_line f) callers (assigned globals g (f.locals x)) [] m

-- ---- references

-- a local of the type of references with so many parameters, which may name the function
pub record MayRefer (w : World) (f : Frame) (x callee params : ℕ) : Type 0 where
  pub local : x < w.locals f.func
  pub ty : w.ty f.func x ≡ Fn params
  pub known : w.may_name callee params ≡ true

abbrev pub ReferencesLead : Type 0
ReferencesLead =
    (w : World) → IsWorld w → (f : Frame) (callers : List Frame) (globals : ℕ → ℕ) (x callee params : ℕ) (m : Running)
    → IsAt w f callers globals m → IsLineAt w f (ref_code (home_in w f x) callee) → MayRefer w f x callee params
    → StepsTo w 3 (with_result f x (callee + 1)) callers globals [] m

-- ---- critical scalars

-- a word of global data is a number and has a cell, and a local is a number
pub record IsCriticalScalar (w : World) (f : Frame) (g cell x : ℕ) : Type 0 where
  pub global : g < w.globals
  pub ty : w.global_ty g ≡ I64
  pub few : cell < 2 ^ 16
  pub local : IsNumberLocal w f x

abbrev pub CriticalLoadsLead : Type 0
CriticalLoadsLead =
    (w : World) → IsWorld w → (f : Frame) (callers : List Frame) (globals : ℕ → ℕ) (x g cell : ℕ) (m : Running)
    → IsAt w f callers globals m → IsLineAt w f (use_code (home_in w f x) g cell) → IsCriticalScalar w f g cell x
    → StepsTo w 6 (with_result f x (globals g)) callers globals (monitors (svc.Use cell (globals g)) ∷ []) m

abbrev pub CriticalStoresLead : Type 0
CriticalStoresLead =
    (w : World) → IsWorld w → (f : Frame) (callers : List Frame) (globals : ℕ → ℕ) (g cell x : ℕ) (m : Running)
    → IsAt w f callers globals m → IsLineAt w f (define_code g cell (home_in w f x)) → IsCriticalScalar w f g cell x
    → StepsTo w 6 (on_next_line f) callers (assigned globals g (f.locals x)) (monitors (svc.Define cell (f.locals x)) ∷ []) m
