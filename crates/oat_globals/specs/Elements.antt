-- What the lines on elements come to: the source's element, at its word and its cell, or the trap Index where the number isn't below the length.
use Rattle.std.specs.Prelude.{◌≡◌, ◌+◌, ◌<◌, ◌≤◌, ◌^◌, ℕ, List, [], ◌∷◌, ◌++◌}
use Rattle.oat_frames.specs.{Item, Index, I64, Frame, assigned, Running, monitors, Frames.World, Frames.IsWorld, Frames.IsAt, Frames.home_in, Frames.line_address, Code.CodeStands, Comes.StepsTo}
use Rattle.oat_frames.specs.{Comes.EndsWithin, Comes.with_result, Lines.IsLineAt, Lines.IsNumberLocal, Lines.on_next_line}
use Rattle.oat_globals.specs.Code.{element_code, loadx_code, storex_code, use_at_code, define_at_code}
use Rattle.oat_frames.specs.svc as svc
use Rattle.oat_frames.specs.ends as ends

-- len words of numbers from word base on
pub record IsArrayAt (w : World) (base len : ℕ) : Type 0 where
  pub inside : base + len ≤ w.globals
  pub numbers : (j : ℕ) → j < len → w.global_ty (base + j) ≡ I64

-- a line's array, the local that has the element's number, and the local that is read or written
pub record IsElementLine (w : World) (f : Frame) (base len i x : ℕ) : Type 0 where
  pub array : IsArrayAt w base len
  pub index : IsNumberLocal w f i
  pub local : IsNumberLocal w f x

abbrev pub ElementLoadsLead : Type 0
ElementLoadsLead =
    (w : World) → IsWorld w → (f : Frame) (callers : List Frame) (globals : ℕ → ℕ) (x base len i : ℕ) (m : Running)
    → IsAt w f callers globals m → IsLineAt w f (loadx_code (home_in w f x) base len (home_in w f i)) → IsElementLine w f base len i x → f.locals i < len
    → StepsTo w 10 (with_result f x (globals (base + f.locals i))) callers globals [] m

abbrev pub ElementStoresLead : Type 0
ElementStoresLead =
    (w : World) → IsWorld w → (f : Frame) (callers : List Frame) (globals : ℕ → ℕ) (base len i x : ℕ) (m : Running)
    → IsAt w f callers globals m → IsLineAt w f (storex_code base len (home_in w f i) (home_in w f x)) → IsElementLine w f base len i x → f.locals i < len
    → StepsTo w 10 (on_next_line f) callers (assigned globals (base + f.locals i) (f.locals x)) [] m

-- of both lines: `is` is what stands behind the element's address
abbrev pub ElementsTrap : Type 0
ElementsTrap =
    (w : World) → IsWorld w → (f : Frame) (callers : List Frame) (globals : ℕ → ℕ) (base len i : ℕ) (is : List Item) (m : Running)
    → IsAt w f callers globals m → CodeStands w (line_address w f) (element_code base len (home_in w f i) ++ is) → IsNumberLocal w f i → len < 2 ^ 32 → len ≤ f.locals i
    → EndsWithin w 6 (ends.Trap Index) m

-- ---- critical arrays: the number of the cell in an event is that of the element, and the value is the source's

-- the array's cells have numbers of 16 bits
pub record IsCriticalElementLine (w : World) (f : Frame) (base cell len i x : ℕ) : Type 0 where
  pub line : IsElementLine w f base len i x
  pub few : len ≤ 4096
  pub cells : cell + len ≤ 65536

abbrev pub CriticalElementLoadsLead : Type 0
CriticalElementLoadsLead =
    (w : World) → IsWorld w → (f : Frame) (callers : List Frame) (globals : ℕ → ℕ) (x base cell len i : ℕ) (m : Running)
    → IsAt w f callers globals m → IsLineAt w f (use_at_code (home_in w f x) base cell len (home_in w f i)) → IsCriticalElementLine w f base cell len i x → f.locals i < len
    → StepsTo w 11 (with_result f x (globals (base + f.locals i))) callers globals (monitors (svc.Use (cell + f.locals i) (globals (base + f.locals i))) ∷ []) m

abbrev pub CriticalElementStoresLead : Type 0
CriticalElementStoresLead =
    (w : World) → IsWorld w → (f : Frame) (callers : List Frame) (globals : ℕ → ℕ) (base cell len i x : ℕ) (m : Running)
    → IsAt w f callers globals m → IsLineAt w f (define_at_code base cell len (home_in w f i) (home_in w f x)) → IsCriticalElementLine w f base cell len i x → f.locals i < len
    → StepsTo w 11 (on_next_line f) callers (assigned globals (base + f.locals i) (f.locals x)) (monitors (svc.Define (cell + f.locals i) (f.locals x)) ∷ []) m

abbrev pub CriticalElementLoadsTrap : Type 0
CriticalElementLoadsTrap =
    (w : World) → IsWorld w → (f : Frame) (callers : List Frame) (globals : ℕ → ℕ) (x base cell len i : ℕ) (m : Running)
    → IsAt w f callers globals m → IsLineAt w f (use_at_code (home_in w f x) base cell len (home_in w f i)) → IsCriticalElementLine w f base cell len i x → len ≤ f.locals i
    → EndsWithin w 5 (ends.Trap Index) m

abbrev pub CriticalElementStoresTrap : Type 0
CriticalElementStoresTrap =
    (w : World) → IsWorld w → (f : Frame) (callers : List Frame) (globals : ℕ → ℕ) (base cell len i x : ℕ) (m : Running)
    → IsAt w f callers globals m → IsLineAt w f (define_at_code base cell len (home_in w f i) (home_in w f x)) → IsCriticalElementLine w f base cell len i x → len ≤ f.locals i
    → EndsWithin w 6 (ends.Trap Index) m
