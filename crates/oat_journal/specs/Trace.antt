-- What holds of a window that was sealed, whatever was given and written: it is a trace of the code (docs/DEFINITIONS.md, "Window").
use Rattle.std.specs.Prelude.{◌≡◌, ◌+◌, ℕ, ℤ, List, [], ◌∷◌, ◌++◌, Option, Some, slice_get}
use Rattle.oat_image.specs.declared.image.Image.{Image}
use Rattle.oat_case.specs.declared.case.Write.{Write}
use Rattle.oat_measure.specs.{next_pc, Body, declared.opening.Opening.Opening, declared.call.MonitorCall.MonitorCall}
use Rattle.oat_journal.specs.{Run.Entry, Run.AreGiven, Run.pc_of, Journal.IsMade, Journal.IsEntryBounded, Journal.Continues, Window.made_call, Measured.HasBody, Measured.dev, Measured.window_of}
use Rattle.oat_measure.specs.declared.call.MonitorCall.TheVariants as svc

-- an instruction neither begins nor ends an operation
abbrev pub IsQuiet : Option MonitorCall → Type 0
IsQuiet (Some (svc.Begin op at)) = ⊥
IsQuiet (Some (svc.End op)) = ⊥
IsQuiet _ = Unit {0}

-- Instructions one behind the other from an address on, of which the last is the end that seals, and none before it begins or ends an operation.
pub record IsTrace (code : List ℕ) (op from : ℕ) (window : List Entry) : Type 0 where
  pub made : (k : ℕ) (e : Entry) → slice_get window k ≡ Some e → IsMade code e × IsEntryBounded e
  pub linked : (k : ℕ) (e next : Entry) → slice_get window k ≡ Some e → slice_get window (k + 1) ≡ Some next → Continues e next
  pub starts : (e : Entry) → slice_get window 0 ≡ Some e → pc_of e ≡ from
  pub front : List Entry
  pub last : Entry
  pub whole : window ≡ front ++ last ∷ []
  pub seals : made_call last ≡ Some (svc.End op)
  pub quiet : (k : ℕ) (e : Entry) → slice_get front k ≡ Some e → IsQuiet (made_call e)

-- The window of each body that a run reports is a trace, from behind the SVC that opened it.
abbrev pub WindowsAreTraces : Type 0
WindowsAreTraces =
    (image : Image) (o : Opening) (inputs : List ℤ) (writes : List Write) (n s : ℕ) (body : Body) → AreGiven inputs writes
    → HasBody o (dev image o inputs writes n) s body
    → IsTrace image.code o.op (next_pc o.begin_at) (window_of o s (dev image o inputs writes n))
