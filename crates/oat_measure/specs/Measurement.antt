-- The measurement step: what each monitor call from 1 to 7 does to what the monitor knows of a window (docs/FORMATS.md, "Monitor calls").
--
-- It speaks of calls alone and knows no machine.
use Rattle.std.specs.Prelude.{if◌then◌else◌, ℕ, Bool, not, List, [], ◌∷◌, ◌++◌, Option, Some, None, Result, Ok, Err, nat_eq}
use Rattle.sha2.specs.Sha256.{sha256}
use Rattle.oat_chain.specs.Chain.{window_head, link}
use Rattle.oat_blob.specs.declared.body.Violation.{Violation}
use Rattle.oat_events.specs.Cells.{Cells, defined}
use Rattle.oat_measure.specs.{Monitor.opens, declared.call.MonitorCall.MonitorCall, declared.opening.Opening.Opening, declared.stop.StopKind.StopKind, declared.stop.StopKind.TheVariants.Nested}
use Rattle.oat_measure.specs.{declared.stop.StopKind.TheVariants.WrongEnd}
use Rattle.oat_measure.specs.declared.call.MonitorCall.TheVariants as svc

pub data Stage : Type 0 where
  unmeasured : Stage
  measuring : Stage
  sealed : Stage

pub record State : Type 0 where
  pub stage : Stage
  -- the window's number, where the windows of a session are numbered
  pub serial : Option ℕ
  pub cells : Cells
  -- the chain of the returns so far
  pub hash : List ℕ
  pub bits : List Bool
  pub targets : List ℕ
  pub violation : Option Violation

-- before the window of this number, with these cells
abbrev pub booted : Option ℕ → Cells → State
booted serial cells = record { stage = unmeasured; serial = serial; cells = cells; hash = []; bits = []; targets = []; violation = None }

-- The violation behind a use: that of a value other than the cell's. The first one is kept.
abbrev pub violated : Option Violation → ℕ → Option ℕ → ℕ → Option Violation
violated (Some first) cell held value = Some first
violated None cell None value = None
violated None cell (Some held) value = if nat_eq held value then None else Some (record { cell = cell; expected = held; found = value })

-- inside the window
abbrev pub inside_window : Opening → State → MonitorCall → Result State StopKind
inside_window o s (svc.Begin op at) = Err Nested
inside_window o s (svc.End op) = if nat_eq op o.op then Ok (record s { stage = sealed }) else Err WrongEnd
inside_window o s (svc.Bit value) = Ok (record s { bits = s.bits ++ not (nat_eq value 0) ∷ [] })
inside_window o s (svc.Target address) = Ok (record s { targets = s.targets ++ address ∷ [] })
inside_window o s (svc.Return address) = Ok (record s { hash = sha256 (link s.hash address) })
inside_window o s (svc.Define cell value) = Ok (record s { cells = defined s.cells cell value })
inside_window o s (svc.Use cell value) = Ok (record s { violation = violated s.violation cell (s.cells cell) value })

-- before the window: a begin may open it, a define sets its cell, and nothing else counts
abbrev pub before_window : Opening → State → MonitorCall → State
before_window o s (svc.Begin op at) = if opens o.op o.begin_at (svc.Begin op at) then record s { stage = measuring; hash = sha256 (window_head o.nonce o.op o.digest s.serial) } else s
before_window o s (svc.Define cell value) = record s { cells = defined s.cells cell value }
before_window o s _ = s

-- after the window: a define sets its cell
abbrev pub after_window : State → MonitorCall → State
after_window s (svc.Define cell value) = record s { cells = defined s.cells cell value }
after_window s _ = s

-- the state behind one instruction, with the monitor call that it made, or why the monitor stops the run there
abbrev pub measured : Opening → State → Option MonitorCall → Result State StopKind
measured o s None = Ok s
measured o s (Some call) = elim s.stage [ unmeasured ↦ Ok (before_window o s call) | measuring ↦ inside_window o s call | sealed ↦ Ok (after_window s call) ]
