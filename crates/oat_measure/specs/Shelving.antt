-- The measurement of a session: its windows one behind the other, of which those that are done lie on a shelf (docs/FORMATS.md, "Monitor calls").
use Rattle.std.specs.Prelude.{ℕ, ◌+◌, ◌≡◌, ◌≤◌, Bool, false, List, [], ◌∷◌, ◌++◌, Option, None, Some, option_map, MatchOption, nat_lt, Result, Ok, Err, slice_get, if◌then◌else◌}
use Rattle.oat_blob.specs.{declared.body.BodyHead.BodyHead, Body.Body}
use Rattle.oat_events.specs.Cells.{Cells}
use Rattle.oat_measure.specs.{declared.call.MonitorCall.MonitorCall, declared.opening.Opening.Opening, declared.stop.StopKind.StopKind, Measurement.State, Measurement.unmeasured}
use Rattle.oat_measure.specs.{Measurement.measuring, Measurement.sealed, Measurement.booted, Measurement.measured}

-- ---- the body of a window

-- but for its bits and targets
abbrev pub body_head : Opening → State → BodyHead
body_head o s = record { op = o.op; nonce = o.nonce; digest = o.digest; hash = s.hash; violation = s.violation; serial = s.serial }

abbrev pub body_of : Opening → State → Body
body_of o s = record { head = body_head o s; bits = s.bits; targets = s.targets }

-- ---- one window behind the other

pub record Measurements : Type 0 where
  -- the bodies of the windows that are done
  pub shelved : List Body
  -- the state of the present one
  pub state : State

-- The first window of a session: windows are numbered from 0, and there is at least one, or there is one without a number.
abbrev pub IsFirstWindow : Opening → Type 0
IsFirstWindow o = MatchOption o.serial (o.calls ≡ 1) (λ serial. (serial ≡ 0) × (1 ≤ o.calls))

-- a session that starts
abbrev pub at_start : Opening → Cells → Measurements
at_start o cells = record { shelved = []; state = booted o.serial cells }

-- a further window is due behind the one of this number
abbrev pub is_due : Opening → Option ℕ → Bool
is_due o None = false
is_due o (Some serial) = nat_lt (serial + 1) o.calls

-- the same session's next window
abbrev pub next_opening : Opening → Opening
next_opening o = record o { serial = option_map (λ serial. serial + 1) o.serial }

-- the window that follows: the next number, the same cells, and nothing recorded
abbrev pub reopened : State → State
reopened s = booted (option_map (λ serial. serial + 1) s.serial) s.cells

abbrev pub shelving : Opening → Measurements → Measurements
shelving o m = record { shelved = m.shelved ++ body_of o m.state ∷ []; state = reopened m.state }

-- a sealed window is shelved where a further one is due
abbrev pub settled : Opening → Measurements → Measurements
settled o m = elim m.state.stage [ unmeasured ↦ m | measuring ↦ m | sealed ↦ if is_due o m.state.serial then shelving o m else m ]

-- the present window in the state that a call leaves, or why the monitor stops the run there
abbrev pub with_state : Opening → List Body → Result State StopKind → Result Measurements StopKind
with_state o shelved (Ok next) = Ok (settled o (record { shelved = shelved; state = next }))
with_state o shelved (Err stop) = Err stop

-- the measurements behind one instruction, with the monitor call that it made
abbrev pub measured_on : Opening → Measurements → Option MonitorCall → Result Measurements StopKind
measured_on o m None = Ok m
measured_on o m (Some call) = with_state o m.shelved (measured o m.state (Some call))

-- the bodies of all windows that are sealed
abbrev pub sealed_bodies : Opening → Measurements → List Body
sealed_bodies o m = m.shelved ++ elim m.state.stage [ unmeasured ↦ [] | measuring ↦ [] | sealed ↦ body_of o m.state ∷ [] ]

-- the body of window s, counted from 0
abbrev pub IsBodyAt : Opening → Measurements → ℕ → Body → Type 0
IsBodyAt o m s body = slice_get (sealed_bodies o m) s ≡ Some body

-- the number of window s, where windows are numbered
abbrev pub serial_of : Opening → ℕ → Option ℕ
serial_of o s = option_map (λ first. first + s) o.serial

-- ---- the calls of a run

-- what a run of instructions led to: the measurements, and the first stop with the number of instructions up to it
pub record Measured : Type 0 where
  pub measurements : Measurements
  pub taken : ℕ
  pub stop : Option StopKind

abbrev pub with_rest : Measurements → Result Measurements StopKind → (Measurements → Measured) → Measured
with_rest m (Ok next) rest = let others = rest next in record others { taken = others.taken + 1 }
with_rest m (Err stop) rest = record { measurements = m; taken = 1; stop = Some stop }

-- the measurement over the calls of a run, up to the first stop
unfoldable pub measures : Opening → Measurements → List (Option MonitorCall) → Measured
measures o m [] = record { measurements = m; taken = 0; stop = None }
measures o m (call ∷ calls) = with_rest m (measured_on o m call) (λ next. measures o next calls)
