-- What a begin, an end and the device's engine leave, in the words of the measurement step (docs/FORMATS.md, "Monitor calls").
use Rattle.std.specs.Prelude.{◌≡◌, Result, Ok, Err}
use Rattle.oat_measure.specs.{Measurement.State, Measurement.unmeasured, Measurement.measuring, Measurement.sealed, declared.stop.StopKind.StopKind, declared.stop.StopKind.TheVariants.WrongEnd}
use Rattle.oat_measure.specs.{Monitored.Monitored, Monitored.state_at, declared.states.Begun.Begun, declared.states.Ended.Ended, declared.engine.Engine.Engine}
use Rattle.oat_measure.specs.declared.states.Begun.TheVariants as begun
use Rattle.oat_measure.specs.declared.states.Ended.TheVariants as ended
use Rattle.oat_measure.specs.declared.engine.Engine.TheVariants as engine

-- ---- a begin

abbrev pub begun_shown : Begun → Monitored
begun_shown (begun.Opened opened) = opened
begun_shown (begun.Other other) = other

abbrev pub begun_state : Begun → State
begun_state (begun.Opened opened) = state_at measuring opened
begun_state (begun.Other other) = state_at unmeasured other

-- a begin that opens nothing hands back what was
abbrev pub BegunUnchanged : Monitored → Begun → Type 0
BegunUnchanged old (begun.Opened opened) = Unit {0}
BegunUnchanged old (begun.Other other) = other ≡ old

-- ---- an end

abbrev pub ended_shown : Ended → Monitored
ended_shown (ended.Shut shut) = shut
ended_shown (ended.Other other) = other

abbrev pub ended_state : Ended → Result State StopKind
ended_state (ended.Shut shut) = Ok (state_at sealed shut)
ended_state (ended.Other other) = Err WrongEnd

-- an end that seals nothing hands back what was
abbrev pub EndedUnchanged : Monitored → Ended → Type 0
EndedUnchanged old (ended.Shut shut) = Unit {0}
EndedUnchanged old (ended.Other other) = other ≡ old

-- ---- the engine

abbrev pub engine_shown : Engine → Monitored
engine_shown (engine.Before shown) = shown
engine_shown (engine.Inside shown) = shown
engine_shown (engine.After shown) = shown

abbrev pub engine_state : Engine → State
engine_state (engine.Before shown) = state_at unmeasured shown
engine_state (engine.Inside shown) = state_at measuring shown
engine_state (engine.After shown) = state_at sealed shown
