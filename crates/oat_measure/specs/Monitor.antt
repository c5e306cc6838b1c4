-- Monitor calls from 1 to 7: which values the monitor takes from the registers, and which calls open and seal a window (docs/FORMATS.md, "Monitor calls").
use Rattle.std.specs.Prelude.{ℕ, Bool, false, ◌&&◌, nat_eq, if◌then◌else◌, Option, Some, None}
use Rattle.oat_a64.specs.{declared.inst.Inst.Inst, declared.inst.Inst.TheVariants.Svc, Step.Regs}
use Rattle.oat_measure.specs.declared.call.MonitorCall.{MonitorCall}
use Rattle.oat_measure.specs.declared.call.MonitorCall.TheVariants as svc

-- SVC 1 to 7, as the registers stand before it
abbrev pub call_numbered : ℕ → Regs → Option MonitorCall
call_numbered number r =
    if nat_eq number 1 then Some (svc.Begin (r.x 9) r.pc)
    else (if nat_eq number 2 then Some (svc.End (r.x 9))
    else (if nat_eq number 3 then Some (svc.Bit (r.x 9))
    else (if nat_eq number 4 then Some (svc.Target (r.x 9))
    else (if nat_eq number 5 then Some (svc.Return (r.x 30))
    else (if nat_eq number 6 then Some (svc.Define (r.x 9) (r.x 10))
    else (if nat_eq number 7 then Some (svc.Use (r.x 9) (r.x 10))
    else None))))))

-- the monitor call that an instruction makes
abbrev pub monitor_call : Inst → Regs → Option MonitorCall
monitor_call (Svc number) r = call_numbered number r
monitor_call _ r = None

-- A begin opens the window of an operation only by the call in that operation's Begin group.
abbrev pub opens : ℕ → ℕ → MonitorCall → Bool
opens op begin_at (svc.Begin begun at) = nat_eq begun op && nat_eq at begin_at
opens op begin_at _ = false

-- the end that seals the window of an operation
abbrev pub seals : ℕ → MonitorCall → Bool
seals op (svc.End ended) = nat_eq ended op
seals op _ = false
