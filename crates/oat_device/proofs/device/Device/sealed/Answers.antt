use Rattle.std.proofs.Common.{refl, subst}
use Rattle.std.specs.Prelude.{MatchOption}
use Rattle.oat_device.specs.DeviceRun.{DeviceRun, IsSealed, ReportsItsBody, run_so_far}
use Rattle.oat_device.proofs.Runs.{sealed-is}
use Rattle.oat_device.proofs.device.Device.sealed.Goals as goal

pub returns : goal.returns
returns c =
    subst (λ (device : DeviceRun). MatchOption c.sealed_in.result (IsSealed (run_so_far device) → ⊥) (λ shown. ReportsItsBody device shown.now)) c.self.view_is
    (sealed-is c.self.inside.course _ c.self.invariant refl (λ shown. shown.now) c.sealed_in.result c.sealed_in.ensures)
