use Rattle.std.proofs.Common.{ap, ◌∙◌}
use Rattle.oat_journal.specs.Progress.{Progress}
use Rattle.oat_device.specs.DeviceRun.{DeviceRun, run_so_far}
use Rattle.oat_device.proofs.device.Device.outputs.Goals as goal

pub returns : goal.returns
returns c = c.as_slice.ensures.value ∙ (ap (λ (p : Progress). p.running.outputs) c.self.invariant.run ∙ ap (λ (device : DeviceRun). (run_so_far device).running.outputs) c.self.view_is)
