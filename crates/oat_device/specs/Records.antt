-- How many records of each kind a monitor call takes room for (docs/FORMATS.md, "Monitor calls").
use Rattle.std.specs.Prelude.{ℕ}
use Rattle.oat_journal.specs.{MonitorCall}
use Rattle.oat_measure.specs.declared.call.MonitorCall.TheVariants as svc

abbrev pub bits_taken : MonitorCall → ℕ
bits_taken (svc.Bit value) = 1
bits_taken _ = 0

abbrev pub targets_taken : MonitorCall → ℕ
targets_taken (svc.Target address) = 1
targets_taken _ = 0
