use Rattle.std.proofs.Common.{drop}
use Rattle.oat_journal.specs.{byte_at}
use Rattle.oat_device.proofs.WritesDue.{IsDue}
use Rattle.oat_device.proofs.writes.make_due.Given as goal

abbrev pub invariant-loop-count : goal.invariant-loop-count
invariant-loop-count l = IsDue l.made (drop l.count l.writes) l.writes (byte_at l.memory) (byte_at l.fn.memory)
