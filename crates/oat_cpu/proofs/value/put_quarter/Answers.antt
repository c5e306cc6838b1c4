use Rattle.std.proofs.Common.{sym, arith}
use Rattle.oat_cpu.proofs.Shifts.{with_bits-out}
use Rattle.oat_cpu.proofs.value.put_quarter.Goals as goal

pub returns-in_default : goal.returns-in_default
returns-in_default c = sym (with_bits-out c.args.value _ c.args.bits (omega arith) (omega arith))
