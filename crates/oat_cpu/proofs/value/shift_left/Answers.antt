use Rattle.std.proofs.Common.{sym}
use Rattle.oat_cpu.proofs.Shifts.{shifted_left-out}
use Rattle.oat_cpu.proofs.value.shift_left.Goals as goal

pub returns-else-amount-lt64 : goal.returns-else-amount-lt64
returns-else-amount-lt64 c = sym (shifted_left-out c.args.value c.args.amount c.if-amount-lt64.false)
