use Rattle.std.proofs.Common.{sym}
use Rattle.oat_lines.proofs.Hexadecimals.{hexadecimal_takes}
use Rattle.oat_image.proofs.line.read_address.Goals as goal

pub returns-clause-bound : goal.returns-clause-bound
returns-clause-bound c = (hexadecimal_takes 8 c.in-Some.number c.args.word.now (sym c.in-Some.ensures)).1
