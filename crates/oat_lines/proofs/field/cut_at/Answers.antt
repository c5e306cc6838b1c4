use Rattle.std.proofs.Common.{sym}
use Rattle.oat_lines.proofs.Cutting.{cut_none, cut_is}
use Rattle.oat_lines.proofs.field.cut_at.Goals as goal

pub returns-in-Some : goal.returns-in-Some
returns-in-Some c =
    let h = c.in-Some.ensures in
    cut_is c.args.byte c.args.text.now c.in-Some.end h.0 h.1 h.2

pub returns-in-None : goal.returns-in-None
returns-in-None c = sym (cut_none c.args.byte c.args.text.now c.in-None.ensures)
