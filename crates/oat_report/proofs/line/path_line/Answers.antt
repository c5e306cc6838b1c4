use Rattle.oat_report.proofs.line.path_line.Goals as goal

pub returns-in-Ret : goal.returns-in-Ret
returns-in-Ret c = rw c.in-Ret.is c.return_line.ensures
