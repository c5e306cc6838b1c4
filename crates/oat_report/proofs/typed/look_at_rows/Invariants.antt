use Rattle.std.proofs.Common.{take}
use Rattle.std.specs.List.{All}
use Rattle.oat_report.specs.SameLines.{BeginsShort}
use Rattle.oat_report.proofs.typed.look_at_rows.Given as goal

abbrev pub invariant-loop-row : goal.invariant-loop-row
invariant-loop-row l = All (BeginsShort) (take l.row-index l.rows)
