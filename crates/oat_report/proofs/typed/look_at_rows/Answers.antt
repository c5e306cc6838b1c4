use Rattle.std.proofs.Common.{get_or, subst}
use Rattle.std.specs.List.{All}
use Rattle.std.proofs.lemmas.{List.take_all, List.Elements.All-more}
use Rattle.oat_verify.specs.{Jump}
use Rattle.oat_report.specs.SameLines.{BeginsShort}
use Rattle.oat_report.proofs.typed.look_at_rows.Goals as goal

pub loop-row-preserved : goal.loop-row-preserved
loop-row-preserved c =
    let here : BeginsShort (get_or c.args.rows.now c.loop-row.row-index (Jump 0 0)) = c.look_at_row.ensures in
    All-more BeginsShort c.args.rows.now c.loop-row.row-index (Jump 0 0) c.loop-row-test.true c.loop-row.invariant here

pub returns-clause-operations : goal.returns-clause-operations
returns-clause-operations c = subst (All BeginsShort) (take_all c.loop-row.row-index c.args.rows.now c.loop-row-test.false) c.loop-row.invariant
