use Rattle.oat_lines.proofs.Digits.{capped_more}
use Rattle.oat_lines.proofs.number.value.Goals as goal

pub loop-c-preserved : goal.loop-c-preserved
loop-c-preserved c =
    rw (c.saturating_add-number.ensures, c.saturating_mul.ensures, c.digit.ensures)
    (capped_more c.args.radix c.args.word.now c.loop-c.c-index c.loop-c.number c.requires c.loop-c-test.true c.loop-c.invariant)
