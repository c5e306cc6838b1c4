use Rattle.std.proofs.Common.{sym, arith}
use Rattle.std.proofs.lemmas.{List.Sums.position_or_len_is, Bool.eq-eqb}
use Rattle.oat_lines.specs.Lines.{is_line_feed}
use Rattle.oat_lines.proofs.line.line_end.Goals as goal

pub returns-then-byte-eq10-clause-place : goal.returns-then-byte-eq10-clause-place
returns-then-byte-eq10-clause-place c =
    sym (position_or_len_is is_line_feed c.args.text.now c.loop-i.i 0 (omega arith) c.loop-i.invariant (λ _. eq-eqb _ _ c.if-byte-eq10.true))

pub returns-clause-place : goal.returns-clause-place
returns-clause-place c =
    sym (position_or_len_is is_line_feed c.args.text.now _ 0 (omega arith) (λ k lt. c.loop-i.invariant k (omega arith)) (λ lt. absurd (omega arith)))
