use Rattle.std.proofs.Common.{sym, ◌∙◌, arith}
use Rattle.std.proofs.lemmas.List.Sums.{position_or_len_is}
use Rattle.oat_lines.specs.Lines.{is_blank}
use Rattle.oat_lines.proofs.word.word_end.Goals as goal

pub returns-then-is_blank_byte-clause-place : goal.returns-then-is_blank_byte-clause-place
returns-then-is_blank_byte-clause-place c =
    sym (position_or_len_is is_blank c.args.line.now c.loop-i.i 0 (omega arith) c.loop-i.invariant (λ _. sym c.is_blank_byte.ensures ∙ c.if-is_blank_byte.true))

pub returns-clause-place : goal.returns-clause-place
returns-clause-place c =
    sym (position_or_len_is is_blank c.args.line.now _ 0 (omega arith) (λ k lt. c.loop-i.invariant k (omega arith)) (λ lt. absurd (omega arith)))
