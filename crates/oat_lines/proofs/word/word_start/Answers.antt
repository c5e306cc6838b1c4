use Rattle.std.proofs.Common.{sym, ap, ◌∙◌, arith}
use Rattle.std.specs.Prelude.{not}
use Rattle.std.proofs.lemmas.List.Sums.{position_or_len_is}
use Rattle.oat_lines.specs.Lines.{is_solid}
use Rattle.oat_lines.proofs.word.word_start.Goals as goal

pub returns-then-not-is_blank_byte-clause-place : goal.returns-then-not-is_blank_byte-clause-place
returns-then-not-is_blank_byte-clause-place c =
    sym (position_or_len_is is_solid c.args.line.now c.loop-i.i 0 (omega arith) c.loop-i.invariant (λ _. ap not (sym c.is_blank_byte.ensures ∙ c.if-not-is_blank_byte.true)))

pub returns-clause-place : goal.returns-clause-place
returns-clause-place c =
    sym (position_or_len_is is_solid c.args.line.now _ 0 (omega arith) (λ k lt. c.loop-i.invariant k (omega arith)) (λ lt. absurd (omega arith)))
