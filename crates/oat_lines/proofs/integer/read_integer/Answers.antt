use Rattle.std.proofs.Common.{sym, ◌∙◌}
use Rattle.oat_lines.proofs.Integers.{negative_read, negative_none, positive_read, positive_none}
use Rattle.oat_lines.proofs.integer.read_integer.Goals as goal

pub returns-in-Some : goal.returns-in-Some
returns-in-Some c =
    c.negative.ensures ∙ negative_read c.in-Some.size c.args.word.now (sym c.is_negative.ensures ∙ c.if-is_negative.true) (rw c.split_at.ensures.back at c.in-Some.ensures)

pub returns-in-None : goal.returns-in-None
returns-in-None c =
    negative_none c.args.word.now (sym c.is_negative.ensures ∙ c.if-is_negative.true) (rw c.split_at.ensures.back at c.in-None.ensures)

pub returns-in-Some-read_numeral : goal.returns-in-Some-read_numeral
returns-in-Some-read_numeral c =
    c.positive.ensures ∙ positive_read c.in-Some-read_numeral.size c.args.word.now (sym c.is_negative.ensures ∙ c.if-is_negative.false) c.in-Some-read_numeral.ensures

pub returns-in-None-read_numeral : goal.returns-in-None-read_numeral
returns-in-None-read_numeral c =
    positive_none c.args.word.now (sym c.is_negative.ensures ∙ c.if-is_negative.false) c.in-None-read_numeral.ensures
