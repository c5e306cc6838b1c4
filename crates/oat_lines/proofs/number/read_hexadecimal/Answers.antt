use Rattle.std.proofs.Common.{sym, ◌∙◌}
use Rattle.oat_lines.proofs.Hexadecimals.{value_is_read}
use Rattle.oat_lines.proofs.number.read_hexadecimal.Goals as goal

pub returns-then-are_hexadecimal_digits : goal.returns-then-are_hexadecimal_digits
returns-then-are_hexadecimal_digits c =
    value_is_read c.args.digits c.value.result c.args.word.now c.requires c.if-word-digits.true (sym c.are_hexadecimal_digits.ensures ∙ c.if-are_hexadecimal_digits.true) c.value.ensures
