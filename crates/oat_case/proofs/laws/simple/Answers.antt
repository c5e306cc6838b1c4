use Rattle.std.proofs.Common.{◌≡◌, Ok, refl}
use Rattle.hex.proofs.OnLiterals.{hex_on_literals}
use Rattle.oat_lines.specs.Lines.{lines_of, words_of}
use Rattle.oat_case.specs.{Reading.key_line, Reading.nonce_line, Reading.operation_line, Reading.steps_line, Reading.statement_line, Reading.header_line, Reading.line_of, Reading.whole}
use Rattle.oat_case.specs.{Reading.case_from, Reading.case_of, Simple.simple_text, Simple.simple_case}
use Rattle.oat_case.proofs.Law.{stands}
use Rattle.oat_case.proofs.laws.simple.Goals as goal

is_simple : case_of simple_text ≡ Ok simple_case
unfolding hex_on_literals lines_of words_of key_line nonce_line operation_line steps_line statement_line header_line line_of whole case_from
is_simple = refl

pub returns : goal.returns
returns c = stands simple_text simple_case is_simple
