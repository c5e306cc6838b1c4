use Rattle.std.proofs.Common.{◌<◌, length, arith}
use Rattle.std.specs.List.{position_or_len}
use Rattle.oat_lines.specs.Lines.{is_line_feed}
use Rattle.oat_lines.proofs.Cuts.{lines_of-cut, lines_of-last}
use Rattle.oat_lines.proofs.line.first_line.Goals as goal

pub returns-then-end-text-clause-lines : goal.returns-then-end-text-clause-lines
returns-then-end-text-clause-lines c =
    let within : position_or_len is_line_feed c.args.text.now < length c.args.text.now = omega (arith, c.line_end-end.ensures.place) in
    rw (c.without_return.ensures, c.split_at.ensures.front, c.split_at-then-end-text.ensures.back, c.line_end-end.ensures.place) (lines_of-cut c.args.text.now within)

pub returns-else-end-text-clause-lines : goal.returns-else-end-text-clause-lines
returns-else-end-text-clause-lines c = lines_of-last c.args.text.now c.requires (omega (arith, c.line_end-end.ensures.place))
