use Rattle.std.proofs.Common.{◌≡◌, ◌+◌, ◌≤◌, ◌++◌, length, Ok}
use Rattle.oat_grammar.specs.Spots.{scan, apart}
use Rattle.oat_grammar.specs.FirstFaults.{read_spots, first_reading}
use Rattle.oat_grammar.specs.Mentions.{lines_from, mention_lines}
use Rattle.oat_parse.specs.Readers.{seen_reader, IsWithinLimits}
use Rattle.oat_parse.proofs.reading.parse.Given as goal

abbrev pub invariant-pieces : goal.invariant-pieces
invariant-pieces l = record {
  reads : read_spots (scan apart l.line l.rest) (Ok (seen_reader l.reader)) ≡ first_reading l.text;
  lines : l.reader.lines.items ++ lines_from l.reader.behind_operation (scan apart l.line l.rest) ≡ mention_lines l.text;
  limits : IsWithinLimits l.reader;
  short : l.line + length l.rest ≤ 1048577;
}

abbrev pub decreases-pieces : goal.decreases-pieces
decreases-pieces l = length l.rest
