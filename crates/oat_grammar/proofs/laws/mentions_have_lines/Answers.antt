use Rattle.oat_grammar.specs.Spots.{spots}
use Rattle.oat_grammar.proofs.Mentioned.{lines_counted}
use Rattle.std.specs.Prelude.{false}
use Rattle.oat_grammar.proofs.laws.mentions_have_lines.Goals as goal

pub returns : goal.returns
returns c = λ text ts h. lines_counted false (spots text) ts h
