use Rattle.std.proofs.Common.{◌≡◌, drop}
use Rattle.oat_lines.specs.Lines.{words_of}
use Rattle.oat_text.specs.Readings.{all_pass}
use Rattle.oat_text.proofs.tested.all_pass.Given as goal

abbrev pub invariant-kinds : goal.invariant-kinds
invariant-kinds g l = all_pass g.T.WordTest.test (drop l.kind-index l.kinds) (words_of l.rest) ≡ all_pass g.T.WordTest.test l.kinds (words_of l.words)
