use Rattle.std.proofs.Common.{drop}
use Rattle.oat_lines.specs.Lines.{words_of}
use Rattle.oat_text.specs.Readings.{all_pass}
use Rattle.oat_text.proofs.Testing.{ends}
use Rattle.oat_text.proofs.tested.all_pass.Goals as goal

pub returns-in-None : goal.returns-in-None
returns-in-None g c =
    let test = g.T.WordTest.test in
    ends test (drop c.kinds.kind-index c.args.kinds.now) (words_of c.kinds.rest.now) (all_pass test c.args.kinds.now (words_of c.args.words.now)) c.in-None.ensures.words c.kinds.invariant
