use Rattle.std.proofs.Common.{◌∙◌}
use Rattle.oat_check.specs.{Branch, Steps.branches, Steps.line_place}
use Rattle.oat_meaning.specs.Activations.{frame_of}
use Rattle.oat_meaning.proofs.interpreter.Interpreter.branch.Goals as goal

pub returns : goal.returns
returns c =
    c.go_to.ensures (branches (line_place (frame_of c.args.self.now.running)) c.args.bit c.args.to)
    (λ i. Branch c.args.bit ((c.site.ensures ∙ c.requires.ready.running) i) (c.block_site.ensures i))
