use Rattle.std.proofs.Common.{◌∙◌}
use Rattle.oat_check.specs.{Jump, Steps.jumps, Steps.line_place}
use Rattle.oat_meaning.specs.Activations.{frame_of}
use Rattle.oat_meaning.proofs.interpreter.Interpreter.jump.Goals as goal

pub returns : goal.returns
returns c =
    c.go_to.ensures (jumps (line_place (frame_of c.args.self.now.running)) c.args.to)
    (λ i. Jump ((c.site.ensures ∙ c.requires.ready.running) i) (c.block_site.ensures i))
