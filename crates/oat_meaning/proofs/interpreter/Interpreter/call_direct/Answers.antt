use Rattle.std.proofs.Common.{◌∙◌}
use Rattle.oat_ir.specs.declared.source.SourceEdge.TheVariants.{Call}
use Rattle.oat_check.specs.Steps.{calls, line_place}
use Rattle.oat_meaning.specs.Activations.{frame_of}
use Rattle.oat_meaning.proofs.interpreter.Interpreter.call_direct.Goals as goal

pub returns : goal.returns
returns c =
    c.call.ensures (calls (line_place (frame_of c.args.self.now.running)) c.args.func)
    (λ i. Call ((c.site.ensures ∙ c.requires.ready.running) i) (c.func_site.ensures i))
