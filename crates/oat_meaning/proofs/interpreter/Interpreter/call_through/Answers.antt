use Rattle.std.proofs.Common.{◌-◌, ◌∙◌, cond, sym, subst}
use Rattle.std.proofs.lemmas.Bool.{ne_eqb}
use Rattle.oat_ir.specs.declared.source.SourceEdge.TheVariants.{ICall}
use Rattle.oat_check.specs.{NullCall, Steps.icalls, Steps.line_place, Steps.runs, Steps.traps_by}
use Rattle.oat_meaning.specs.{Activations.frame_of, Standing.HasStepped, Standing.source_state_of}
use Rattle.oat_meaning.proofs.interpreter.Interpreter.call_through.Goals as goal

pub returns : goal.returns
returns c =
    let old = c.args.self.now in
    let func = c.args.reference - 1 in
    let edge = icalls (line_place (frame_of old.running)) func in
    subst (λ b. HasStepped old (cond b (traps_by (source_state_of old) NullCall) (runs old.program.now (source_state_of old) edge func c.args.args.now)) c.call.new.self)
    (sym (ne_eqb c.args.reference 0 c.if-reference-eq0.false))
    (c.call.ensures edge (λ i. ICall ((c.site.ensures ∙ c.requires.ready.running) i) (c.func_site.ensures i)))
