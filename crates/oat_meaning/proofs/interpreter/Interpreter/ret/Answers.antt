use Rattle.std.proofs.Common.{◌∙◌, ◌+◌, ap, refl, subst, ℕ}
use Rattle.std.specs.List.{AllByRecursion}
use Rattle.oat_check.specs.{Ret, Steps.assigned}
use Rattle.oat_meaning.specs.{Activations.CountsCalls, Activations.frame_of, Activations.locals_of, Standing.CanResume}
use Rattle.oat_meaning.proofs.Returning.{returned}
use Rattle.oat_meaning.proofs.interpreter.Interpreter.ret.Goals as goal

pub returns : goal.returns
returns c =
    let old = c.args.self.now in
    let caller = c.in-Some.caller in
    let callers = c.in-Some.ensures in
    let resume = subst (CanResume old.program.now) callers c.requires.resume in
    let numbered = (subst (AllByRecursion (CountsCalls old.program.now)) callers c.requires.ready.callers).0 in
    returned old _ c.args.value caller c.pop.new.self c.requires.ready resume.0
    (record {
      callers = callers;
      frame = c.resume.ensures.frame ∙ ap (λ (x : ℕ). record (frame_of caller) { line = caller.line + 1; locals = assigned (locals_of caller) x c.args.value }) c.result_at.ensures;
      site = c.resume.ensures.site;
      edge = _;
      left = c.operation_of-left.result;
      edge_is = λ i. Ret ((c.site.ensures ∙ c.requires.ready.running) i) ((c.site-2.ensures ∙ numbered) i);
      left_is = c.operation_of-left.ensures;
      recorded = c.ret.ensures.recorded;
      spent = c.ret.ensures.left;
    }) refl
