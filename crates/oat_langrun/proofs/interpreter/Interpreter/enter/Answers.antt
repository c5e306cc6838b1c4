use Rattle.std.proofs.Common.{◌≡◌, ◌<◌, Bool, ◌∷◌, cond, get_or, length, map, replicate, refl, sym, ap, subst, ◌∙◌, arith}
use Rattle.std.proofs.lemmas.Bool.{lt-leb}
use Rattle.std.proofs.lemmas.List.{length-map}
use Rattle.oat_events.specs.Events as event
use Rattle.oat_map.specs.declared.trap.TrapKind.TheVariants.{Depth}
use Rattle.oat_langrun.specs.declared.activation.Activation.{Activation}
use Rattle.oat_langrun.specs.Meaning.{arguments, entered_with, if_any, operation_at, traps_with}
use Rattle.oat_langrun.specs.Recording.{entry_added}
use Rattle.oat_langrun.specs.Running.{HasStepped, code_of, state_of}
use Rattle.oat_langrun.specs.Standing.{operands_of, run_of}
use Rattle.oat_langrun.proofs.Giving.{entered_run, entry_recorded}
use Rattle.oat_langrun.proofs.interpreter.Interpreter.enter.Goals as goal

pub returns : goal.returns
returns c =
    let old = c.args.self.now in
    let s = state_of old in
    let args = arguments (operands_of old.running) c.args.below c.args.count in
    let callee = c.replace-caller.new.dest in
    let after = c.replace-caller.ensures.after in
    let run : run_of callee ≡ record { func = c.args.func; place = 0; locals = λ i. get_or args i 0; operands = λ i. 0 } =
    ap run_of after ∙ entered_run (record { func = c.args.func; place = 0; locals = c.pass.result; operands = replicate 256 0 }) c.args.func args refl refl c.pass.ensures refl in
    let callers : map run_of c.push.new.self ≡ s.run ∷ s.callers =
    ap (map run_of) c.push.ensures ∙ ap (λ (a : Activation). run_of a ∷ s.callers) c.replace-caller.ensures.value in
    let few : length s.callers < 256 = omega (arith, length-map old.callers run_of, c.len.ensures, c.if-len-ge-MOST_CALLERS.false) in
    let entered : HasStepped old (record { state = entered_with s c.args.func args; shown = if_any (operation_at (code_of old) c.args.func) event.enters }) (record old { running = callee; callers = c.push.new.self; kept = c.enter.new.self }) =
    record {
      state = λ i. record s { run = run i; callers = callers i };
      recorded = c.enter.ensures.recorded ∙ ap (entry_added old.kept.recorded) c.operation_of-entered.ensures ∙ entry_recorded old (operation_at (code_of old) c.args.func);
      left = omega (arith, c.enter.ensures.left);
      items = refl;
      routines = refl;
      words = refl;
    } in
    subst (λ (t : Bool). HasStepped old (cond t (traps_with s Depth) (record { state = entered_with s c.args.func args; shown = if_any (operation_at (code_of old) c.args.func) event.enters })) (record old { running = callee; callers = c.push.new.self; kept = c.enter.new.self }))
    (sym (lt-leb 256 (length s.callers) few)) entered
