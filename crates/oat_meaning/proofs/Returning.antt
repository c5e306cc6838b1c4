-- A return to the last caller.
use Rattle.std.proofs.Common.{◌≡◌, ◌+◌, ℕ, List, [], ◌∷◌, ◌++◌, map, Option, Some, None, sym, ap, subst, ◌∙◌, arith}
use Rattle.std.specs.List.{AllByRecursion}
use Rattle.oat_check.specs.{Program, SourceEdge, leaves, takes, Naming.site_of_line, Naming.written_edge, Steps.Frame, Steps.LineEdge, Steps.Next, Steps.assigned, Steps.current_line, Steps.gives}
use Rattle.oat_check.specs.{Steps.line_place, Steps.operation_of, Steps.result_at, Steps.returns, Steps.shows}
use Rattle.oat_meaning.specs.{declared.activation.Activation.Activation, declared.interpreter.Interpreter.Interpreter, Activations.CountsCalls, Activations.frame_of, Activations.locals_of}
use Rattle.oat_meaning.specs.{Activations.site_of, Recording.Recorded, Recording.edge_added, Recording.events_added, Recording.return_added, Recording.when_left, Standing.GoesPast}
use Rattle.oat_meaning.specs.{Standing.HasStepped, Standing.IsWellKept, Standing.source_state_of}

return_shown : (p : Program) (r : Recorded) (edge : SourceEdge) (o : Option ℕ) (e : LineEdge) → edge ≡ written_edge p e
    → return_added r edge o ≡ events_added p r (shows o leaves ++ takes e ∷ [])
return_shown p r edge None e is = ap (edge_added r) is
return_shown p r edge (Some op) e is = ap (edge_added (when_left r op)) is

-- what the code has of a return
pub record Returned (old new : Interpreter) (value : ℕ) (caller : Activation) (rest : List Activation) : Type 0 where
  pub callers : old.callers ≡ caller ∷ rest
  pub frame : frame_of new.running ≡ record (frame_of caller) { line = caller.line + 1; locals = assigned (locals_of caller) (result_at (current_line old.program.now (frame_of caller))) value }
  pub site : site_of new.running ≡ record (site_of caller) { number = caller.number + 1 }
  pub edge : SourceEdge
  pub left : Option ℕ
  pub edge_is : edge ≡ written_edge old.program.now (returns (line_place (frame_of old.running)) (line_place (frame_of caller)))
  pub left_is : left ≡ operation_of old.program.now old.running.func
  pub recorded : new.kept.recorded ≡ return_added old.kept.recorded edge left
  pub spent : new.kept.left + 1 ≡ old.kept.left

pub returned : (old new : Interpreter) (value : ℕ) (caller : Activation) (rest : List Activation) → IsWellKept old → GoesPast old.program.now caller 1 → Returned old new value caller rest
    → new ≡ record old { running = new.running; callers = rest; kept = new.kept }
    → HasStepped old (gives old.program.now (source_state_of old) value (map frame_of old.callers)) new
returned old new value caller rest ready onward r is =
    subst (λ (next : Next). HasStepped old next new) (sym (ap (λ (waiting : List Activation). gives p (source_state_of old) value (map frame_of waiting)) r.callers))
    (record {
      state = ap source_state_of is ∙ ap (λ (f : Frame). record (source_state_of old) { frame = f; callers = map frame_of rest }) r.frame;
      recorded = r.recorded ∙ return_shown p old.kept.recorded r.edge r.left _ r.edge_is ∙ ap (λ o. events_added p old.kept.recorded (shows o leaves ++ takes edge ∷ [])) r.left_is;
      left = let spent = r.spent in omega (arith, spent);
      program = ap (λ (m : Interpreter). m.program.now) is;
      ready = subst IsWellKept (sym is) (record {
        globals = ready.globals;
        running = r.site ∙ onward.numbered ∙ sym (ap (λ (f : Frame). site_of_line p (line_place f)) r.frame);
        callers = (subst (AllByRecursion (CountsCalls p)) r.callers ready.callers).1;
      });
    })
  where
    p : Program
    p = old.program.now

    edge : LineEdge
    edge = returns (line_place (frame_of old.running)) (line_place (frame_of caller))
