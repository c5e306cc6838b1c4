-- One step of the interpreter, where its line is found.
use Rattle.std.proofs.Common.{◌≡◌, false, cond, Some, sym, ap, subst, ◌∙◌}
use Rattle.std.specs.Option.{is_some}
use Rattle.oat_check.specs.{Program, Keeping.IsFrame, Lines.CodeLine, Lines.line_in, Steps.Next, Steps.at_line, Steps.current_line, Steps.silent, Steps.source_step}
use Rattle.oat_check.proofs.Frames.{line_is}
use Rattle.oat_meaning.specs.{declared.interpreter.Interpreter.Interpreter, Activations.frame_of, Standing.HasStepped, Standing.finish_of, Standing.source_state_of}

pub step_made : (old new : Interpreter) (line : CodeLine) (st : IsFrame old.program.now (frame_of old.running)) → is_some (finish_of old.end) ≡ false → line_in st.block old.running.line ≡ Some line
    → HasStepped old (at_line old.program.now (source_state_of old) (Some line)) new → HasStepped old (source_step old.program.now (source_state_of old)) new
step_made old new line st going is made =
    let p : Program = old.program.now in
    let s = source_state_of old in
    subst (λ (next : Next). HasStepped old next new)
    (sym (ap (λ b. cond b (silent s) (at_line p s (current_line p s.frame))) going ∙ ap (at_line p s) (line_is p s.frame st ∙ is)))
    made
