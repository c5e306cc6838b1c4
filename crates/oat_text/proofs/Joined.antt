-- Faults of the second pass are those of the text.
use Rattle.std.proofs.Common.{◌≡◌, ℕ, List, Ok, Err, refl}
use Rattle.oat_lines.specs.{declared.fault.Fault.Fault, Faults.Fails}
use Rattle.oat_lines.proofs.Steps.{fails_as}
use Rattle.oat_text.specs.{declared.fault.TextFaultKind.TextFaultKind, Outline.Outline, Outline.outline_of, Bodies.bodies_of, Bodies.program_of}

both_err : (text : List ℕ) (outline : Outline) (e : Fault TextFaultKind) → outline_of text ≡ Ok outline → bodies_of outline text ≡ Err e → program_of text ≡ Err e
both_err text outline e read bad = rw (read, bad) refl

pub bodies_fail : (text : List ℕ) (outline : Outline) (fault : Fault TextFaultKind) → outline_of text ≡ Ok outline → Fails fault (bodies_of outline text)
    → Fails fault (program_of text)
bodies_fail text outline fault read bad = fails_as fault (bodies_of outline text) (program_of text) (λ e is. both_err text outline e read is) bad
