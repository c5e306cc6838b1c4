use Rattle.std.proofs.Common.{length}
use Rattle.oat_check.specs.Lines.{instruction, terminator}
use Rattle.oat_check.proofs.Frames.{instr_is}
use Rattle.oat_meaning.proofs.{Allowed.allows, Allowed.can_resume, Allowed.instr_found, Allowed.no_instr_found, Slots.none_past, Stepping.step_made}
use Rattle.oat_meaning.proofs.interpreter.Interpreter.step.Goals as goal

pub execute-requires-clause-allows : goal.execute-requires-clause-allows
execute-requires-clause-allows c =
    let old = c.args.self.now in
    let look = c.in-Some-get.ensures.lookup in
    allows old.program.now c.requires.checked old.running c.requires.consistent.stands c.requires.ready.running c.in-Some-get.instr.now
    (instr_found old.program.now c.requires.checked old.running c.requires.consistent.stands c.in-Some.block.now c.as_slice.result.now c.in-Some-get.instr.now
    c.in-Some.ensures c.as_slice.ensures look.3.0 look.1)

pub close-requires-clause-resume : goal.close-requires-clause-resume
close-requires-clause-resume c =
    let old = c.args.self.now in
    can_resume old.program.now c.requires.checked old.running.func old.callers c.requires.consistent.callers c.requires.ready.callers

pub returns-in-Some-get : goal.returns-in-Some-get
returns-in-Some-get c =
    let old = c.args.self.now in
    let look = c.in-Some-get.ensures.lookup in
    let st = c.requires.consistent.stands in
    step_made old c.execute.new.self (instruction c.in-Some-get.instr.now) st c.requires.going
    (instr_is st.block old.running.line c.in-Some-get.instr.now
    (instr_found old.program.now c.requires.checked old.running st c.in-Some.block.now c.as_slice.result.now c.in-Some-get.instr.now c.in-Some.ensures c.as_slice.ensures look.3.0 look.1))
    c.execute.ensures

pub returns-in-None : goal.returns-in-None
returns-in-None c =
    let old = c.args.self.now in
    let st = c.requires.consistent.stands in
    step_made old c.close.new.self (terminator c.in-Some.block.now.term) st c.requires.going
    (no_instr_found old.program.now c.requires.checked old.running st c.in-Some.block.now c.as_slice.result.now c.in-Some.ensures c.as_slice.ensures
    (none_past c.get.result old.running.line (length c.as_slice.result.now) c.get.ensures.lookup.2 c.in-None.is))
    c.close.ensures
