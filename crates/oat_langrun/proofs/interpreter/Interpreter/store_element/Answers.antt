use Rattle.std.proofs.Common.{◌<◌, ◌≤◌, ℕ, Bool, cond, sym, subst, ◌∙◌, arith}
use Rattle.std.proofs.lemmas.Bool.{lt-ltb, le-ltb}
use Rattle.oat_map.specs.declared.trap.TrapKind.TheVariants.{Index}
use Rattle.oat_langrun.specs.Meaning.{length_of, traps_with, writes_global}
use Rattle.oat_langrun.specs.Running.{HasStepped, code_of, state_of}
use Rattle.oat_langrun.specs.Standing.{operands_of}
use Rattle.oat_langrun.proofs.Words.{length_is}
use Rattle.oat_langrun.proofs.interpreter.Interpreter.store_element.Goals as goal

pub returns-then-i-len : goal.returns-then-i-len
returns-then-i-len c =
    let old = c.args.self.now in
    let i = operands_of old.running 0 in
    let len = c.len.ensures ∙ length_is (code_of old).globals old.memory c.args.global c.requires in
    let at = c.operand-i.ensures in
    let low : i < length_of (code_of old) c.args.global = omega (arith, len, at, c.if-i-len.true) in
    subst (λ (t : Bool). HasStepped old (cond t (writes_global (code_of old) (state_of old) c.args.global i c.args.value c.args.place) (traps_with (state_of old) Index)) c.store.new.self)
    (sym (lt-ltb i (length_of (code_of old) c.args.global) low))
    (subst (λ (n : ℕ). HasStepped old (writes_global (code_of old) (state_of old) c.args.global n c.args.value c.args.place) c.store.new.self) at c.store.ensures)

pub returns-else-i-len : goal.returns-else-i-len
returns-else-i-len c =
    let old = c.args.self.now in
    let i = operands_of old.running 0 in
    let len = c.len.ensures ∙ length_is (code_of old).globals old.memory c.args.global c.requires in
    let at = c.operand-i.ensures in
    let high : length_of (code_of old) c.args.global ≤ i = omega (arith, len, at, c.if-i-len.false) in
    subst (λ (t : Bool). HasStepped old (cond t (writes_global (code_of old) (state_of old) c.args.global i c.args.value c.args.place) (traps_with (state_of old) Index)) c.trap.new.self)
    (sym (le-ltb i (length_of (code_of old) c.args.global) high)) c.trap.ensures
