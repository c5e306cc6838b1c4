-- The checking rules without an order, and that a fault stands where it says.
use Rattle.std.specs.{Prelude.◌≡◌, Prelude.◌↔◌, Prelude.◌<◌, Prelude.◌≤◌, Prelude.◌⊎◌, Prelude.ℕ, Prelude.true, Prelude.false, Prelude.length, Prelude.slice_get, Prelude.All, Prelude.Some}
use Rattle.std.specs.{Prelude.None, List.sum_by, List.list_any}
use Rattle.oat_ir.specs.{declared.program.Program.Program, declared.func.Func.Func, declared.func.BlockIr.BlockIr}
use Rattle.oat_check.specs.{declared.fault.CheckKind.CheckKind, declared.fault.CheckKind.TheVariants.NoMain, declared.fault.CheckKind.TheVariants.GlobalWords}
use Rattle.oat_check.specs.{declared.fault.CheckKind.TheVariants.Locals, declared.fault.CheckKind.TheVariants.NoEnd, declared.fault.CheckFault.TheVariants.At, Globals.size_in_words, Lines.CodeLine}
use Rattle.oat_check.specs.{Lines.instruction, Lines.terminator, Lines.line_in, Rules.broken_by, Rules.is_main, Rules.calls_main, Rules.calls_operation, Rules.refers_amiss, Rules.counts_amiss}
use Rattle.oat_check.specs.{Rules.has_types, Rules.returns_from_main, Rules.never_ends, Rules.first_fault, Rules.IsChecked}

-- a line of function f
pub record IsAllowed (p : Program) (f : Func) (line : CodeLine) : Type 0 where
  pub calls_no_main : calls_main p line ≡ false
  pub calls_no_operation : calls_operation p f line ≡ false
  pub refers : refers_amiss p line ≡ false
  pub counts : counts_amiss p f line ≡ false
  pub typed : has_types p f line ≡ true
  pub stays : returns_from_main f line ≡ false

pub record BlockKeepsRules (p : Program) (f : Func) (b : BlockIr) : Type 0 where
  pub instrs : All (λ i. IsAllowed p f (instruction i)) b.instrs
  pub term : IsAllowed p f (terminator b.term)

pub record FuncKeepsRules (p : Program) (f : Func) : Type 0 where
  pub locals : length f.locals ≤ 255
  pub blocks : All (BlockKeepsRules p f) f.blocks
  pub ends : never_ends f ≡ false

pub record KeepsRules (p : Program) : Type 0 where
  pub main : list_any is_main p.funcs ≡ true
  pub words : sum_by size_in_words p.globals ≤ 65536
  pub funcs : All (FuncKeepsRules p) p.funcs

-- a program has no first fault exactly where it keeps all rules
abbrev pub AcceptedExactly : Type 0
AcceptedExactly = (p : Program) → (first_fault p ≡ None) ↔ KeepsRules p

-- each line of a checked program is allowed
abbrev pub LinesAreAllowed : Type 0
LinesAreAllowed =
    (p : Program) → IsChecked p → (g b n : ℕ) (f : Func) (block : BlockIr) (line : CodeLine)
    → slice_get p.funcs g ≡ Some f → slice_get f.blocks b ≡ Some block → line_in block n ≡ Some line → IsAllowed p f line

-- ---- a rule is broken where the fault says so

pub record BreaksInLine (p : Program) (f : Func) (kind : CheckKind) (block place : ℕ) : Type 0 where
  pub b : BlockIr
  pub line : CodeLine
  pub is : slice_get f.blocks block ≡ Some b
  pub there : line_in b place ≡ Some line
  pub broken : broken_by p f line ≡ Some kind

pub record BreaksInFunc (p : Program) (kind : CheckKind) (func block place : ℕ) : Type 0 where
  pub f : Func
  pub is : slice_get p.funcs func ≡ Some f
  pub how : ((kind ≡ Locals) × (255 < length f.locals)) ⊎ (((kind ≡ NoEnd) × (never_ends f ≡ true)) ⊎ BreaksInLine p f kind block place)

abbrev pub BreaksAt : Program → CheckKind → ℕ → ℕ → ℕ → Type 0
BreaksAt p kind func block place =
    ((kind ≡ NoMain) × (list_any is_main p.funcs ≡ false))
    ⊎ (((kind ≡ GlobalWords) × (65536 < sum_by size_in_words p.globals)) ⊎ BreaksInFunc p kind func block place)

abbrev pub FaultsStand : Type 0
FaultsStand = (p : Program) (kind : CheckKind) (func block place : ℕ) → first_fault p ≡ Some (At kind func block place) → BreaksAt p kind func block place
