-- What a command over a program and a case looks at before its own work: the program's text and the checking rules, the
-- case's text and operation (docs/FORMATS.md).
use Rattle.std.specs.{Prelude.◌≡◌, Prelude.ℕ, Prelude.List, Prelude.◌++◌, Prelude.codes, Prelude.slice_get, Prelude.Option, Prelude.Some, Prelude.None, Prelude.Err, Prelude.IsTrue, Prelude.◌<◌}
use Rattle.std.specs.{Prelude.◌≤◌, Option.option_map, Option.option_and_then, Fmt.decimal}
use Rattle.oat_check.specs.{declared.fault.CheckKind.CheckKind, declared.fault.CheckKind.TheVariants.NoMain, declared.fault.CheckKind.TheVariants.GlobalWords}
use Rattle.oat_check.specs.{declared.fault.CheckKind.TheVariants.Locals, declared.fault.CheckKind.TheVariants.NoEnd, declared.fault.CheckKind.TheVariants.CallsMain}
use Rattle.oat_check.specs.{declared.fault.CheckKind.TheVariants.OperationCall, declared.fault.CheckKind.TheVariants.RefKind, declared.fault.CheckKind.TheVariants.Arity}
use Rattle.oat_check.specs.{declared.fault.CheckKind.TheVariants.Kind, declared.fault.CheckKind.TheVariants.MainRet, declared.fault.CheckFault.TheVariants.At, Rules.first_fault}
use Rattle.oat_text.specs.{declared.fault.TextFaultKind.TextFaultKind, FaultText.kind_text, Grammar.IsProgramText, Bodies.program_of}
use Rattle.oat_build.specs.{Program, IsChecked, has_operation, Case, code_limit, most_words, Built.program_words}
use Rattle.oat_inputs.specs.{Fault, fault_text, IsCaseText, Answer, refused, no_operation, File, Refusals.RefusesCase}

-- ---- a broken rule, in words

abbrev pub rule_word : CheckKind → List ℕ
rule_word NoMain = codes "NoMain"
rule_word GlobalWords = codes "GlobalWords"
rule_word Locals = codes "Locals"
rule_word NoEnd = codes "NoEnd"
rule_word CallsMain = codes "CallsMain"
rule_word OperationCall = codes "OperationCall"
rule_word RefKind = codes "RefKind"
rule_word Arity = codes "Arity"
rule_word Kind = codes "Kind"
rule_word MainRet = codes "MainRet"

abbrev pub name_or_dash : Option (List ℕ) → List ℕ
name_or_dash None = codes "-"
name_or_dash (Some name) = name

abbrev pub func_named : Program → ℕ → List ℕ
func_named p func = name_or_dash (option_map (λ f. f.name) (slice_get p.funcs func))

abbrev pub block_named : Program → ℕ → ℕ → List ℕ
block_named p func block =
    name_or_dash (option_and_then (λ f. option_map (λ b. b.label) (slice_get f.blocks block)) (slice_get p.funcs func))

-- the function and the block that a rule speaks of
abbrev pub rule_place : Program → CheckKind → ℕ → ℕ → List ℕ
rule_place p NoMain func block = codes "- -"
rule_place p GlobalWords func block = codes "- -"
rule_place p Locals func block = func_named p func ++ codes " -"
rule_place p NoEnd func block = func_named p func ++ codes " -"
rule_place p _ func block = func_named p func ++ codes " " ++ block_named p func block

abbrev pub rule_text : Program → CheckKind → (func block place : ℕ) → List ℕ
rule_text p kind func block place = rule_place p kind func block ++ codes " " ++ decimal place ++ codes " " ++ rule_word kind

-- ---- the program's file

-- The text is that of a program that keeps the checking rules.
pub record IsCheckedText (text : List ℕ) (p : Program) : Type 0 where
  pub read : IsProgramText text p
  pub checked : IsChecked p

-- A program text is refused for its first fault.
pub record MisreadsProgram (file : File) (a : Answer) : Type 0 where
  pub fault : Fault TextFaultKind
  pub first : program_of file.text ≡ Err fault
  pub told : a ≡ refused file.name (fault_text kind_text fault)

-- A program is refused for the first checking rule that it breaks, with its place.
pub record BreaksCheck (file : File) (p : Program) (a : Answer) : Type 0 where
  pub kind : CheckKind
  pub func : ℕ
  pub block : ℕ
  pub place : ℕ
  pub first : first_fault p ≡ Some (At kind func block place)
  pub told : a ≡ refused file.name (rule_text p kind func block place)

pub data RefusesProgram (file : File) (a : Answer) : Type 0 where
  misread : MisreadsProgram file a → RefusesProgram file a
  broken : (p : Program) → IsProgramText file.text p → BreaksCheck file p a → RefusesProgram file a

-- ---- the case's file

-- The text is that of a case for one of the program's operations.
pub record IsCaseOf (p : Program) (text : List ℕ) (c : Case) : Type 0 where
  pub read : IsCaseText text c
  pub begun : IsTrue (has_operation p c.session.op)

-- A case is refused for its text's first fault, or for an operation that isn't the program's.
pub data RefusesCaseOf (p : Program) (file : File) (a : Answer) : Type 0 where
  misread_case : RefusesCase file a → RefusesCaseOf p file a
  lacking : (c : Case) → IsCaseText file.text c → ¬ IsTrue (has_operation p c.session.op) → a ≡ no_operation file.name c.session.op
      → RefusesCaseOf p file a

-- The code of the program is no longer than code may be.
abbrev pub CodeFits : Program → Type 0
CodeFits p = program_words p ≤ code_limit

-- A program is refused for code that is longer.
pub record RefusesCode (file : File) (p : Program) (a : Answer) : Type 0 where
  pub large : code_limit < program_words p
  pub few : program_words p ≤ most_words p
  pub told : a ≡ refused file.name (codes "CodeTooLarge " ++ decimal (program_words p))
