-- What the statuses of `run` say of the defined outcome (docs/PROMISES.md).
use Rattle.std.specs.Prelude.{◌≡◌, ℕ, List, [], ◌∷◌}
use Rattle.oat_words.specs.Commands.{IsLine, files_of}
use Rattle.oat_room_program.specs.Interpret.{Interprets, case_run, source_text}
use Rattle.oat_room_attest.specs.{Contents, Program, Case, IsOne, Outcome, Answer, File, AreLoaded, IsCheckedText, IsCaseOf}
use Rattle.oat_tool.specs.{Defined.Defined, DefinedLaws.IsOfWork}
use Rattle.oat_words.specs.declared.command.Command.TheVariants as commands

-- The files that the words name hold a checked program and a case for one of its operations, and the outcome is the text
-- of the run that the program makes on the case's inputs in at most so many steps, with status 0.
pub record IsSourceRun (words : List (List ℕ)) (contents : Contents) (o : Outcome) : Type 0 where
  pub program : File
  pub case : File
  pub held : AreLoaded contents (files_of words commands.Run) (program ∷ case ∷ [])
  pub p : Program
  pub c : Case
  pub checked : IsCheckedText program.text p
  pub given : IsCaseOf p case.text c
  pub is : o ≡ record { status = 0; out = source_text (case_run p c); err = [] }

-- A status of work is 0, and is that of the run.
abbrev pub SourceRunIsShown : Type 0
SourceRunIsShown = (words : List (List ℕ)) (contents : Contents) (o : Outcome) → IsLine words commands.Run → Defined words contents o
    → IsOfWork o.status → IsSourceRun words contents o

-- Files have one answer.
abbrev pub OneInterpretation : Type 0
OneInterpretation = (files : List File) → IsOne Answer (Interprets files)
