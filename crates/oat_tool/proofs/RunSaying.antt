-- What is said of `run`: that it has one answer, and what its status says.
use Rattle.std.proofs.Common.{◌∙◌, ℕ, List, ◌∷◌, ap, sym, subst, []}
use Rattle.oat_first.proofs.FirstLaws.{First-one, First-through}
use Rattle.oat_page.proofs.Working.{IsDone}
use Rattle.oat_words.specs.Commands.{files_of}
use Rattle.oat_programs.proofs.Programming.{program_is_decisive, case_of_is_decisive, refused_program_is_not_done, refused_case_is_not_done}
use Rattle.oat_room_program.specs.Interpret.{Interprets, ShowsSource}
use Rattle.oat_room_attest.specs.{Contents, Program, Case, First, IsOne, Outcome, Answer, as_outcome, File, AreLoaded, IsCheckedText, RefusesProgram, IsCaseOf, RefusesCaseOf}
use Rattle.oat_tool.specs.InterpretLaws.{IsSourceRun, SourceRunIsShown, OneInterpretation}
use Rattle.oat_tool.proofs.{Setting.work_is_done, Answering.work_is_of_command}
use Rattle.oat_words.specs.declared.command.Command.TheVariants as commands

-- what comes after the program
abbrev Taking : File → Program → Answer → Type 0
Taking case p = First Case Answer (IsCaseOf p case.text) (RefusesCaseOf p case) (λ c. ShowsSource p c)

-- ---- one answer

one_shown : (p : Program) (c : Case) → IsOne Answer (ShowsSource p c)
one_shown p c a b one two = one ∙ sym two

one_taking : (case : File) (p : Program) → IsOne Answer (Taking case p)
one_taking case p =
    First-one Case Answer (IsCaseOf p case.text) (RefusesCaseOf p case) (λ c. ShowsSource p c) (case_of_is_decisive p case) (λ c given. one_shown p c)

pub one_interpretation : OneInterpretation
one_interpretation [] a b one two = absurd one
one_interpretation (program ∷ []) a b one two = absurd one
one_interpretation (program ∷ case ∷ []) a b one two =
    First-one Program Answer (IsCheckedText program.text) (RefusesProgram program) (Taking case) (program_is_decisive program)
    (λ p checked. one_taking case p) a b one two
one_interpretation (program ∷ case ∷ other ∷ files) a b one two = absurd one

-- ---- what the status says

run_shown : (words : List (List ℕ)) (contents : Contents) (files : List File) (a : Answer) → AreLoaded contents (files_of words commands.Run) files
    → Interprets files a → IsDone (as_outcome a).status → IsSourceRun words contents (as_outcome a)
run_shown words contents [] a held none is_done = absurd none
run_shown words contents (program ∷ []) a held none is_done = absurd none
run_shown words contents (program ∷ case ∷ []) a held interprets is_done =
    let taken = First-through Program Answer (IsCheckedText program.text) (RefusesProgram program) (Taking case) a
    (refused_program_is_not_done program a is_done) interprets in
    let shown = First-through Case Answer (IsCaseOf taken.0 case.text) (RefusesCaseOf taken.0 case) (λ c. ShowsSource taken.0 c) a
    (refused_case_is_not_done taken.0 case a is_done) taken.2 in
    record {
      program = program;
      case = case;
      held = held;
      p = taken.0;
      c = shown.0;
      checked = taken.1;
      given = shown.1;
      is = ap as_outcome shown.2;
    }
run_shown words contents (program ∷ case ∷ other ∷ files) a held none is_done = absurd none

pub source_run_is_shown : SourceRunIsShown
source_run_is_shown words contents o asked defined work =
    let answered = work_is_of_command words contents commands.Run o asked defined work in
    subst (λ (p : Outcome). IsSourceRun words contents p) (sym answered.does.is)
    (run_shown words contents answered.files answered.does.answer answered.held answered.does.given
    (λ two. work_is_done o.status work (ap (λ (p : Outcome). p.status) answered.does.is ∙ two)))
