-- What is said of `build`: that it has one answer but for the image, and what its status says.
use Rattle.std.proofs.Common.{◌≡◌, ◌∙◌, ◌⊎◌, ℕ, List, ◌∷◌, inl, inr, ap, sym, subst, arith, []}
use Rattle.oat_first.proofs.FirstLaws.{First-through, Tests-decisive}
use Rattle.oat_page.proofs.Working.{IsDone, refused_is_not_done}
use Rattle.oat_words.specs.Commands.{files_of}
use Rattle.oat_programs.proofs.Programming.{program_is_decisive, refused_program_is_not_done}
use Rattle.oat_room_program.specs.Build.{Builds, Compiles, ShowsImage}
use Rattle.oat_room_attest.specs.{Contents, Program, fails, passes, IsDecisive, Outcome, Answer, as_outcome, refused, File, AreLoaded, IsCheckedText, RefusesProgram, CodeFits, RefusesCode}
use Rattle.oat_tool.specs.BuildLaws.{AreBuilt, IsBuiltImage, BuildIsShown, OneBuildRefusal}
use Rattle.oat_tool.proofs.{Setting.work_is_done, Answering.work_is_of_command}
use Rattle.oat_words.specs.declared.command.Command.TheVariants as commands

-- ---- one answer, but for the image

pub code_is_decisive : (file : File) (p : Program) → IsDecisive (Unit {0}) Answer (λ u. CodeFits p) (RefusesCode file p)
code_is_decisive file p = Tests-decisive Answer (CodeFits p) (RefusesCode file p) (λ a b one two. one.told ∙ sym two.told) (λ a fits refuses. omega (arith, fits, refuses.large))

compiled : (file : File) (p : Program) (a b : Answer) → IsCheckedText file.text p → Compiles file p a → Compiles file p b → (a ≡ b) ⊎ AreBuilt file a b
compiled file p a b checked (fails one) (fails two) = inl ((code_is_decisive file p).one_failure a b one two)
compiled file p a b checked (fails one) (passes u fits two) = absurd ((code_is_decisive file p).apart u a fits one)
compiled file p a b checked (passes u fits one) (fails two) = absurd ((code_is_decisive file p).apart u b fits two)
compiled file p a b checked (passes u fits one) (passes v fits' two) = inr (record { p = p; checked = checked; one = one; other = two })

pub one_build_refusal : OneBuildRefusal
one_build_refusal file a b (fails one) (fails two) = inl ((program_is_decisive file).one_failure a b one two)
one_build_refusal file a b (fails one) (passes p checked shown) = absurd ((program_is_decisive file).apart p a checked one)
one_build_refusal file a b (passes p checked shown) (fails two) = absurd ((program_is_decisive file).apart p b checked two)
one_build_refusal file a b (passes p checked shown) (passes q checked' shown') =
    let same = (program_is_decisive file).one_value q p checked' checked in
    compiled file p a b checked shown (subst (λ (r : Program). Compiles file r b) same shown')

-- ---- what the status says

build_shown : (words : List (List ℕ)) (contents : Contents) (files : List File) (a : Answer) → AreLoaded contents (files_of words commands.Build) files
    → Builds files a → IsDone (as_outcome a).status → IsBuiltImage words contents (as_outcome a)
build_shown words contents [] a held none is_done = absurd none
build_shown words contents (program ∷ []) a held builds is_done =
    let taken = First-through Program Answer (IsCheckedText program.text) (RefusesProgram program) (Compiles program) a
    (refused_program_is_not_done program a is_done) builds in
    let shown = First-through (Unit {0}) Answer (λ u. CodeFits taken.0) (RefusesCode program taken.0) (λ u. ShowsImage taken.0) a
    (λ refused. refused_is_not_done a _ _ refused.told is_done) taken.2 in
    record {
      program = program;
      held = held;
      p = taken.0;
      checked = taken.1;
      fits = shown.1;
      image = shown.2.image;
      of_program = shown.2.of_program;
      is = ap as_outcome shown.2.is;
    }
build_shown words contents (program ∷ other ∷ files) a held none is_done = absurd none

pub build_is_shown : BuildIsShown
build_is_shown words contents o asked defined work =
    let answered = work_is_of_command words contents commands.Build o asked defined work in
    subst (λ (p : Outcome). IsBuiltImage words contents p) (sym answered.does.is)
    (build_shown words contents answered.files answered.does.answer answered.held answered.does.given
    (λ two. work_is_done o.status work (ap (λ (p : Outcome). p.status) answered.does.is ∙ two)))
