-- What commands over an attestation have in common: where their work stops and goes on, and what was done.
use Rattle.std.proofs.Common.{◌≡◌, ◌<◌, ◌∙◌, ℕ, List, [], ◌∷◌, length, refl, ap, ap₂, subst, sym}
use Rattle.std.proofs.lemmas.Slice.Zip.{AllZip-long}
use Rattle.oat_attestation.specs.{declared.attested.Attested.Attested, Attestation.Attests, Attestation.TellsRun, Attestation.opening_at, Attestation.run_at}
use Rattle.oat_page.proofs.Working.{StopsWith-more, IsDone, refused_is_not_done}
use Rattle.oat_programs.specs.{Program, Programs.IsCheckedText, Programs.RefusesProgram, Programs.IsCaseOf, Programs.RefusesCaseOf, Programs.CodeFits, Programs.RefusesCode}
use Rattle.oat_programs.proofs.Programming.{refused_program_is_not_done, refused_case_is_not_done}
use Rattle.oat_shown.specs.{Case, Body, IsBlobOf, IsWellFormedCase, sealed_bodies, IsVerdict, subject_of, fails, passes, Stop, Ended, Outcome, Answer, IsAnswered, as_outcome, shows, File}
use Rattle.oat_shown.specs.{Windows.ended_with, Windows.want_text, StopsWith}
use Rattle.oat_shown.proofs.Windowing.{few_windows}
use Rattle.oat_room_attest.specs.Attest.{AreAttested, AttestsFiles, AttestsProgram, RefusesFiles, ShowsWindows, attested_answer, attested_text}

-- ---- where the files are refused

pub refuses_program : (program case : File) (stop : Stop) → StopsWith (RefusesProgram program) stop → StopsWith (RefusesFiles (program ∷ case ∷ [])) stop
refuses_program program case stop stops =
    StopsWith-more (RefusesProgram program) (RefusesFiles (program ∷ case ∷ [])) stop (λ a refused. fails refused) stops

pub refuses_case_of : (program case : File) (p : Program) (stop : Stop) → IsCheckedText program.text p → StopsWith (RefusesCaseOf p case) stop
    → StopsWith (RefusesFiles (program ∷ case ∷ [])) stop
refuses_case_of program case p stop checked stops =
    StopsWith-more (RefusesCaseOf p case) (RefusesFiles (program ∷ case ∷ [])) stop (λ a refused. passes p checked (fails refused)) stops

pub refuses_code : (program case : File) (p : Program) (c : Case) (stop : Stop) → IsCheckedText program.text p → IsCaseOf p case.text c
    → StopsWith (RefusesCode program p) stop → StopsWith (RefusesFiles (program ∷ case ∷ [])) stop
refuses_code program case p c stop checked given stops =
    StopsWith-more (RefusesCode program p) (RefusesFiles (program ∷ case ∷ [])) stop (λ a refused. passes p checked (passes c given (fails refused))) stops

pub are_attested : (files : List File) (program case : File) (p : Program) (c : Case) (attested : Attested) → files ≡ program ∷ case ∷ []
    → IsCheckedText program.text p → IsCaseOf p case.text c → CodeFits p → Attests p c attested → AreAttested files c attested
are_attested files program case p c attested are checked given fits attests = record {
  p = p;
  held = record { program = program; case = case; are = are; checked = checked; given = given; fits = fits };
  attests = attests;
}

-- ---- what is refused, and what is shown, whatever is shown

pub refused_files : (Shown : Case → Attested → Answer → Type 0) (files : List File) (a : Answer) → RefusesFiles files a → AttestsFiles Shown files a
refused_files Shown [] a none = absurd none
refused_files Shown (program ∷ []) a none = absurd none
refused_files Shown (program ∷ case ∷ []) a (fails refused) = fails refused
refused_files Shown (program ∷ case ∷ []) a (passes p checked (fails refused)) = passes p checked (fails refused)
refused_files Shown (program ∷ case ∷ []) a (passes p checked (passes c given (fails refused))) = passes p checked (passes c given (fails refused))
refused_files Shown (program ∷ case ∷ []) a (passes p checked (passes c given (passes u fits none))) = absurd none.shown
refused_files Shown (program ∷ case ∷ other ∷ files) a none = absurd none

pub stops_refused : (Shown : Case → Attested → Answer → Type 0) (files : List File) (stop : Stop) → StopsWith (RefusesFiles files) stop
    → StopsWith (AttestsFiles Shown files) stop
stops_refused Shown files stop stops = StopsWith-more (RefusesFiles files) (AttestsFiles Shown files) stop (refused_files Shown files) stops

pub shows_attested : (Shown : Case → Attested → Answer → Type 0) (files : List File) (c : Case) (attested : Attested) (a : Answer)
    → AreAttested files c attested → Shown c attested a → AttestsFiles Shown files a
shows_attested Shown files c attested a are shown =
    subst (λ (fs : List File). AttestsFiles Shown fs a) (sym are.held.are)
    (passes are.p are.held.checked (passes c are.held.given (passes tt are.held.fits (record { attested = attested; attests = are.attests; shown = shown }))))

-- ---- what was done was attested

pub record Attested-through (Shown : Case → Attested → Answer → Type 0) (files : List File) (a : Answer) : Type 0 where
  pub c : Case
  pub attested : Attested
  pub are : AreAttested files c attested
  pub shown : Shown c attested a

pub AttestsFiles-through : (Shown : Case → Attested → Answer → Type 0) (files : List File) (a : Answer) → IsDone (as_outcome a).status
    → AttestsFiles Shown files a → Attested-through Shown files a
AttestsFiles-through Shown [] a is_done none = absurd none
AttestsFiles-through Shown (program ∷ []) a is_done none = absurd none
AttestsFiles-through Shown (program ∷ case ∷ []) a is_done (fails refused) = absurd (refused_program_is_not_done program a is_done refused)
AttestsFiles-through Shown (program ∷ case ∷ []) a is_done (passes p checked (fails refused)) = absurd (refused_case_is_not_done p case a is_done refused)
AttestsFiles-through Shown (program ∷ case ∷ []) a is_done (passes p checked (passes c given (fails refused))) =
    absurd (refused_is_not_done a _ _ refused.told is_done)
AttestsFiles-through Shown (program ∷ case ∷ []) a is_done (passes p checked (passes c given (passes u fits after))) = record {
  c = c;
  attested = after.attested;
  are = are_attested (program ∷ case ∷ []) program case p c after.attested refl checked given fits after.attests;
  shown = after.shown;
}
AttestsFiles-through Shown (program ∷ case ∷ other ∷ files) a is_done none = absurd none

-- ---- the windows of what is attested, and the answer

pub attested_windows : (c : Case) (a : Attested) → IsWellFormedCase c → TellsRun c a → (length a.verdicts ≡ length a.blobs) × (length a.verdicts < 4294967296)
attested_windows c a fit told =
    let each = AllZip-long (IsVerdict (subject_of a.shaped c.session)) a.blobs a.verdicts told.verdicts in
    let sealed = AllZip-long (λ (body : Body) (bytes : List ℕ). IsBlobOf body c.session.key bytes)
    (sealed_bodies (opening_at c a told.begin_at) (run_at c a told.begin_at).measurements) a.blobs told.blobs in
    (each, few_windows a.shaped c told.begin_at (length a.verdicts) fit.calls (each ∙ sealed))

pub answers_windows : (c : Case) (a : Attested) (o : Outcome) (ended : Ended) (said : List ℕ) → ended ≡ ended_with c.session.calls a.verdicts → said ≡ want_text ended
    → o ≡ as_outcome (shows ended (attested_text c.session.calls a) said) → IsAnswered (ShowsWindows c a) o
answers_windows c a o ended said ends says is = record {
  answer = attested_answer c a;
  given = refl;
  is = is ∙ ap₂ (λ (e : Ended) (err : List ℕ). as_outcome (shows e (attested_text c.session.calls a) err)) ends (says ∙ ap want_text ends);
}

pub answers_files : (files : List File) (c : Case) (a : Attested) (o : Outcome) → AreAttested files c a → IsAnswered (ShowsWindows c a) o
    → IsAnswered (AttestsProgram files) o
answers_files files c a o are answered = record {
  answer = answered.answer;
  given = shows_attested ShowsWindows files c a answered.answer are answered.given;
  is = answered.is;
}
