-- What is said of `verify`: that it has one answer, what its statuses say, and the headline.
use Rattle.std.proofs.Common.{◌≡◌, ◌∙◌, ℕ, List, ◌∷◌, inl, inr, refl, sym, ap, subst, arith, []}
use Rattle.oat_first.proofs.FirstLaws.{First-one}
use Rattle.oat_verify.proofs.OneVerdict.{one_serial, one_verdict, acceptance_at_once}
use Rattle.oat_attest.proofs.Headlines.{headline}
use Rattle.oat_page.proofs.Working.{IsDone, refused_is_not_done}
use Rattle.oat_words.specs.{declared.command.Command.TheVariants.Verify, Commands.IsLine, Commands.files_of}
use Rattle.oat_inputs.proofs.{Refusing.blob_is_decisive, Admitting.Admits-one, Admitting.Admits-through}
use Rattle.oat_room_verify.specs.Verify.{Concludes, Verifies}
use Rattle.oat_room_verify.proofs.Verifying.{Judging}
use Rattle.oat_room_attest.specs.{Contents, Edge, Image, Case, Cause, Verdict, Accept, Refuse, Subject, subject_of, IsVerdict, fails, passes, IsOne, Outcome, Answer, as_outcome, File, AreLoaded, Read}
use Rattle.oat_room_attest.specs.{IsBlobText, RefusesBlob, AreAdmitted, report_of, Put}
use Rattle.oat_tool.specs.{Defined.Defined, DefinedLaws.IsOfWork, VerifyLaws.IsJudged, VerifyLaws.ReportsVerdict, VerifyLaws.AcceptanceIsReported, VerifyLaws.RefusalIsReported}
use Rattle.oat_tool.specs.{VerifyLaws.VerdictIsSealed, VerifyLaws.OneVerification, Call.IsCall, CallLaws.ShowsJust, Headline.HeadlineHolds, Headline.ShowsAcceptance, Headline.IsHeadlined}
use Rattle.oat_tool.proofs.{Setting.work_is_done, Answering.work_is_of_command, Following.whole_is_put}

-- ---- one answer

pub one_report : (s : Subject) (bytes : List ℕ) → IsOne Answer (Concludes s bytes)
one_report s bytes a b one two =
    let serials = one_serial bytes one.serial two.serial one.carried two.carried in
    let verdicts = one_verdict s bytes one.verdict two.verdict one.right two.right in
    one.reported ∙ (ap (λ serial. report_of s.map serial one.verdict) serials ∙ (ap (report_of s.map two.serial) verdicts ∙ sym two.reported))

pub one_verification : OneVerification
one_verification [] a b one two = absurd one
one_verification (image ∷ []) a b one two = absurd one
one_verification (image ∷ case ∷ []) a b one two = absurd one
one_verification (image ∷ case ∷ blob ∷ []) a b one two =
    Admits-one image case (Judging blob) (λ i c admitted.
    First-one (List ℕ) Answer (IsBlobText blob.text) (RefusesBlob blob) (λ bytes. Concludes (subject_of i c.session) bytes) (blob_is_decisive blob)
    (λ bytes spelled. one_report (subject_of i c.session) bytes)) a b one two
one_verification (image ∷ case ∷ blob ∷ other ∷ files) a b one two = absurd one

-- ---- what the statuses say

-- A verdict was reached, whose report the answer is.
record Reached (words : List (List ℕ)) (contents : Contents) (o : Outcome) : Type 0 where
  verdict : Verdict
  reported : ReportsVerdict words contents verdict o

judging_reached : (words : List (List ℕ)) (contents : Contents) (image case blob : File) (a : Answer)
    → AreLoaded contents (files_of words Verify) (image ∷ case ∷ blob ∷ []) → (i : Image) (c : Case) → AreAdmitted image case i c
    → Judging blob i c a → IsDone (as_outcome a).status → Reached words contents (as_outcome a)
judging_reached words contents image case blob a held i c admitted (fails refused) is_done =
    absurd (refused_is_not_done a _ _ refused.told is_done)
judging_reached words contents image case blob a held i c admitted (passes bytes spelled concludes) is_done = record {
  verdict = concludes.verdict;
  reported = record {
    image = i;
    judged = record {
      image = image;
      case = case;
      blob = blob;
      held = held;
      c = c;
      admitted = admitted;
      bytes = bytes;
      blob_read = spelled;
      right = concludes.right;
    };
    serial = concludes.serial;
    carried = concludes.carried;
    is = ap as_outcome concludes.reported;
  };
}

reached : (words : List (List ℕ)) (contents : Contents) (files : List File) (a : Answer) → AreLoaded contents (files_of words Verify) files
    → Verifies files a → IsDone (as_outcome a).status → Reached words contents (as_outcome a)
reached words contents [] a held none is_done = absurd none
reached words contents (image ∷ []) a held none is_done = absurd none
reached words contents (image ∷ case ∷ []) a held none is_done = absurd none
reached words contents (image ∷ case ∷ blob ∷ []) a held verifies is_done =
    let through = Admits-through image case (Judging blob) a is_done verifies in
    judging_reached words contents image case blob a held through.i through.c through.admitted through.after is_done
reached words contents (image ∷ case ∷ blob ∷ other ∷ files) a held none is_done = absurd none

outcome_reached : (words : List (List ℕ)) (contents : Contents) (o : Outcome) → IsLine words Verify → Defined words contents o → IsOfWork o.status
    → Reached words contents o
outcome_reached words contents o asked defined work =
    let answered = work_is_of_command words contents Verify o asked defined work in
    subst (λ (p : Outcome). Reached words contents p) (sym answered.does.is)
    (reached words contents answered.files answered.does.answer answered.held answered.does.given
    (λ two. work_is_done o.status work (ap (λ (p : Outcome). p.status) answered.does.is ∙ two)))

accepts : (words : List (List ℕ)) (contents : Contents) (verdict : Verdict) (o : Outcome) → ReportsVerdict words contents verdict o → o.status ≡ 0
    → (path : List Edge) × ReportsVerdict words contents (Accept path) o
accepts words contents (Accept path) o reported zeroth = (path, reported)
accepts words contents (Refuse cause) o reported zeroth = absurd (omega (arith, zeroth, ap (λ (p : Outcome). p.status) reported.is))

refuses : (words : List (List ℕ)) (contents : Contents) (verdict : Verdict) (o : Outcome) → ReportsVerdict words contents verdict o → o.status ≡ 1
    → (cause : Cause) × ReportsVerdict words contents (Refuse cause) o
refuses words contents (Accept path) o reported first = absurd (omega (arith, first, ap (λ (p : Outcome). p.status) reported.is))
refuses words contents (Refuse cause) o reported first = (cause, reported)

never_unsealed : (words : List (List ℕ)) (contents : Contents) (verdict : Verdict) (o : Outcome) → ReportsVerdict words contents verdict o → o.status ≡ 7 → ⊥
never_unsealed words contents (Accept path) o reported seven = omega (arith, seven, ap (λ (p : Outcome). p.status) reported.is)
never_unsealed words contents (Refuse cause) o reported seven = omega (arith, seven, ap (λ (p : Outcome). p.status) reported.is)

pub acceptance_is_reported : AcceptanceIsReported
acceptance_is_reported words contents o asked defined zeroth =
    let all = outcome_reached words contents o asked defined (inl zeroth) in accepts words contents all.verdict o all.reported zeroth

pub refusal_is_reported : RefusalIsReported
refusal_is_reported words contents o asked defined first =
    let all = outcome_reached words contents o asked defined (inr (inl first)) in refuses words contents all.verdict o all.reported first

pub verdict_is_sealed : VerdictIsSealed
verdict_is_sealed words contents o asked defined seven =
    let all = outcome_reached words contents o asked defined (inr (inr seven)) in never_unsealed words contents all.verdict o all.reported seven

-- ---- the headline

pub judged_holds : (words : List (List ℕ)) (contents : Contents) (image : Image) (verdict : Verdict) (path : List Edge)
    → (judged : IsJudged words contents image verdict) → verdict ≡ Accept path → HeadlineHolds image judged.c.session judged.bytes path
judged_holds words contents image verdict path judged same = λ begin_at begins.
    headline image judged.c.session begin_at
    (record { well_formed = judged.admitted.image_read.well_formed; shaped = judged.admitted.shaped; begins = begins })
    judged.bytes path ((acceptance_at_once (subject_of image judged.c.session) judged.bytes path).0
    (subst (λ (v : Verdict). IsVerdict (subject_of image judged.c.session) judged.bytes v) same judged.right))

acceptance : (words : List (List ℕ)) (contents : Contents) (o : Outcome) (out err : Put) (status : ℕ) → ShowsJust o out err status
    → (path : List Edge) × ReportsVerdict words contents (Accept path) o → ShowsAcceptance words contents out err status
acceptance words contents o out err status just (path, reported) = record {
  path = path;
  shows = record {
    image = reported.image;
    judged = reported.judged;
    serial = reported.serial;
    carried = reported.carried;
    shown = subst (λ (p : Outcome). ShowsJust p out err status) reported.is just;
  };
  headline = judged_holds words contents reported.image (Accept path) path reported.judged refl;
}

-- Each call carries the headline.
pub calls_are_headlined : (words : List (List ℕ)) (files : Read) (out err : Put) (status : ℕ) → IsCall words files out err status
    → IsHeadlined words files out err status
calls_are_headlined words files out err status ran contents told asked zeroth =
    let all = whole_is_put words contents files out err status told ran (inl zeroth) in
    acceptance words contents all.outcome out err status all.shown
    (acceptance_is_reported words contents all.outcome asked all.is_defined (sym all.shown.same_status ∙ zeroth))
