-- The room of `attest`: what its statuses say, its headline, and that it is complete.
use Rattle.std.proofs.Common.{◌≡◌, ◌∙◌, ℕ, suc, Bool, true, false, List, [], ◌∷◌, length, Option, Some, inl, inr, refl, sym, ap, ap₂, subst, arith}
use Rattle.std.specs.Prelude.{if◌then◌else◌, slice_get, unwrap_or}
use Rattle.std.proofs.lemmas.{Bool.ltb-true, Option.slice_get_within}
use Rattle.oat_page.proofs.Working.{IsDone}
use Rattle.oat_words.specs.Commands.{files_of}
use Rattle.oat_shown.proofs.Windowing.{statuses}
use Rattle.oat_room_attest.specs.{Contents, Program, Case, Edge, Cause, Verdict, Accept, Refuse, Attested, Attests, AcceptsAllCalls, AttestationsAreComplete, HonestRunsAreAttested, RunsAreHeadlined}
use Rattle.oat_room_attest.specs.{WindowsAreJudged, Outcome, Answer, as_outcome, status_of, Done, Rejected, Unsealed, File, AreLoaded, Read, are_few, refuses_one, Attest.AreAttestable}
use Rattle.oat_room_attest.specs.{Attest.AttestsProgram, Attest.ShowsWindows, Attest.attested_answer, Put}
use Rattle.oat_room_attest.proofs.{Attesting.AttestsFiles-through, WindowLines.some_verdict}
use Rattle.oat_tool.specs.{AttestLaws.AttestIsComplete, AttestLaws.AttestIsHonest, AttestLaws.AttestIsShown, AttestLaws.CompletesInTime, AttestLaws.IsAttestedRun, AttestLaws.ShowsAllAccepted}
use Rattle.oat_tool.specs.{Completeness.ShowsEnd, CallLaws.ShowsJust, DefinedLaws.IsOfWork, OneRun.IsOfOneRun, Call.IsCall}
use Rattle.oat_tool.proofs.{Setting.work_is_done, Answering.work_is_of_command, Following.whole_is_put, Completing.attest_works, Completing.held_files_are_answered}
use Rattle.oat_words.specs.declared.command.Command.TheVariants as commands

-- ---- what the statuses say

attested_run : WindowsAreJudged → (words : List (List ℕ)) (contents : Contents) (files : List File) (a : Answer) → AreLoaded contents (files_of words commands.Attest) files
    → AttestsProgram files a → IsDone (as_outcome a).status → IsAttestedRun words contents (as_outcome a)
attested_run judges words contents files a held attests is_done =
    let through = AttestsFiles-through ShowsWindows files a is_done attests in
    let calls = through.c.session.calls in
    let verdicts = through.attested.verdicts in
    let told = statuses (are_few calls verdicts) (refuses_one verdicts) (as_outcome a).status (ap (λ (x : Answer). (as_outcome x).status) through.shown) in
    record {
      files = files;
      held = held;
      c = through.c;
      attested = through.attested;
      are = through.are;
      is = ap as_outcome through.shown;
      judged = judges through.c through.attested through.are.held.given.read.limits through.are.attests.tells;
      leaves_unsealed = told.0;
      rejects = told.1.0;
      accepts = told.1.1;
    }

pub attest_is_shown : WindowsAreJudged → AttestIsShown
attest_is_shown judges words contents o asked defined work =
    let answered = work_is_of_command words contents commands.Attest o asked defined work in
    subst (λ (p : Outcome). IsAttestedRun words contents p) (sym answered.does.is)
    (attested_run judges words contents answered.files answered.does.answer answered.held answered.does.given
    (λ two. work_is_done o.status work (ap (λ (p : Outcome). p.status) answered.does.is ∙ two)))

pub attest_is_honest : HonestRunsAreAttested → AttestIsHonest
attest_is_honest honest words contents o run unwritten = honest run.are.p run.c run.attested run.are.held.given.read.limits run.are.attests unwritten

-- ---- the headline

-- Each call of `attest` carries it.
pub calls_show_one_run : WindowsAreJudged → RunsAreHeadlined → (words : List (List ℕ)) (files : Read) (out err : Put) (status : ℕ)
    → IsCall words files out err status → IsOfOneRun words files out err status
calls_show_one_run judges headlines words files out err status ran contents told asked work =
    let all = whole_is_put words contents files out err status told ran work in
    let same = all.shown.same_status in
    let run = attest_is_shown judges words contents all.outcome asked all.is_defined (subst IsOfWork same work) in
    record {
      files = run.files;
      held = run.held;
      c = run.c;
      attested = run.attested;
      are = run.are;
      shown = subst (λ (p : Outcome). ShowsJust p out err status) run.is all.shown;
      headline = λ s path accepts. headlines run.are.p run.c run.attested run.are.attests s path accepts;
    }

-- ---- all windows accepted

isnt_few : (calls : Option ℕ) (verdicts : List Verdict) → length verdicts ≡ unwrap_or calls 1 → are_few calls verdicts ≡ false
isnt_few calls verdicts same = by (are_few calls verdicts) refl where
  by : (few : Bool) → are_few calls verdicts ≡ few → are_few calls verdicts ≡ false
  by true is = let low = ltb-true (length verdicts) (unwrap_or calls 1) is in absurd (omega (arith, low, same))
  by false is = is

no_refusal : (cause : Cause) (path : List Edge) → Refuse cause ≡ Accept path → ⊥
no_refusal cause path same = cc

none_refuses : (verdicts : List Verdict) → ((s : ℕ) (v : Verdict) → slice_get verdicts s ≡ Some v → (path : List Edge) × (v ≡ Accept path))
    → refuses_one verdicts ≡ false
none_refuses [] each = refl
none_refuses (Accept path ∷ verdicts) each = none_refuses verdicts (λ s v at. each (suc s) v at)
none_refuses (Refuse cause ∷ verdicts) each = let found = each 0 (Refuse cause) refl in absurd (no_refusal cause found.0 found.1)

each_accepts : (p : Program) (c : Case) (a : Attested) (h : Attests p c a) → AcceptsAllCalls p c a h → (s : ℕ) (v : Verdict) → slice_get a.verdicts s ≡ Some v
    → (path : List Edge) × (v ≡ Accept path)
each_accepts p c a h accepts s v at =
    let within = slice_get_within a.verdicts s v at in
    let found = accepts.each s (omega (arith, within, accepts.verdicts)) in
    (found.2.path, some_verdict v found.0 (sym at ∙ found.1) ∙ found.2.accepts)

-- An attestation whose windows are all accepted is answered with status 0.
all_accepted_is_done : (p : Program) (c : Case) (a : Attested) (h : Attests p c a) → AcceptsAllCalls p c a h → (as_outcome (attested_answer c a)).status ≡ 0
all_accepted_is_done p c a h accepts =
    let many : are_few c.session.calls a.verdicts ≡ false = isnt_few c.session.calls a.verdicts accepts.verdicts in
    let none : refuses_one a.verdicts ≡ false = none_refuses a.verdicts (each_accepts p c a h accepts) in
    ap₂ (λ (few refused : Bool). status_of (if few then Unsealed else (if refused then Rejected else Done))) many none

all_shown : AttestationsAreComplete → (words : List (List ℕ)) (contents : Contents) (p : Program) (c : Case) (k : ℕ) (held : List File) (out err : Put) (status : ℕ)
    → AreAttestable held p c → CompletesInTime p c k → ShowsEnd words contents commands.Attest held out err status → ShowsAllAccepted p c out err status
all_shown complete words contents p c k held out err status files completes shows =
    let attests = attest_works ShowsWindows held p c shows.does.answer files shows.does.given in
    let accepts = complete p c attests.attested files.checked.checked files.given.read.limits attests.attests completes.unwritten k completes.completes completes.in_time in
    let is : shows.outcome ≡ as_outcome (attested_answer c attests.attested) = shows.does.is ∙ ap as_outcome attests.shown in
    let shown = subst (λ (o : Outcome). ShowsJust o out err status) is shows.shown in
    record {
      attested = attests.attested;
      attests = attests.attests;
      accepts = accepts;
      shown = shown;
      zeroth = shown.same_status ∙ all_accepted_is_done p c attests.attested attests.attests accepts;
    }

pub attest_is_complete : AttestationsAreComplete → AttestIsComplete
attest_is_complete complete words contents files out err status told ran asked held loaded p c k attestable completes no_fault no_out no_err =
    elim (held_files_are_answered words contents files out err status told ran commands.Attest asked held loaded no_fault no_out no_err) [
      | inl six ↦ inl six
      | inr shows ↦ inr (all_shown complete words contents p c k held out err status attestable completes shows)
    ]
