-- What the statuses of `attest` say of the defined outcome: what was attested, that honest runs are accepted, and that none of their windows is wanting
-- (docs/PROMISES.md).
use Rattle.std.specs.Prelude.{◌≡◌, ◌≤◌, ◌⊎◌, ◌↔◌, ℕ, true, false, List, []}
use Rattle.oat_words.specs.Commands.{IsLine, files_of}
use Rattle.oat_room_attest.specs.{Contents, Rose, Program, Case, source_events, calls_done, instructions_for, Attested, Attests, AcceptsAllCalls, IsHonest, JudgesWindows, calls_measured, Outcome}
use Rattle.oat_room_attest.specs.{as_outcome, File, AreLoaded, are_few, refuses_one, Attest.AreAttestable, Attest.AreAttested, Attest.attested_answer, Put, HasFailed}
use Rattle.oat_tool.specs.{Defined.Defined, DefinedLaws.IsOfWork, CallLaws.OfCalls, CallLaws.ShowsJust}
use Rattle.oat_words.specs.declared.command.Command.TheVariants as commands

-- The files that the words name hold a checked program whose code fits and a case for one of its operations, and the outcome is what is attested of both: with
-- status 7 exactly where fewer windows sealed than the case calls for, else with status 1 exactly where a verdict refuses, and else with status 0.
pub record IsAttestedRun (words : List (List ℕ)) (contents : Contents) (o : Outcome) : Type 0 where
  pub files : List File
  pub held : AreLoaded contents (files_of words commands.Attest) files
  pub c : Case
  pub attested : Attested
  pub are : AreAttested files c attested
  pub is : o ≡ as_outcome (attested_answer c attested)
  -- there is a verdict for each window that sealed, and these are all that the case calls for or fewer
  pub judged : JudgesWindows c attested are.attests.tells
  pub leaves_unsealed : o.status ≡ 7 ↔ (are_few c.session.calls attested.verdicts ≡ true)
  pub rejects : o.status ≡ 1 ↔ ((are_few c.session.calls attested.verdicts ≡ false) × (refuses_one attested.verdicts ≡ true))
  pub accepts : o.status ≡ 0 ↔ ((are_few c.session.calls attested.verdicts ≡ false) × (refuses_one attested.verdicts ≡ false))

-- A status of work is that of what is attested.
abbrev pub AttestIsShown : Type 0
AttestIsShown = (words : List (List ℕ)) (contents : Contents) (o : Outcome) → IsLine words commands.Attest → Defined words contents o
    → IsOfWork o.status → IsAttestedRun words contents o

-- Where nothing is written, the run ends as the source does, and each verdict is the acceptance of the path of its call of the source.
abbrev pub AttestIsHonest : Type 0
AttestIsHonest = (words : List (List ℕ)) (contents : Contents) (o : Outcome) (run : IsAttestedRun words contents o) → run.c.writes ≡ []
    → IsHonest run.are.p run.c run.attested run.are.attests

-- ---- completeness

-- Nothing is written, the source completes all calls that are measured within k steps, and the case has the instructions for these.
pub record CompletesInTime (p : Program) (c : Case) (k : ℕ) : Type 0 where
  pub unwritten : c.writes ≡ []
  pub completes : calls_measured c.session ≤ calls_done c.session.op (source_events p c.inputs k)
  pub in_time : instructions_for k ≤ c.steps

-- An attestation was shown whose windows are all accepted, each with the path of its call of the source.
pub record ShowsAllAccepted (p : Program) (c : Case) (out err : Put) (status : ℕ) : Type 0 where
  pub attested : Attested
  pub attests : Attests p c attested
  pub accepts : AcceptsAllCalls p c attested attests
  pub shown : ShowsJust (as_outcome (attested_answer c attested)) out err status
  pub zeroth : status ≡ 0

-- Where no count rose, such a program and case end so, or memory was wanting.
abbrev pub AttestIsComplete : Type 0
AttestIsComplete = OfCalls (λ words contents files out err status.
    IsLine words commands.Attest → (held : List File) → AreLoaded contents (files_of words commands.Attest) held
    → (p : Program) (c : Case) (k : ℕ) → AreAttestable held p c → CompletesInTime p c k
    → ¬ Rose files.before files.after → ¬ HasFailed out → ¬ HasFailed err → (status ≡ 6) ⊎ ShowsAllAccepted p c out err status)
