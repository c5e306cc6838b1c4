-- What an owner replies, by the devices that it knows and the challenges that it issued (docs/DEFINITIONS.md, "Owner's replies").
-- What is looked at is looked at in this order, and the first that fails is answered.
use Rattle.std.specs.Prelude.{◌≡◌, ◌<◌, ℕ, true, false, List, [], ◌∷◌, ◌++◌, length, slice_get, Some, None, Result, Ok, Err}
use Rattle.oat_verify.specs.{First, Tests, IsOperation, Session, declared.verdict.Verdict.Verdict, Verdict.subject_of, Verdict.IsVerdict}
use Rattle.oat_owner.specs.{declared.device.Known.Known, declared.challenge.Challenge.Challenge, declared.owner.Issued.Issued, declared.owner.IssueFault.IssueFault, declared.owner.Answer.Answer}
use Rattle.oat_owner.specs.{declared.owner.Answer.TheVariants.Accepted, declared.owner.Answer.TheVariants.Refused, Frames.Delivery, Frames.challenge_frame, Frames.IsAnswerFrame, Frames.IsFrameOffset}
use Rattle.oat_owner.specs.{Ledger.Ledger, Ledger.challenge_limit, Ledger.device_of, Ledger.number_with, Ledger.number_to, Ledger.spent_at}
use Rattle.oat_verify.specs.declared.verdict.Verdict.TheVariants as verdicts
use Rattle.oat_owner.specs.declared.owner.IssueFault.TheVariants as faults
use Rattle.oat_owner.specs.declared.owner.AnswerCause.TheVariants as causes

-- ---- a challenge is asked for

abbrev pub IssueReply : Type 0
IssueReply = Result Issued IssueFault

-- the challenge with the next number
abbrev pub issued : Ledger → (device op : ℕ) → (nonce : List ℕ) → Issued
issued l device op nonce = record { number = length l.challenges; frame = challenge_frame device op nonce }

-- a fact that is looked at, and the fault where it doesn't hold
abbrev pub OrRefused : (holds : Type 0) → IssueFault → (IssueReply → Type 0) → IssueReply → Type 0
OrRefused holds fault = Tests IssueReply holds (λ r. ¬ holds × (r ≡ Err fault))

-- no challenge has the nonce, or the one with this number has it
abbrev pub OrUsed : List Challenge → List ℕ → (IssueReply → Type 0) → IssueReply → Type 0
OrUsed challenges nonce = Tests IssueReply (number_with challenges nonce ≡ None)
    (λ r. (n : ℕ) × (number_with challenges nonce ≡ Some n) × (r ≡ Err (faults.UsedNonce n)))

abbrev pub IsIssueReply : Ledger → (device op : ℕ) → (nonce : List ℕ) → IssueReply → Type 0
IsIssueReply l device op nonce =
    First Known IssueReply (λ k. device_of l.known device ≡ Some k) (λ r. (device_of l.known device ≡ None) × (r ≡ Err faults.UnknownDevice)) (λ k.
    OrRefused (IsOperation k.shaped.map op) faults.NoOperation (
    OrUsed l.challenges nonce (
    OrRefused (length l.challenges < challenge_limit) faults.Full (
    λ r. r ≡ Ok (issued l device op nonce)))))

-- what a call answers is the reply, unless memory ran out
abbrev pub IssuesOrStarves : Ledger → (device op : ℕ) → (nonce : List ℕ) → IssueReply → Type 0
IssuesOrStarves l device op nonce (Ok i) = IsIssueReply l device op nonce (Ok i)
IssuesOrStarves l device op nonce (Err faults.Memory) = Unit {0}
IssuesOrStarves l device op nonce (Err fault) = IsIssueReply l device op nonce (Err fault)

-- the owner behind such a reply: an issued challenge is new and open
abbrev pub behind_issue : Ledger → (device op : ℕ) → (nonce : List ℕ) → IssueReply → Ledger
behind_issue l device op nonce (Ok i) = record l { challenges = l.challenges ++ record { device = device; op = op; nonce = nonce; spent = false } ∷ [] }
behind_issue l device op nonce (Err fault) = l

-- ---- an answer came

-- the challenge that an answer is to
pub record Asked : Type 0 where
  pub number : ℕ
  pub challenge : Challenge

abbrev pub IsAsked : List Challenge → Delivery → Asked → Type 0
IsAsked challenges d a = (number_to challenges d.device d.nonce ≡ Some a.number) × (slice_get challenges a.number ≡ Some a.challenge)

-- the session of a challenge, which has one window
abbrev pub challenge_session : Known → Challenge → Session
challenge_session k c = record { key = k.key; nonce = c.nonce; op = c.op; calls = None }

-- the verdict, said of the challenge with this number
abbrev pub judged : ℕ → Verdict → Answer
judged number (verdicts.Accept path) = Accepted number path
judged number (verdicts.Refuse cause) = Refused (causes.Verdict number cause)

abbrev pub Judged : Known → Asked → List ℕ → Answer → Type 0
Judged k a blob reply = (v : Verdict) × IsVerdict (subject_of k.shaped (challenge_session k a.challenge)) blob v × (reply ≡ judged a.number v)

abbrev pub IsAnswerReply : Ledger → List ℕ → Answer → Type 0
IsAnswerReply l frame =
    First Delivery Answer (IsAnswerFrame frame) (λ r. (offset : ℕ) × IsFrameOffset frame offset × (r ≡ Refused (causes.Frame offset))) (λ d.
    First Known Answer (λ k. device_of l.known d.device ≡ Some k) (λ r. (device_of l.known d.device ≡ None) × (r ≡ Refused causes.UnknownDevice)) (λ k.
    First Asked Answer (IsAsked l.challenges d) (λ r. (number_to l.challenges d.device d.nonce ≡ None) × (r ≡ Refused causes.NoChallenge)) (λ a.
    Tests Answer (a.challenge.spent ≡ false) (λ r. (a.challenge.spent ≡ true) × (r ≡ Refused (causes.Spent a.number))) (
    Judged k a d.blob))))

-- the owner behind such a reply: an accepted answer spends its challenge
abbrev pub behind_answer : Ledger → Answer → Ledger
behind_answer l (Accepted number path) = record l { challenges = spent_at number l.challenges }
behind_answer l (Refused cause) = l
