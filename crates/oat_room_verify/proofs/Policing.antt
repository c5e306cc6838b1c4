-- The room of `policy`: where its work stops and goes on, and that it has one answer.
use Rattle.std.proofs.Common.{Bool, ◌≡◌, ◌≢◌, ◌<◌, ◌≤◌, ◌∙◌, ℕ, List, ◌∷◌, ◌++◌, length, length-append, ap, arith, []}
use Rattle.oat_lines.proofs.Steps.{is_fault}
use Rattle.oat_replay.specs.Replay.{IsWalked}
use Rattle.oat_policy.specs.{declared.fault.PolicyFaultKind.PolicyFaultKind, declared.policy.PolicyRule.PolicyRule, FaultText.policy_fault_word, declared.watch.Watch.Watch, Reading.policy_of}
use Rattle.oat_policy.specs.{Standing.HasSeen}
use Rattle.oat_page.proofs.Working.{StopsWith-more}
use Rattle.oat_inputs.specs.{BlobText.IsBlobText, Refusals.RefusesBlob, Admits.Rejects, Admits.AreAdmitted}
use Rattle.oat_inputs.proofs.Admitting.{Admits-rejected, Admits-admitted}
use Rattle.oat_shown.specs.{Edge, Map, Replay, StandsBehind, Step, passed, moved, path_of, Image, Case, Subject, subject_of, Fault, Memory, Fails, fault_text, First, fails, passes, Stop, Answer}
use Rattle.oat_shown.specs.{refused, File, StopsWith}
use Rattle.oat_room_verify.specs.Policy.{IsPolicyText, RefusesPolicy, ConcludesWith, Polices}
use Rattle.oat_room_verify.proofs.Retracing.{path_pushed}

-- ---- the policy's file gives one policy, or is refused in one way

pub refuses_policy : (file : File) (fault : Fault PolicyFaultKind) (a : Answer) → fault ≢ Memory
    → Fails fault (policy_of file.text) → a ≡ refused file.name (fault_text policy_fault_word fault) → RefusesPolicy file a
refuses_policy file fault a other given told =
    record { fault = fault; first = is_fault fault (policy_of file.text) other given; told = told }

-- ---- a walked path is one that a policy can be asked about

path_is_short : (steps : List Step) → length (path_of steps) ≤ length steps
path_is_short [] = omega arith
path_is_short (passed ∷ steps) = let rest = path_is_short steps in omega (arith, rest)
path_is_short (moved edge ∷ steps) = let rest = path_is_short steps in omega (arith, rest)

pub walked_is_short : (flow : Map) (op : ℕ) (bits : List Bool) (targets : List ℕ) (path : List Edge) → IsWalked flow op bits targets path → length path ≤ 4194304
walked_is_short flow op bits targets path walked =
    let short = path_is_short walked.steps in
    rw walked.path_is (omega (arith, short, walked.within))

-- the steps that a replay made before a turn, whose edges a policy's watch has seen
pub record WatchesSoFar (rules : List PolicyRule) (flow : Map) (op : ℕ) (bits : List Bool) (targets : List ℕ) (replay : Replay) (watch : Watch) (turn : ℕ) : Type 0 where
  pub steps : List Step
  pub behind : StandsBehind flow op bits targets replay steps
  pub seen : HasSeen watch rules flow (path_of steps)
  pub turn_is : turn ≡ length steps

pub followed_is_short : (flow : Map) (op : ℕ) (bits : List Bool) (targets : List ℕ) (replay : Replay) (steps : List Step)
    → StandsBehind flow op bits targets replay steps → length (path_of steps) ≤ 4194304
followed_is_short flow op bits targets replay steps behind = let short = path_is_short steps in omega (arith, short, behind.follows.within)

-- where one more edge makes no longer path than there may be, the watch takes it
pub has_room : (watch : Watch) (rules : List PolicyRule) (flow : Map) (steps : List Step) (edge : Edge)
    → HasSeen watch rules flow (path_of steps) → length (path_of (steps ++ moved edge ∷ [])) ≤ 4194304 → watch.given < 4194304
has_room watch rules flow steps edge seen short =
    let longer = ap (λ (path : List Edge). length path) (path_pushed steps edge) ∙ length-append (path_of steps) (edge ∷ []) in
    omega (arith, short, longer, seen.given)

-- ---- where the work stops, and where it goes on to the verdict

-- what comes after the blob's bytes
abbrev pub Ruling : File → Subject → List ℕ → Answer → Type 0
Ruling policy s bytes = First (List PolicyRule) Answer (IsPolicyText policy.text) (RefusesPolicy policy) (λ rules. ConcludesWith s rules bytes)

-- what comes after an image and a case are admitted
abbrev pub Policing : File → File → Image → Case → Answer → Type 0
Policing blob policy i c = First (List ℕ) Answer (IsBlobText blob.text) (RefusesBlob blob) (λ bytes. Ruling policy (subject_of i c.session) bytes)

pub polices_rejected : (image case blob policy : File) (stop : Stop) → StopsWith (Rejects image case) stop
    → StopsWith (Polices (image ∷ case ∷ blob ∷ policy ∷ [])) stop
polices_rejected image case blob policy stop stops =
    StopsWith-more (Rejects image case) (Polices (image ∷ case ∷ blob ∷ policy ∷ [])) stop
    (λ a rejected. Admits-rejected image case (Policing blob policy) a rejected) stops

pub polices_no_blob : (image case blob policy : File) (i : Image) (c : Case) (stop : Stop) → AreAdmitted image case i c
    → StopsWith (RefusesBlob blob) stop → StopsWith (Polices (image ∷ case ∷ blob ∷ policy ∷ [])) stop
polices_no_blob image case blob policy i c stop admitted stops =
    StopsWith-more (RefusesBlob blob) (Polices (image ∷ case ∷ blob ∷ policy ∷ [])) stop
    (λ a refused. Admits-admitted image case (Policing blob policy) a i c admitted (fails refused)) stops

pub polices_no_policy : (image case blob policy : File) (i : Image) (c : Case) (bytes : List ℕ) (stop : Stop) → AreAdmitted image case i c
    → IsBlobText blob.text bytes → StopsWith (RefusesPolicy policy) stop → StopsWith (Polices (image ∷ case ∷ blob ∷ policy ∷ [])) stop
polices_no_policy image case blob policy i c bytes stop admitted spelled stops =
    StopsWith-more (RefusesPolicy policy) (Polices (image ∷ case ∷ blob ∷ policy ∷ [])) stop
    (λ a refused. Admits-admitted image case (Policing blob policy) a i c admitted (passes bytes spelled (fails refused))) stops

pub polices_concluded : (image case blob policy : File) (i : Image) (c : Case) (bytes : List ℕ) (rules : List PolicyRule) (a : Answer)
    → AreAdmitted image case i c → IsBlobText blob.text bytes → IsPolicyText policy.text rules
    → ConcludesWith (subject_of i c.session) rules bytes a → Polices (image ∷ case ∷ blob ∷ policy ∷ []) a
polices_concluded image case blob policy i c bytes rules a admitted spelled read concludes =
    Admits-admitted image case (Policing blob policy) a i c admitted (passes bytes spelled (passes rules read concludes))
