-- `policy IMAGE CASE BLOB POLICY`: the first refusal of an input, or what `verify` reports, and behind an acceptance what the policy says
-- of its path (docs/FORMATS.md).
use Rattle.std.specs.{Prelude.◌≡◌, Prelude.ℕ, Prelude.List, Prelude.[], Prelude.◌∷◌, Prelude.◌++◌, Prelude.codes, Prelude.Option, Prelude.Some, Prelude.None, Prelude.Ok, Prelude.Err, Fmt.decimal}
use Rattle.oat_feed.specs.declared.verdict.Settled.{Settled}
use Rattle.oat_policy.specs.{declared.fault.PolicyFaultKind.PolicyFaultKind, declared.policy.PolicyRule.PolicyRule, declared.verdict.PolicyVerdict.PolicyVerdict}
use Rattle.oat_policy.specs.{declared.verdict.PolicyVerdict.TheVariants.Holds, declared.verdict.PolicyVerdict.TheVariants.Breaks, FaultText.policy_fault_word, Reading.policy_of, Verdict.verdict_of}
use Rattle.oat_inputs.specs.{BlobText.HasDigits, BlobText.IsBlobText, Refusals.RefusesBlob, Admits.Admits, Admits.AreAdmitted}
use Rattle.oat_shown.specs.{Map, Image, Case, Verdict, Accept, Refuse, Subject, subject_of, Fault, fault_text, First, Ended, Done, Rejected, line, Answer, shows, refuses, refused, File}
use Rattle.oat_room_verify.specs.{Settles.SettlesBlob, Verify.Concludes}

-- ---- the policy's file

abbrev pub IsPolicyText : List ℕ → List PolicyRule → Type 0
IsPolicyText text rules = policy_of text ≡ Ok rules

-- A policy text is refused for its first fault.
pub record RefusesPolicy (file : File) (a : Answer) : Type 0 where
  pub fault : Fault PolicyFaultKind
  pub first : policy_of file.text ≡ Err fault
  pub told : a ≡ refused file.name (fault_text policy_fault_word fault)

-- ---- what the policy says

-- what the rules say of the path of an acceptance
abbrev pub said_of : Map → List PolicyRule → Verdict → Option PolicyVerdict
said_of flow rules (Accept path) = Some (verdict_of flow rules path)
said_of flow rules (Refuse cause) = None

abbrev pub policy_text : PolicyVerdict → List ℕ
policy_text Holds = codes "policy holds"
policy_text (Breaks at place) = codes "policy breaks " ++ decimal at ++ codes " " ++ decimal place

-- the policy's line, where it says something
abbrev pub said_text : Option PolicyVerdict → List ℕ
said_text None = []
said_text (Some said) = line (policy_text said)

-- The work is done where the policy holds of an accepted path, and nowhere else.
abbrev pub ended_by : Option PolicyVerdict → Ended
ended_by (Some Holds) = Done
ended_by _ = Rejected

-- a report, and behind it what the policy says, which decides how the work ended
abbrev pub with_policy : Option PolicyVerdict → Answer → Answer
with_policy said (shows _ out err) = shows (ended_by said) (out ++ said_text said) err
with_policy said (refuses text) = refuses text

-- What `verify` concludes is reported, and what the rules say of an accepted path.
pub record ConcludesWith (subject : Subject) (rules : List PolicyRule) (bytes : List ℕ) (a : Answer) : Type 0 where
  pub report : Answer
  pub concluded : Concludes subject bytes report
  pub is : a ≡ with_policy (said_of subject.map rules concluded.verdict) report

-- what was settled of a blob, and what the rules say of an accepted path
pub record SettlesWith (subject : Subject) (rules : List PolicyRule) (bytes : List ℕ) (settled : Settled) (said : Option PolicyVerdict) : Type 0 where
  pub settles : SettlesBlob subject bytes settled
  pub is_said : said ≡ said_of subject.map rules settles.verdict.verdict

abbrev pub Polices : List File → Answer → Type 0
Polices (image ∷ case ∷ blob ∷ policy ∷ []) a =
    Admits image case (λ i c.
    First (List ℕ) Answer (IsBlobText blob.text) (RefusesBlob blob) (λ bytes.
    First (List PolicyRule) Answer (IsPolicyText policy.text) (RefusesPolicy policy) (λ rules.
    ConcludesWith (subject_of i c.session) rules bytes))) a
Polices _ a = ⊥

-- The files hold an image and a case that are admitted, a blob of these digits, and a policy of these rules.
pub record IsOpenedWith (files : List File) (i : Image) (c : Case) (digits : List ℕ) (rules : List PolicyRule) : Type 0 where
  pub image : File
  pub case : File
  pub blob : File
  pub policy : File
  pub are : files ≡ image ∷ case ∷ blob ∷ policy ∷ []
  pub admitted : AreAdmitted image case i c
  pub spelled : HasDigits blob.text digits
  pub read : IsPolicyText policy.text rules
