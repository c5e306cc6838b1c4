-- What the statuses of `policy` say of the defined outcome, and what of it is `verify`'s (docs/PROMISES.md).
use Rattle.std.specs.Prelude.{◌≡◌, ◌≢◌, ◌↔◌, ℕ, Option, Some, List, [], ◌∷◌, ◌++◌, take, drop, codes}
use Rattle.oat_words.specs.{declared.command.Command.TheVariants.Verify, declared.command.Command.TheVariants.Policy, Commands.IsLine, Commands.fixed_of, Commands.files_of}
use Rattle.oat_room_verify.specs.{PolicyRule, PolicyVerdict, Holds, Policy.IsPolicyText, Policy.Polices, Policy.said_of, Policy.policy_text, Policy.with_policy}
use Rattle.oat_room_attest.specs.{Contents, Image, Edge, Verdict, Accept, CarriesSerial, IsOne, Outcome, line, Answer, as_outcome, File, AreLoaded, report_of, Put}
use Rattle.oat_tool.specs.{CallLaws.OfCalls, CallLaws.ShowsJust, Defined.Defined, DefinedLaws.IsOfWork, VerifyLaws.IsJudged, Headline.HeadlineHolds}

-- The first three files that the words name are judged as `verify` does, with this verdict, and the fourth holds a policy of these rules.
pub record IsPoliced (words : List (List ℕ)) (contents : Contents) (i : Image) (verdict : Verdict) (rules : List PolicyRule) : Type 0 where
  pub judged : IsJudged words contents i verdict
  pub policy : File
  pub held : AreLoaded contents (files_of words Policy) (judged.image ∷ judged.case ∷ judged.blob ∷ policy ∷ [])
  pub policy_read : IsPolicyText policy.text rules

-- A verdict was reached, and the outcome is its report with what the policy says: with status 0 exactly where it accepts a path of which the
-- policy holds, and else, where it refuses or the path breaks the policy, with status 1.
pub record ReportsPolicy (words : List (List ℕ)) (contents : Contents) (o : Outcome) : Type 0 where
  pub image : Image
  pub verdict : Verdict
  pub rules : List PolicyRule
  pub policed : IsPoliced words contents image verdict rules
  pub serial : Option ℕ
  pub carried : CarriesSerial policed.judged.bytes serial
  pub is : o ≡ as_outcome (with_policy (said_of image.map rules verdict) (report_of image.map serial verdict))
  pub kept : o.status ≡ 0 ↔ (said_of image.map rules verdict ≡ Some Holds)
  pub rejected : o.status ≡ 1 ↔ (said_of image.map rules verdict ≢ Some Holds)

-- of each defined outcome of `policy` with a status of work
abbrev pub OfPolicies : (List (List ℕ) → Contents → Outcome → Type 0) → Type 0
OfPolicies Claim =
    (words : List (List ℕ)) (contents : Contents) (o : Outcome) → IsLine words Policy → Defined words contents o → IsOfWork o.status → Claim words contents o

-- A status of work is that of a verdict and of what the policy says.
abbrev pub PolicyIsReported : Type 0
PolicyIsReported = OfPolicies ReportsPolicy

-- The status isn't 7, and with status 0 the line `policy holds` stands at the end: an acceptance without it doesn't end so.
abbrev pub PolicyIsSaid : Type 0
PolicyIsSaid = OfPolicies (λ words contents o.
    (o.status ≢ 7) × (o.status ≡ 0 → (before : List ℕ) × (o.out ≡ before ++ line (codes "policy holds"))))

-- the words that ask `verify` about the first three of the files
abbrev pub verify_words : List (List ℕ) → List (List ℕ)
verify_words words = fixed_of Verify ++ take 3 (drop 1 words)

-- Behind an acceptance the policy's line is put, and a refusal is all.
pub data PutsBehind (verified o : Outcome) : Type 0 where
  behind_acceptance : (said : PolicyVerdict) → verified.status ≡ 0 → o.out ≡ verified.out ++ line (policy_text said) → o.err ≡ verified.err → PutsBehind verified o
  refusal_alone : verified.status ≡ 1 → o ≡ verified → PutsBehind verified o

-- What is put begins with what `verify` puts.
abbrev pub VerifyIsPutFirst : Type 0
VerifyIsPutFirst = OfPolicies (λ words contents o. (verified : Outcome) × Defined (verify_words words) contents verified × PutsBehind verified o)

-- The verdict with what the policy says was shown, and where it accepts, the headline holds of it.
pub record ShowsPolicy (words : List (List ℕ)) (contents : Contents) (out err : Put) (status : ℕ) : Type 0 where
  pub outcome : Outcome
  pub reports : ReportsPolicy words contents outcome
  pub shown : ShowsJust outcome out err status
  pub headline : (path : List Edge) → reports.verdict ≡ Accept path
      → HeadlineHolds reports.image reports.policed.judged.c.session reports.policed.judged.bytes path

-- An acceptance that `policy` prints carries the claim of one that `verify` prints.
abbrev pub PolicyIsHeadlined : Type 0
PolicyIsHeadlined = OfCalls (λ words contents files out err status. IsLine words Policy → IsOfWork status → ShowsPolicy words contents out err status)

-- Files have one answer.
abbrev pub OnePolicyAnswer : Type 0
OnePolicyAnswer = (files : List File) → IsOne Answer (Polices files)
