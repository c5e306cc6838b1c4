-- What the statuses of `policy` say, and what of it is `verify`'s.
use Rattle.std.proofs.Common.{◌≡◌, ◌≢◌, ◌↔◌, ◌∙◌, ◌++◌, ℕ, List, ◌∷◌, length, take, drop, Option, Some, None, refl, sym, ap, subst, arith, length-drop, []}
use Rattle.std.proofs.lemmas.List.{append-nil, length-take-le}
use Rattle.oat_first.proofs.FirstLaws.{First-one}
use Rattle.oat_verify.proofs.OneVerdict.{one_verdict}
use Rattle.oat_page.proofs.Working.{IsDone, refused_is_not_done}
use Rattle.oat_words.specs.{declared.command.Command.TheVariants.Verify, declared.command.Command.TheVariants.Policy, Commands.IsLine, Commands.files_of, Commands.limits_of}
use Rattle.oat_inputs.proofs.{Admitting.Admits-through, Admitting.Admits-one, Refusing.ok_one, Refusing.err_one, Refusing.never, Refusing.blob_is_decisive}
use Rattle.oat_room_verify.specs.{PolicyRule, PolicyVerdict, Holds, Breaks, verdict_of, Policy.said_of, Policy.said_text, Policy.ended_by, Policy.with_policy, Policy.Polices, Policy.IsPolicyText}
use Rattle.oat_room_verify.specs.{Policy.RefusesPolicy, Policy.ConcludesWith, policy_fault_word, policy_of}
use Rattle.oat_room_verify.proofs.{Verifying.verifies_concluded, Policing.Policing, Policing.Ruling}
use Rattle.oat_room_attest.specs.{Contents, Map, Image, Case, Verdict, Accept, Refuse, fails, passes, IsOne, IsDecisive, Rejected, Outcome, Answer, shows, as_outcome, status_of, refused, Wanted, File}
use Rattle.oat_room_attest.specs.{AreLoaded, wanted_of, AreAdmitted, report_of, Subject, subject_of, fault_text, IsBlobText, RefusesBlob}
use Rattle.oat_tool.specs.{Defined.done, DefinedLaws.IsOfWork, PolicyLaws.ReportsPolicy, PolicyLaws.PolicyIsReported, PolicyLaws.PolicyIsSaid, PolicyLaws.verify_words, PolicyLaws.PutsBehind}
use Rattle.oat_tool.specs.{PolicyLaws.behind_acceptance, PolicyLaws.refusal_alone, PolicyLaws.VerifyIsPutFirst, PolicyLaws.PolicyIsHeadlined, PolicyLaws.OnePolicyAnswer}
use Rattle.oat_tool.proofs.{Setting.work_is_done, Answering.work_is_of_command, Following.whole_is_put, Naming.lines_are_spelled, VerifySaying.judged_holds, VerifySaying.one_report}

-- ---- statuses

kept_by : (said : Option PolicyVerdict) → status_of (ended_by said) ≡ 0 ↔ (said ≡ Some Holds)
kept_by None = (λ zeroth. absurd (omega (arith, zeroth)), λ same. absurd (cc))
kept_by (Some Holds) = (λ zeroth. refl, λ same. refl)
kept_by (Some (Breaks at place)) = (λ zeroth. absurd (omega (arith, zeroth)), λ same. absurd (cc))

rejected_by : (said : Option PolicyVerdict) → status_of (ended_by said) ≡ 1 ↔ (said ≢ Some Holds)
rejected_by None = (λ first same. cc, λ other. refl)
rejected_by (Some Holds) = (λ first same. omega (arith, first), λ other. absurd (other refl))
rejected_by (Some (Breaks at place)) = (λ first same. cc, λ other. refl)

not_unsealed : (said : Option PolicyVerdict) → status_of (ended_by said) ≡ 7 → ⊥
not_unsealed None seven = omega (arith, seven)
not_unsealed (Some Holds) seven = omega (arith, seven)
not_unsealed (Some (Breaks at place)) seven = omega (arith, seven)

-- ---- the outcome is a verdict's report with what the policy says

-- the first three of the four files, as `verify` asks for them
front_loaded : (contents : Contents) (names : List (List ℕ)) (image case blob policy : File)
    → AreLoaded contents (wanted_of names (limits_of Policy)) (image ∷ case ∷ blob ∷ policy ∷ [])
    → AreLoaded contents (wanted_of names (limits_of Verify)) (image ∷ case ∷ blob ∷ [])
front_loaded contents [] image case blob policy held = absurd held
front_loaded contents (a ∷ []) image case blob policy held = absurd held.1
front_loaded contents (a ∷ b ∷ []) image case blob policy held = absurd held.1.1
front_loaded contents (a ∷ b ∷ c ∷ []) image case blob policy held = absurd held.1.1.1
front_loaded contents (a ∷ b ∷ c ∷ d ∷ names) image case blob policy held = (held.0, (held.1.0, (held.1.1.0, tt)))

policing_reported : (words : List (List ℕ)) (contents : Contents) (image case blob policy : File) (a : Answer)
    → AreLoaded contents (files_of words Policy) (image ∷ case ∷ blob ∷ policy ∷ []) → (i : Image) (c : Case) → AreAdmitted image case i c
    → Policing blob policy i c a → IsDone (as_outcome a).status → ReportsPolicy words contents (as_outcome a)
policing_reported words contents image case blob policy a held i c admitted (fails refused) is_done =
    absurd (refused_is_not_done a _ _ refused.told is_done)
policing_reported words contents image case blob policy a held i c admitted (passes bytes spelled (fails refused)) is_done =
    absurd (refused_is_not_done a _ _ refused.told is_done)
policing_reported words contents image case blob policy a held i c admitted (passes bytes spelled (passes rules read concludes)) is_done =
    let verdict = concludes.concluded.verdict in
    let said = said_of i.map rules verdict in
    let is : as_outcome a ≡ as_outcome (with_policy said (report_of i.map concludes.concluded.serial verdict)) =
    ap as_outcome (concludes.is ∙ ap (with_policy said) concludes.concluded.reported) in
    let status = ap (λ (p : Outcome). p.status) is in
    record {
      image = i;
      verdict = verdict;
      rules = rules;
      policed = record {
        judged = record {
          image = image;
          case = case;
          blob = blob;
          held = front_loaded contents (drop 1 words) image case blob policy held;
          c = c;
          admitted = admitted;
          bytes = bytes;
          blob_read = spelled;
          right = concludes.concluded.right;
        };
        policy = policy;
        held = held;
        policy_read = read;
      };
      serial = concludes.concluded.serial;
      carried = concludes.concluded.carried;
      is = is;
      kept = subst (λ (n : ℕ). n ≡ 0 ↔ (said ≡ Some Holds)) (sym status) (kept_by said);
      rejected = subst (λ (n : ℕ). n ≡ 1 ↔ (said ≢ Some Holds)) (sym status) (rejected_by said);
    }

policy_reported : (words : List (List ℕ)) (contents : Contents) (files : List File) (a : Answer) → AreLoaded contents (files_of words Policy) files
    → Polices files a → IsDone (as_outcome a).status → ReportsPolicy words contents (as_outcome a)
policy_reported words contents [] a held none is_done = absurd none
policy_reported words contents (image ∷ []) a held none is_done = absurd none
policy_reported words contents (image ∷ case ∷ []) a held none is_done = absurd none
policy_reported words contents (image ∷ case ∷ blob ∷ []) a held none is_done = absurd none
policy_reported words contents (image ∷ case ∷ blob ∷ policy ∷ []) a held polices is_done =
    let through = Admits-through image case (Policing blob policy) a is_done polices in
    policing_reported words contents image case blob policy a held through.i through.c through.admitted through.after is_done
policy_reported words contents (image ∷ case ∷ blob ∷ policy ∷ other ∷ files) a held none is_done = absurd none

pub policy_is_reported : PolicyIsReported
policy_is_reported words contents o asked defined work =
    let answered = work_is_of_command words contents Policy o asked defined work in
    subst (λ (p : Outcome). ReportsPolicy words contents p) (sym answered.does.is)
    (policy_reported words contents answered.files answered.does.answer answered.held answered.does.given
    (λ two. work_is_done o.status work (ap (λ (p : Outcome). p.status) answered.does.is ∙ two)))

pub policy_is_said : PolicyIsSaid
policy_is_said words contents o asked defined work =
    let r = policy_is_reported words contents o asked defined work in
    let report = report_of r.image.map r.serial r.verdict in
    let put = ap (λ (p : Outcome). p.out) r.is in (
      λ seven. not_unsealed (said_of r.image.map r.rules r.verdict) (sym (ap (λ (p : Outcome). p.status) r.is) ∙ seven),
      λ zeroth. ((as_outcome report).out, put ∙ ap (λ (said : Option PolicyVerdict). (as_outcome report).out ++ said_text said) (r.kept.0 zeroth)),
    )

-- ---- what `verify` puts comes first

behind : (flow : Map) (rules : List PolicyRule) (serial : Option ℕ) (verdict : Verdict) (o : Outcome)
    → o ≡ as_outcome (with_policy (said_of flow rules verdict) (report_of flow serial verdict)) → PutsBehind (as_outcome (report_of flow serial verdict)) o
behind flow rules serial (Accept path) o is =
    behind_acceptance (verdict_of flow rules path) refl (ap (λ (p : Outcome). p.out) is) (ap (λ (p : Outcome). p.err) is)
behind flow rules serial (Refuse cause) o is =
    refusal_alone refl (is ∙ ap (λ (text : List ℕ). as_outcome (shows Rejected text [])) (append-nil (as_outcome (report_of flow serial (Refuse cause))).out))

wanted_front : (names : List (List ℕ)) → wanted_of (take 3 names) (limits_of Verify) ≡ wanted_of names (limits_of Verify)
wanted_front [] = refl
wanted_front (a ∷ []) = refl
wanted_front (a ∷ b ∷ []) = refl
wanted_front (a ∷ b ∷ c ∷ []) = refl
wanted_front (a ∷ b ∷ c ∷ d ∷ names) = refl

asks_verify : (words : List (List ℕ)) → IsLine words Policy → IsLine (verify_words words) Verify
asks_verify words asked =
    let dropped = length-drop 1 words in
    let count : length words ≡ 5 = asked.count in
    (lines_are_spelled (verify_words words) Verify (1, omega arith, refl)).1 (record {
      numbers = [];
      names = take 3 (drop 1 words);
      bounded = λ k within. absurd (omega (arith, within));
      each_number = refl;
      each_file = length-take-le 3 (drop 1 words) (omega (arith, dropped, count));
      is = refl;
    })

pub verify_is_put_first : VerifyIsPutFirst
verify_is_put_first words contents o asked defined work =
    let r = policy_is_reported words contents o asked defined work in
    let j = r.policed.judged in
    let held = subst (λ (ws : List Wanted). AreLoaded contents ws (j.image ∷ j.case ∷ j.blob ∷ [])) (sym (wanted_front (drop 1 words))) j.held in
    let report = report_of r.image.map r.serial r.verdict in
    let verifies = verifies_concluded j.image j.case j.blob r.image j.c j.bytes report j.admitted j.blob_read
    (record { verdict = r.verdict; right = j.right; serial = r.serial; carried = r.carried; reported = refl }) in (
      as_outcome report,
      done Verify (asks_verify words asked) (passes (j.image ∷ j.case ∷ j.blob ∷ []) held (record { answer = report; given = verifies; is = refl })),
      behind r.image.map r.rules r.serial r.verdict o r.is,
    )

-- ---- the headline

pub policy_is_headlined : PolicyIsHeadlined
policy_is_headlined words contents files out err status told ran asked work =
    let all = whole_is_put words contents files out err status told ran work in
    let r = policy_is_reported words contents all.outcome asked all.is_defined (subst IsOfWork all.shown.same_status work) in
    record {
      outcome = all.outcome;
      reports = r;
      shown = all.shown;
      headline = λ path same. judged_holds words contents r.image r.verdict path r.policed.judged same;
    }

-- ---- the policy's file gives one policy, or is refused in one way

pub policy_is_decisive : (file : File) → IsDecisive (List PolicyRule) Answer (IsPolicyText file.text) (RefusesPolicy file)
policy_is_decisive file = record {
  one_value = λ rules others one two. ok_one others rules (policy_of file.text) two one;
  one_failure = λ a b one two.
      one.told ∙ (ap (λ fault. refused file.name (fault_text policy_fault_word fault)) (err_one one.fault two.fault (policy_of file.text) one.first two.first) ∙ sym two.told);
  apart = λ rules a read refuses. never rules refuses.fault (policy_of file.text) read refuses.first;
}

-- ---- one answer

one_conclusion : (s : Subject) (rules : List PolicyRule) (bytes : List ℕ) → IsOne Answer (ConcludesWith s rules bytes)
one_conclusion s rules bytes a b one two =
    let reports = one_report s bytes one.report two.report one.concluded two.concluded in
    let verdicts = one_verdict s bytes one.concluded.verdict two.concluded.verdict one.concluded.right two.concluded.right in
    one.is ∙ (ap (with_policy (said_of s.map rules one.concluded.verdict)) reports
    ∙ (ap (λ (v : Verdict). with_policy (said_of s.map rules v) two.report) verdicts ∙ sym two.is))

pub one_policy_answer : OnePolicyAnswer
one_policy_answer [] a b one two = absurd one
one_policy_answer (image ∷ []) a b one two = absurd one
one_policy_answer (image ∷ case ∷ []) a b one two = absurd one
one_policy_answer (image ∷ case ∷ blob ∷ []) a b one two = absurd one
one_policy_answer (image ∷ case ∷ blob ∷ policy ∷ []) a b one two =
    Admits-one image case (Policing blob policy) (λ i c admitted.
    First-one (List ℕ) Answer (IsBlobText blob.text) (RefusesBlob blob) (λ bytes. Ruling policy (subject_of i c.session) bytes) (blob_is_decisive blob)
    (λ bytes spelled.
    First-one (List PolicyRule) Answer (IsPolicyText policy.text) (RefusesPolicy policy) (λ rules. ConcludesWith (subject_of i c.session) rules bytes)
    (policy_is_decisive policy) (λ rules read. one_conclusion (subject_of i c.session) rules bytes))) a b one two
one_policy_answer (image ∷ case ∷ blob ∷ policy ∷ other ∷ files) a b one two = absurd one
