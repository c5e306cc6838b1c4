-- The calls and replies before it leave one reply.
use Rattle.std.proofs.Common.{◌≡◌, ℕ, ◌<◌, Bool, true, false, List, length, slice_get, Option, Some, None, Err, sym, ap, subst, ◌∙◌, inl, inr, arith, ◌++◌, take, drop}
use Rattle.std.specs.Int.{w16, w32, to_be_bytes, from_be_bytes}
use Rattle.std.proofs.lemmas.{Bool.cases_lt, Nat.from_be_bytes-to_be_bytes_2, Nat.from_be_bytes-to_be_bytes_4}
use Rattle.oat_first.proofs.FirstLaws.{First-one, Tests-decisive}
use Rattle.oat_verify.specs.{IsOne, IsDecisive, Verdict.subject_of}
use Rattle.oat_verify.proofs.OneVerdict.{one_verdict}
use Rattle.oat_owner.specs.{declared.device.Known.Known, declared.challenge.Challenge.Challenge, declared.owner.Answer.Answer, declared.owner.Answer.TheVariants.Refused}
use Rattle.oat_owner.specs.{declared.owner.IssueFault.IssueFault, Frames.Delivery, Frames.IsAnswerFrame, Frames.IsFrameOffset, Ledger.Ledger, Ledger.device_of, Ledger.number_with, Ledger.number_to}
use Rattle.oat_owner.specs.{Replies.IssueReply, Replies.OrRefused, Replies.OrUsed, Replies.IsIssueReply, Replies.Asked, Replies.IsAsked, Replies.Judged, Replies.challenge_session, Replies.judged}
use Rattle.oat_owner.specs.{Replies.IsAnswerReply, Laws.OneReply, Laws.ChallengeFramesTell, Laws.AnswerFramesTell, Laws.OneFrameOffset}
use Rattle.oat_owner.proofs.Answering.{only_delivery}
use Rattle.oat_owner.specs.declared.owner.AnswerCause.TheVariants as causes
use Rattle.oat_owner.specs.declared.owner.IssueFault.TheVariants as faults
use Rattle.oat_owner.specs.declared.call.OwnerCall.TheVariants as calls
use Rattle.oat_owner.specs.declared.call.OwnerReply.TheVariants as replies

-- ---- frames

pub one_delivery : AnswerFramesTell
one_delivery bytes d e is is' =
    only_delivery d.device d.nonce (length d.blob) is.device is.nonce is.few d.blob e (subst (λ (xs : List ℕ). IsAnswerFrame xs e) is.layout is')

offset_above : (bytes : List ℕ) (one two : ℕ) → IsFrameOffset bytes one → IsFrameOffset bytes two → one < two → ⊥
offset_above bytes one two first second below = first.longest two below second.within second.begins

pub one_offset : OneFrameOffset
one_offset bytes one two first second =
    elim (cases_lt one two) [
      | inl below ↦ absurd (offset_above bytes one two first second below)
      | inr above ↦ elim (cases_lt two one) [
        | inl below ↦ absurd (offset_above bytes two one second first below)
        | inr same ↦ omega (arith, above, same)
      ]
    ]

pub challenge_frames_tell : ChallengeFramesTell
challenge_frames_tell device op other_device other_op nonce other_nonce fits other_fits small other_small sixteen other_sixteen = (
  (let count = sixteen.counted in omega (arith, count)),
  λ same.
      let behind_front : to_be_bytes w32 device ++ (to_be_bytes w16 op ++ nonce) ≡ to_be_bytes w32 other_device ++ (to_be_bytes w16 other_op ++ other_nonce) = ap (drop 5) same in
      let devices : to_be_bytes w32 device ≡ to_be_bytes w32 other_device = ap (take 4) behind_front in
      let behind_device : to_be_bytes w16 op ++ nonce ≡ to_be_bytes w16 other_op ++ other_nonce = ap (drop 4) behind_front in
      let ops : to_be_bytes w16 op ≡ to_be_bytes w16 other_op = ap (take 2) behind_device in
      let nonces : nonce ≡ other_nonce = ap (drop 2) behind_device in (
        sym (from_be_bytes-to_be_bytes_4 device fits) ∙ ap (from_be_bytes w32) devices ∙ from_be_bytes-to_be_bytes_4 other_device other_fits,
        sym (from_be_bytes-to_be_bytes_2 op small) ∙ ap (from_be_bytes w16) ops ∙ from_be_bytes-to_be_bytes_2 other_op other_small,
        nonces,
      ),
)

-- ---- a look-up that finds, or a fixed answer

found_once : {X A : Type 0} (o : Option X) (refused : A) → IsDecisive X A (λ x. o ≡ Some x) (λ r. (o ≡ None) × (r ≡ refused))
found_once {X} {A} o refused = record {
  one_value = λ x y is is'. (let both : Path (Option X) (Some x) (Some y) = sym is ∙ is' in cc);
  one_failure = λ r s is is'. is.1 ∙ sym is'.1;
  apart = λ x r is failed. (let bad : Path (Option X) (Some x) None = sym is ∙ failed.0 in cc);
}

-- ---- a challenge is asked for

fault_once : (holds : Type 0) (fault : IssueFault) (rest : IssueReply → Type 0) → IsOne IssueReply rest → IsOne IssueReply (OrRefused holds fault rest)
fault_once holds fault rest one =
    First-one (Unit {0}) IssueReply (λ u. holds) (λ r. ¬ holds × (r ≡ Err fault)) (λ u. rest)
    (Tests-decisive IssueReply holds (λ r. ¬ holds × (r ≡ Err fault)) (λ r s first second. first.1 ∙ sym second.1) (λ r held failed. failed.0 held)) (λ u held. one)

used_once : (challenges : List Challenge) (nonce : List ℕ) (rest : IssueReply → Type 0) → IsOne IssueReply rest → IsOne IssueReply (OrUsed challenges nonce rest)
used_once challenges nonce rest one =
    let fails = λ (r : IssueReply). (n : ℕ) × (number_with challenges nonce ≡ Some n) × (r ≡ Err (faults.UsedNonce n)) in
    First-one (Unit {0}) IssueReply (λ u. number_with challenges nonce ≡ None) fails (λ u. rest)
    (Tests-decisive IssueReply (number_with challenges nonce ≡ None) fails
    (λ r s first second.
    let both : Path (Option ℕ) (Some first.0) (Some second.0) = sym first.1 ∙ second.1 in
    let same : first.0 ≡ second.0 = cc in
    first.2 ∙ ap (λ (n : ℕ). Err (faults.UsedNonce n)) same ∙ sym second.2)
    (λ r held failed. (let bad : Path (Option ℕ) (Some failed.0) None = sym failed.1 ∙ held in cc)))
    (λ u held. one)

issue_once : (l : Ledger) (device op : ℕ) (nonce : List ℕ) → IsOne IssueReply (IsIssueReply l device op nonce)
issue_once l device op nonce =
    First-one Known IssueReply (λ k. device_of l.known device ≡ Some k) (λ r. (device_of l.known device ≡ None) × (r ≡ Err faults.UnknownDevice)) _
    (found_once (device_of l.known device) (Err faults.UnknownDevice))
    (λ k found. fault_once _ faults.NoOperation _ (used_once l.challenges nonce _ (fault_once _ faults.Full _ (λ r s is is'. is ∙ sym is'))))

-- ---- an answer came

asked_once : (challenges : List Challenge) (d : Delivery) → IsDecisive Asked Answer (IsAsked challenges d)
    (λ r. (number_to challenges d.device d.nonce ≡ None) × (r ≡ Refused causes.NoChallenge))
asked_once challenges d = record {
  one_value = λ a b is is'.
      let numbers : Path (Option ℕ) (Some a.number) (Some b.number) = sym is.0 ∙ is'.0 in
      let number : a.number ≡ b.number = cc in
      let items : Path (Option Challenge) (Some a.challenge) (Some b.challenge) = sym is.1 ∙ ap (slice_get challenges) number ∙ is'.1 in
      let challenge : a.challenge ≡ b.challenge = cc in
      (λ i. record { number = number i; challenge = challenge i });
  one_failure = λ r s is is'. is.1 ∙ sym is'.1;
  apart = λ a r is failed. (let bad : Path (Option ℕ) (Some a.number) None = sym is.0 ∙ failed.0 in cc);
}

judged_once : (k : Known) (a : Asked) (blob : List ℕ) → IsOne Answer (Judged k a blob)
judged_once k a blob r s is is' =
    let same = one_verdict (subject_of k.shaped (challenge_session k a.challenge)) blob is.0 is'.0 is.1 is'.1 in
    is.2 ∙ ap (judged a.number) same ∙ sym is'.2

unspent_once : (spent : Bool) (n : ℕ) → IsDecisive (Unit {0}) Answer (λ u. spent ≡ false) (λ r. (spent ≡ true) × (r ≡ Refused (causes.Spent n)))
unspent_once spent n =
    Tests-decisive Answer (spent ≡ false) (λ r. (spent ≡ true) × (r ≡ Refused (causes.Spent n)))
    (λ r s is is'. is.1 ∙ sym is'.1) (λ r held failed. (let bad : true ≡ false = sym failed.0 ∙ held in cc))

answer_once : (l : Ledger) (frame : List ℕ) → IsOne Answer (IsAnswerReply l frame)
answer_once l frame =
    First-one Delivery Answer (IsAnswerFrame frame) (λ r. (offset : ℕ) × IsFrameOffset frame offset × (r ≡ Refused (causes.Frame offset))) _
    (record {
      one_value = one_delivery frame;
      one_failure = λ r s is is'. is.2 ∙ ap (λ (offset : ℕ). Refused (causes.Frame offset)) (one_offset frame is.0 is'.0 is.1 is'.1) ∙ sym is'.2;
      apart = λ d r is failed. failed.1.no_frame d is;
    })
    (λ d framed.
    First-one Known Answer (λ k. device_of l.known d.device ≡ Some k) (λ r. (device_of l.known d.device ≡ None) × (r ≡ Refused causes.UnknownDevice)) _
    (found_once (device_of l.known d.device) (Refused causes.UnknownDevice))
    (λ k found.
    First-one Asked Answer (IsAsked l.challenges d) (λ r. (number_to l.challenges d.device d.nonce ≡ None) × (r ≡ Refused causes.NoChallenge)) _
    (asked_once l.challenges d)
    (λ a asked.
    First-one (Unit {0}) Answer (λ u. a.challenge.spent ≡ false) (λ r. (a.challenge.spent ≡ true) × (r ≡ Refused (causes.Spent a.number))) _
    (unspent_once a.challenge.spent a.number) (λ u fresh. judged_once k a d.blob))))

pub one_reply : OneReply
one_reply l (calls.Issue device op nonce) (replies.Issue r) (replies.Issue s) is is' = ap replies.Issue (issue_once l device op nonce r s is is')
one_reply l (calls.Issue device op nonce) (replies.Issue r) (replies.Answer b) is is' = absurd is'
one_reply l (calls.Issue device op nonce) (replies.Answer a) two is is' = absurd is
one_reply l (calls.Answer frame) (replies.Answer a) (replies.Answer b) is is' = ap replies.Answer (answer_once l frame a b is is')
one_reply l (calls.Answer frame) (replies.Answer a) (replies.Issue s) is is' = absurd is'
one_reply l (calls.Answer frame) (replies.Issue r) two is is' = absurd is
