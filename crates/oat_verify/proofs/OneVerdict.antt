-- Bytes have one verdict, and an acceptance says all at once.
use Rattle.std.proofs.Common.{◌≡◌, ℕ, ◌<◌, List, Option, Some, None, MatchOption, refl, sym, ap, ◌∙◌, inl, inr, arith}
use Rattle.std.proofs.lemmas.Bool.{cases_lt}
use Rattle.oat_first.proofs.FirstLaws.{First-one, Tests-decisive}
use Rattle.oat_shape.specs.{Edge, fails, passes, IsOne, IsDecisive}
use Rattle.oat_blob.proofs.OneLayout.{one_body}
use Rattle.oat_replay.specs.{Violation, Body, hmac, IsBlob, covered_of, IsFormOffset}
use Rattle.oat_replay.proofs.{ReplayLemmas.one_path, ReplayLemmas.never_both, OneStuck.one_stuck}
use Rattle.oat_verify.specs.{declared.verdict.Cause.Cause, declared.verdict.Verdict.Verdict, declared.verdict.Verdict.TheVariants.Accept, declared.verdict.Verdict.TheVariants.Refuse, Verdict.Subject}
use Rattle.oat_verify.specs.{Verdict.FitsSession, Verdict.Looks, Verdict.JudgesPath, Verdict.Replays, Verdict.stuck, Verdict.walked, Verdict.Judges, Verdict.IsVerdict, Verdict.blob, Verdict.form}
use Rattle.oat_verify.specs.{Verdict.carried, Verdict.no_blob, Verdict.Accepts, Verdict.AcceptanceAtOnce, Verdict.OneSerial, Verdict.OneVerdict}
use Rattle.oat_verify.specs.declared.verdict.Cause.TheVariants as causes

-- ---- one verdict

looks_decisive : (holds : Type 0) (cause : Cause) → IsDecisive (Unit {0}) Verdict (λ u. holds) (λ v. ¬ holds × (v ≡ Refuse cause))
looks_decisive holds cause =
    Tests-decisive Verdict holds (λ v. ¬ holds × (v ≡ Refuse cause)) (λ v w one two. one.1 ∙ sym two.1) (λ v held failed. failed.0 held)

looks_one : (holds : Type 0) (cause : Cause) (rest : Verdict → Type 0) → IsOne Verdict rest → IsOne Verdict (Looks holds cause rest)
looks_one holds cause rest one =
    First-one (Unit {0}) Verdict (λ u. holds) (λ v. ¬ holds × (v ≡ Refuse cause)) (λ u. rest) (looks_decisive holds cause) (λ u held. one)

reports_one : (violation : Option Violation) (path : List Edge) (v w : Verdict)
    → MatchOption violation (v ≡ Accept path) (λ x. v ≡ Refuse (causes.Critical x))
    → MatchOption violation (w ≡ Accept path) (λ x. w ≡ Refuse (causes.Critical x)) → v ≡ w
reports_one None path v w is is' = is ∙ sym is'
reports_one (Some x) path v w is is' = is ∙ sym is'

judges_path_one : (head : List ℕ) (body : Body) (path : List Edge) → IsOne Verdict (JudgesPath head body path)
judges_path_one head body path = looks_one _ causes.Hash _ (reports_one body.head.violation path)

replays_one : (s : Subject) (body : Body) → IsOne Verdict (Replays s body)
replays_one s body v w (stuck cause turn gets is) (stuck other next gets' is') =
    let one = one_stuck s.map s.session.op body.bits body.targets cause other turn next gets gets' in
    is ∙ (rw (one.0, one.1) (sym is'))
replays_one s body v w (stuck cause turn gets is) (walked path walks settles) =
    absurd (never_both s.map s.session.op body.bits body.targets path cause turn walks gets)
replays_one s body v w (walked path walks settles) (stuck cause turn gets is) =
    absurd (never_both s.map s.session.op body.bits body.targets path cause turn walks gets)
replays_one s body v w (walked path walks settles) (walked other walks' settles') =
    let same : path ≡ other = one_path s.map s.session.op body.bits body.targets path other walks walks' in
    judges_path_one _ body path v w settles (rw same settles')

judges_one : (s : Subject) (body : Body) (mac : List ℕ) → IsOne Verdict (Judges s body mac)
judges_one s body mac =
    looks_one _ causes.Mac _ (looks_one _ causes.Nonce _ (looks_one _ (causes.Serial body.head.serial) _ (looks_one _ causes.Operation _ (looks_one _ causes.Image _ (replays_one s body)))))

offset_below : (bytes : List ℕ) (one two : ℕ) → IsFormOffset bytes one → IsFormOffset bytes two → one < two → ⊥
offset_below bytes one two first second below = first.longest two below second.within second.begins

offset_one : (bytes : List ℕ) (one two : ℕ) → IsFormOffset bytes one → IsFormOffset bytes two → one ≡ two
offset_one bytes one two first second =
    elim (cases_lt one two) [
      | inl below ↦ absurd (offset_below bytes one two first second below)
      | inr above ↦ elim (cases_lt two one) [
        | inl below ↦ absurd (offset_below bytes two one second first below)
        | inr same ↦ omega (arith, above, same)
      ]
    ]

pub one_verdict : OneVerdict
one_verdict s bytes v w (blob body mac is judges) (blob other other_mac is' judges') =
    let same = one_body bytes body other mac other_mac is is' in
    judges_one s body mac v w judges (rw (same.0, same.1) judges')
one_verdict s bytes v w (blob body mac is judges) (form offset at is') = absurd (at.no_blob body mac is)
one_verdict s bytes v w (form offset at is') (blob body mac is judges) = absurd (at.no_blob body mac is)
one_verdict s bytes v w (form offset at is) (form other at' is') =
    is ∙ ap (λ place. Refuse (causes.Form place)) (offset_one bytes offset other at at') ∙ sym is'

pub one_serial : OneSerial
one_serial bytes one two (carried body mac is same) (carried other other_mac is' same') =
    same ∙ ap (λ (b : Body). b.head.serial) (one_body bytes body other mac other_mac is is').0 ∙ sym same'
one_serial bytes one two (carried body mac is same) (no_blob none same') = absurd (none body mac is)
one_serial bytes one two (no_blob none same) (carried body mac is same') = absurd (none body mac is)
one_serial bytes one two (no_blob none same) (no_blob none' same') = same ∙ sym same'

-- ---- an acceptance

never_refused : (path : List Edge) (cause : Cause) → Accept path ≡ Refuse cause → ⊥
never_refused path cause same = cc

accepted_path : (path other : List Edge) → Accept path ≡ Accept other → path ≡ other
accepted_path path other same = cc

looked : (holds : Type 0) (cause : Cause) (rest : Verdict → Type 0) (path : List Edge) → Looks holds cause rest (Accept path) → holds × rest (Accept path)
looked holds cause rest path (fails failed) = absurd (never_refused path cause failed.1)
looked holds cause rest path (passes u held more) = (held, more)

reported : (violation : Option Violation) (path accepted : List Edge)
    → MatchOption violation (Accept accepted ≡ Accept path) (λ x. Accept accepted ≡ Refuse (causes.Critical x))
    → (violation ≡ None) × (accepted ≡ path)
reported None path accepted is = (refl, accepted_path accepted path is)
reported (Some x) path accepted is = absurd (never_refused accepted (causes.Critical x) is)

-- what is accepted beside the first five
accepts_replay : (s : Subject) (bytes : List ℕ) (path : List Edge) (body : Body) (mac : List ℕ) → IsBlob bytes body mac
    → mac ≡ hmac s.session.key (covered_of body) → body.head.nonce ≡ s.session.nonce → FitsSession body.head.serial s.session.calls → body.head.op ≡ s.session.op
    → body.head.digest ≡ s.digest → Replays s body (Accept path) → Accepts s bytes path
accepts_replay s bytes path body mac is right nonce serial op digest (stuck cause turn gets refused) =
    absurd (never_refused path (causes.Replay cause turn) refused)
accepts_replay s bytes path body mac is right nonce serial op digest (walked other walks settles) =
    let hash = looked _ _ _ path settles in
    let clean = reported body.head.violation other path hash.1 in
    record {
      body = body;
      mac = mac;
      is_blob = is;
      right_mac = right;
      nonce = nonce;
      serial = serial;
      operation = op;
      image = digest;
      walked = rw clean.1 walks;
      hash = rw clean.1 hash.0;
      clean = clean.0;
    }

accepts : (s : Subject) (bytes : List ℕ) (path : List Edge) → IsVerdict s bytes (Accept path) → Accepts s bytes path
accepts s bytes path (form offset at is) = absurd (never_refused path (causes.Form offset) is)
accepts s bytes path (blob body mac is judges) =
    let right_mac = looked _ _ _ path judges in
    let nonce = looked _ _ _ path right_mac.1 in
    let serial = looked _ _ _ path nonce.1 in
    let operation = looked _ _ _ path serial.1 in
    let image = looked _ _ _ path operation.1 in
    accepts_replay s bytes path body mac is right_mac.0 nonce.0 serial.0 operation.0 image.0 image.1

unreported : (violation : Option Violation) (path : List Edge) → violation ≡ None
    → MatchOption violation (Accept path ≡ Accept path) (λ x. Accept path ≡ Refuse (causes.Critical x))
unreported violation path none = rw none refl

is_accepted : (s : Subject) (bytes : List ℕ) (path : List Edge) → Accepts s bytes path → IsVerdict s bytes (Accept path)
is_accepted s bytes path a =
    blob a.body a.mac a.is_blob (passes tt a.right_mac (passes tt a.nonce (passes tt a.serial (passes tt a.operation (passes tt a.image
    (walked path a.walked (passes tt a.hash (unreported a.body.head.violation path a.clean))))))))

pub acceptance_at_once : AcceptanceAtOnce
acceptance_at_once s bytes path = (accepts s bytes path, is_accepted s bytes path)
