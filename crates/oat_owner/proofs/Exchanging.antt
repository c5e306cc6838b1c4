-- Calls one by one, and the definition over their whole list.
use Rattle.std.proofs.Common.{◌≡◌, ℕ, zero, suc, ◌+◌, ◌<◌, ◌≤◌, Bool, true, false, ◌||◌, List, [], ◌∷◌, ◌++◌, length, slice_get, take, Option, Some, None, Ok, Err, refl, sym, ap, subst, ◌∙◌, inl, inr}
use Rattle.std.proofs.Common.{append_assoc, arith}
use Rattle.std.specs.{Prelude.◌==◌, List.list_any, List.filter_map, List.cons_option}
use Rattle.std.proofs.lemmas.{Bool.cases_Bool, Bool.cases_lt, Bool.eq-eqb, Bool.ne_eqb, Bool.eqb-true, List.append-nil, List.length-append, Option.slice_get_within}
use Rattle.oat_verify.specs.{fails, passes, Edge, declared.verdict.Verdict.Verdict, Verdict.subject_of, Verdict.IsVerdict}
use Rattle.oat_owner.specs.{declared.device.Known.Known, declared.challenge.Challenge.Challenge, declared.owner.Answer.TheVariants.Accepted, declared.owner.Answer.TheVariants.Refused}
use Rattle.oat_owner.specs.{declared.call.OwnerCall.OwnerCall, declared.call.OwnerReply.OwnerReply, Frames.Delivery, Frames.IsAnswerFrame, Ledger.Ledger, Ledger.device_of, Ledger.number_to}
use Rattle.oat_owner.specs.{Ledger.spent_at, Replies.IsAnswerReply, Replies.challenge_session, Replies.judged, Laws.CallsGiveReplies, Laws.AcceptedOnce, Laws.AcceptedByVerdict, Laws.CallsGoOn}
use Rattle.oat_owner.specs.{Laws.AcceptedIsIssued, Exchanges.Exchange, Exchanges.IsReply, Exchanges.behind, Exchanges.CallByCall, Exchanges.issued_in, Exchanges.issued_by, Exchanges.accepts}
use Rattle.oat_owner.specs.{Exchanges.is_spent, Exchanges.marked, Exchanges.owner_behind, Exchanges.AreRepliesBehind, Exchanges.AreReplies}
use Rattle.oat_owner.proofs.{Answering.delivery_same, Tabling.asked_is}
use Rattle.oat_verify.specs.declared.verdict.Verdict.TheVariants as verdicts
use Rattle.oat_owner.specs.declared.call.OwnerCall.TheVariants as calls
use Rattle.oat_owner.specs.declared.call.OwnerReply.TheVariants as replies

-- ---- what an acceptance says

pub record Acceptance (l : Ledger) (frame : List ℕ) (number : ℕ) (path : List Edge) : Type 0 where
  pub delivery : Delivery
  pub is_frame : IsAnswerFrame frame delivery
  pub device : Known
  pub is_known : device_of l.known delivery.device ≡ Some device
  pub challenge : Challenge
  pub is_number : number_to l.challenges delivery.device delivery.nonce ≡ Some number
  pub is_at : slice_get l.challenges number ≡ Some challenge
  pub open_yet : challenge.spent ≡ false
  pub verdict : IsVerdict (subject_of device.shaped (challenge_session device challenge)) delivery.blob (verdicts.Accept path)

accepted_verdict : (n number : ℕ) (path : List Edge) (v : Verdict) → Accepted number path ≡ judged n v → (number ≡ n) × (v ≡ verdicts.Accept path)
accepted_verdict n number path (verdicts.Accept way) is =
    let one : number ≡ n = cc in
    let two : way ≡ path = cc in
    (one, ap verdicts.Accept two)
accepted_verdict n number path (verdicts.Refuse cause) is = absurd cc

pub accepted_so : (l : Ledger) (frame : List ℕ) (number : ℕ) (path : List Edge) → IsAnswerReply l frame (Accepted number path) → Acceptance l frame number path
accepted_so l frame number path (fails (offset, at, is)) = absurd cc
accepted_so l frame number path (passes d framed (fails (none, is))) = absurd cc
accepted_so l frame number path (passes d framed (passes k known (fails (none, is)))) = absurd cc
accepted_so l frame number path (passes d framed (passes k known (passes a asked (fails (spent, is))))) = absurd cc
accepted_so l frame number path (passes d framed (passes k known (passes a asked (passes u fresh (v, verdict, is))))) =
    let both = accepted_verdict a.number number path v is in
    record {
      delivery = d;
      is_frame = framed;
      device = k;
      is_known = known;
      challenge = a.challenge;
      is_number = asked.0 ∙ ap Some (sym both.0);
      is_at = ap (slice_get l.challenges) both.0 ∙ asked.1;
      open_yet = fresh;
      verdict = subst (λ (w : Verdict). IsVerdict (subject_of k.shaped (challenge_session k a.challenge)) d.blob w) both.1 verdict;
    }

-- ---- tests

or_true : (b : Bool) → (b || true) ≡ true
or_true true = refl
or_true false = refl

or_false : (b : Bool) → (b || false) ≡ b
or_false true = refl
or_false false = refl

-- ---- lists

any_more : {X : Type 0} (p : X → Bool) (xs : List X) (x : X) → list_any p (xs ++ x ∷ []) ≡ (list_any p xs || p x)
any_more p [] x = elim (cases_Bool (p x)) [
  | inl hits ↦ rw hits refl
  | inr misses ↦ rw misses refl
]
any_more p (y ∷ xs) x = elim (cases_Bool (p y)) [
  | inl hits ↦ rw hits refl
  | inr misses ↦ rw misses (any_more p xs x)
]

consed : {Y : Type 0} (o : Option Y) (all front back : List Y) → all ≡ front ++ back → cons_option o all ≡ cons_option o front ++ back
consed None all front back same = same
consed (Some z) all front back same = ap (λ zs. z ∷ zs) same

map_more : {X Y : Type 0} (f : X → Option Y) (xs : List X) (x : X) → filter_map f (xs ++ x ∷ []) ≡ filter_map f xs ++ cons_option (f x) []
map_more f [] x = refl
map_more f (y ∷ xs) x = consed (f y) (filter_map f (xs ++ x ∷ [])) (filter_map f xs) (cons_option (f x) []) (map_more f xs x)

-- ---- marks

marked_length : (spent : ℕ → Bool) (k : ℕ) (challenges : List Challenge) → length (marked spent k challenges) ≡ length challenges
marked_length spent k [] = refl
marked_length spent k (c ∷ challenges) = ap suc (marked_length spent (k + 1) challenges)

same_marks : (spent gone : ℕ → Bool) (k : ℕ) (challenges : List Challenge) → ((n : ℕ) → k ≤ n → spent n ≡ gone n) → marked spent k challenges ≡ marked gone k challenges
same_marks spent gone k [] same = refl
same_marks spent gone k (c ∷ challenges) same =
    ap (λ (b : Bool). record c { spent = b } ∷ marked spent (k + 1) challenges) (same k (omega arith))
    ∙ ap (λ (cs : List Challenge). record c { spent = gone k } ∷ cs) (same_marks spent gone (k + 1) challenges (λ n above. same n (omega arith)))

one_mark_more : (spent : ℕ → Bool) (k : ℕ) (challenges : List Challenge) (c : Challenge)
    → marked spent k (challenges ++ c ∷ []) ≡ marked spent k challenges ++ record c { spent = spent (k + length challenges) } ∷ []
one_mark_more spent k [] c = let none : k ≡ k + 0 = omega arith in ap (λ (n : ℕ). record c { spent = spent n } ∷ []) none
one_mark_more spent k (d ∷ challenges) c =
    let count : (k + 1) + length challenges ≡ k + suc (length challenges) = omega arith in
    ap (λ (cs : List Challenge). record d { spent = spent k } ∷ cs)
    (one_mark_more spent (k + 1) challenges c ∙ ap (λ (n : ℕ). marked spent (k + 1) challenges ++ record c { spent = spent n } ∷ []) count)

-- the mark of an item
marked_item : (spent : ℕ → Bool) (k : ℕ) (challenges : List Challenge) (n : ℕ) (c : Challenge) → slice_get (marked spent k challenges) n ≡ Some c
    → (d : Challenge) × (slice_get challenges n ≡ Some d) × (c ≡ record d { spent = spent (k + n) })
marked_item spent k [] n c at = absurd cc
marked_item spent k (d ∷ challenges) zero c at =
    let same : Path (Option Challenge) (Some (record d { spent = spent k })) (Some c) = at in
    let is : record d { spent = spent k } ≡ c = cc in
    let none : k ≡ k + 0 = omega arith in
    (d, refl, sym is ∙ ap (λ (n : ℕ). record d { spent = spent n }) none)
marked_item spent k (d ∷ challenges) (suc n) c at =
    let later = marked_item spent (k + 1) challenges n c at in
    let count : (k + 1) + n ≡ k + suc n = omega arith in
    (later.0, later.1, later.2 ∙ ap (λ (n : ℕ). record later.0 { spent = spent n }) count)

-- one number more is spent
mark_spent : (spent gone : ℕ → Bool) (k : ℕ) (challenges : List Challenge) (n : ℕ) → n < length challenges → ((m : ℕ) → gone m ≡ (spent m || ((k + n) == m)))
    → marked gone k challenges ≡ spent_at n (marked spent k challenges)
mark_spent spent gone k [] n within is = absurd (omega arith)
mark_spent spent gone k (c ∷ challenges) zero within is =
    let here : gone k ≡ true = is k ∙ ap (λ (b : Bool). spent k || b) (eq-eqb (k + 0) k (omega arith)) ∙ or_true (spent k) in
    ap (λ (b : Bool). record c { spent = b } ∷ marked gone (k + 1) challenges) here
    ∙ ap (λ (cs : List Challenge). record c { spent = true } ∷ cs)
    (same_marks gone spent (k + 1) challenges (λ n above. is n ∙ ap (λ (b : Bool). spent n || b) (ne_eqb (k + 0) n (λ same. omega (arith, above, same))) ∙ or_false (spent n)))
mark_spent spent gone k (c ∷ challenges) (suc n) within is =
    let here : gone k ≡ spent k = is k ∙ ap (λ (b : Bool). spent k || b) (ne_eqb (k + suc n) k (λ same. omega (arith, same))) ∙ or_false (spent k) in
    let count : k + suc n ≡ (k + 1) + n = omega arith in
    ap (λ (b : Bool). record c { spent = b } ∷ marked gone (k + 1) challenges) here
    ∙ ap (λ (cs : List Challenge). record c { spent = spent k } ∷ cs)
    (mark_spent spent gone (k + 1) challenges n (omega arith) (λ m. is m ∙ ap (λ (x : ℕ). spent m || (x == m)) count))

-- ---- one exchange more

abbrev one_of : OwnerCall → OwnerReply → Exchange
one_of call reply = record { call = call; reply = reply }

-- the numbers that were accepted are of issued challenges
abbrev Below : List Exchange → Type 0
Below earlier = (n : ℕ) → is_spent earlier n ≡ true → n < length (issued_by earlier)

issued_more : (earlier : List Exchange) (e : Exchange) → issued_by (earlier ++ e ∷ []) ≡ issued_by earlier ++ cons_option (issued_in e.call e.reply) []
issued_more earlier e = map_more (λ (x : Exchange). issued_in x.call x.reply) earlier e

spent_more : (earlier : List Exchange) (e : Exchange) (n : ℕ) → is_spent (earlier ++ e ∷ []) n ≡ (is_spent earlier n || accepts n e.reply)
spent_more earlier e n = any_more (λ (x : Exchange). accepts n x.reply) earlier e

module _ (known : List Known) (earlier : List Exchange) where
  abbrev before : Ledger
  before = owner_behind known earlier

  with_challenges : (e : Exchange) (challenges : List Challenge) → challenges ≡ marked (is_spent (earlier ++ e ∷ [])) 0 (issued_by (earlier ++ e ∷ []))
      → record before { challenges = challenges } ≡ owner_behind known (earlier ++ e ∷ [])
  with_challenges e challenges is = ap (λ (cs : List Challenge). record before { challenges = cs }) is

  -- nothing is issued, and nothing accepted
  unchanged : (e : Exchange) → issued_in e.call e.reply ≡ None → ((n : ℕ) → accepts n e.reply ≡ false) → before ≡ owner_behind known (earlier ++ e ∷ [])
  unchanged e none never =
      let more = λ (n : ℕ). is_spent (earlier ++ e ∷ []) n in
      let issued : issued_by (earlier ++ e ∷ []) ≡ issued_by earlier = issued_more earlier e ∙ ap (λ (o : Option Challenge). issued_by earlier ++ cons_option o []) none ∙ append-nil (issued_by earlier) in
      with_challenges e before.challenges
      (same_marks (is_spent earlier) more 0 (issued_by earlier) (λ n above. sym (spent_more earlier e n ∙ ap (λ (b : Bool). is_spent earlier n || b) (never n) ∙ or_false (is_spent earlier n)))
      ∙ ap (marked more 0) (sym issued))

  step : (call : OwnerCall) (reply : OwnerReply) → Below earlier → IsReply before call reply → behind before call reply ≡ owner_behind known (earlier ++ one_of call reply ∷ [])
  step (calls.Issue device op nonce) (replies.Issue (Ok i)) below is =
      let e = one_of (calls.Issue device op nonce) (replies.Issue (Ok i)) in
      let c : Challenge = record { device = device; op = op; nonce = nonce; spent = false } in
      let more = λ (n : ℕ). is_spent (earlier ++ e ∷ []) n in
      let unspent : is_spent earlier (0 + length (issued_by earlier)) ≡ false =
      elim (cases_Bool (is_spent earlier (0 + length (issued_by earlier)))) [
        | inl spent ↦ absurd (let within = below (0 + length (issued_by earlier)) spent in omega (arith, within))
        | inr unspent ↦ unspent
      ] in
      with_challenges e (before.challenges ++ c ∷ [])
      (ap (λ (b : Bool). before.challenges ++ record c { spent = b } ∷ []) (sym unspent)
      ∙ sym (one_mark_more (is_spent earlier) 0 (issued_by earlier) c)
      ∙ same_marks (is_spent earlier) more 0 (issued_by earlier ++ c ∷ []) (λ n above. sym (spent_more earlier e n ∙ or_false (is_spent earlier n)))
      ∙ ap (marked more 0) (sym (issued_more earlier e)))
  step (calls.Issue device op nonce) (replies.Issue (Err fault)) below is =
      unchanged (one_of (calls.Issue device op nonce) (replies.Issue (Err fault))) refl (λ n. refl)
  step (calls.Issue device op nonce) (replies.Answer a) below is = absurd is
  step (calls.Answer frame) (replies.Issue r) below is = absurd is
  step (calls.Answer frame) (replies.Answer (Accepted number path)) below is =
      let e = one_of (calls.Answer frame) (replies.Answer (Accepted number path)) in
      let more = λ (n : ℕ). is_spent (earlier ++ e ∷ []) n in
      let accepted = accepted_so before frame number path is in
      let within : number < length (issued_by earlier) = rw (marked_length (is_spent earlier) 0 (issued_by earlier)) at (slice_get_within before.challenges number accepted.challenge accepted.is_at) in
      let issued : issued_by (earlier ++ e ∷ []) ≡ issued_by earlier = issued_more earlier e ∙ append-nil (issued_by earlier) in
      let zero_more : number ≡ 0 + number = omega arith in
      with_challenges e (spent_at number before.challenges)
      (sym (mark_spent (is_spent earlier) more 0 (issued_by earlier) number within
      (λ n. spent_more earlier e n ∙ ap (λ (x : ℕ). is_spent earlier n || (x == n)) zero_more))
      ∙ ap (marked more 0) (sym issued))
  step (calls.Answer frame) (replies.Answer (Refused cause)) below is =
      unchanged (one_of (calls.Answer frame) (replies.Answer (Refused cause))) refl (λ n. refl)

  accepted_within : (call : OwnerCall) (reply : OwnerReply) (n : ℕ) → IsReply before call reply → accepts n reply ≡ true → n < length (issued_by earlier)
  accepted_within (calls.Issue device op nonce) (replies.Issue r) n is takes = absurd cc
  accepted_within (calls.Issue device op nonce) (replies.Answer a) n is takes = absurd is
  accepted_within (calls.Answer frame) (replies.Issue r) n is takes = absurd is
  accepted_within (calls.Answer frame) (replies.Answer (Accepted number path)) n is takes =
      let accepted = accepted_so before frame number path is in
      let within : number < length (issued_by earlier) = rw (marked_length (is_spent earlier) 0 (issued_by earlier)) at (slice_get_within before.challenges number accepted.challenge accepted.is_at) in
      let same = eqb-true number n takes in
      omega (arith, within, same)
  accepted_within (calls.Answer frame) (replies.Answer (Refused cause)) n is takes = absurd cc

  below_more : (e : Exchange) → Below earlier → IsReply before e.call e.reply → Below (earlier ++ e ∷ [])
  below_more e below is n spent =
      let parts : (is_spent earlier n || accepts n e.reply) ≡ true = sym (spent_more earlier e n) ∙ spent in
      let many = ap length (issued_more earlier e) in
      let sum = length-append (issued_by earlier) (cons_option (issued_in e.call e.reply) []) in
      elim (cases_Bool (is_spent earlier n)) [
        | inl was ↦ (let within = below n was in omega (arith, many, sum, within))
        | inr was_not ↦
            (let takes : accepts n e.reply ≡ true = rw was_not at parts in
            let within = accepted_within e.call e.reply n is takes in omega (arith, many, sum, within))
      ]

-- ---- all exchanges

gives : (known : List Known) (earlier exchanges : List Exchange) (l : Ledger) → Below earlier → CallByCall (owner_behind known earlier) exchanges l
    → AreRepliesBehind known earlier exchanges × (l ≡ owner_behind known (earlier ++ exchanges))
gives known earlier [] l below same = (tt, sym same ∙ ap (owner_behind known) (sym (append-nil earlier)))
gives known earlier (e ∷ exchanges) l below (is, rest) =
    let next = step known earlier e.call e.reply below is in
    let later = gives known (earlier ++ e ∷ []) exchanges l (below_more known earlier e below is) (subst (λ (m : Ledger). CallByCall m exchanges l) next rest) in
    ((is, later.0), later.1 ∙ ap (owner_behind known) (append_assoc earlier (e ∷ []) exchanges))

pub calls_give_replies : CallsGiveReplies
calls_give_replies known exchanges l is = gives known [] exchanges l (λ n spent. absurd cc) is

replied_at : (known : List Known) (earlier exchanges : List Exchange) (i : ℕ) (e : Exchange) → AreRepliesBehind known earlier exchanges → slice_get exchanges i ≡ Some e
    → IsReply (owner_behind known (earlier ++ take i exchanges)) e.call e.reply
replied_at known earlier [] i e are at = absurd cc
replied_at known earlier (d ∷ exchanges) zero e (is, rest) at =
    let both : Path (Option Exchange) (Some d) (Some e) = at in
    let same : d ≡ e = cc in
    subst (λ (x : Exchange). IsReply (owner_behind known (earlier ++ [])) x.call x.reply) same
    (subst (λ (es : List Exchange). IsReply (owner_behind known es) d.call d.reply) (sym (append-nil earlier)) is)
replied_at known earlier (d ∷ exchanges) (suc i) e (is, rest) at =
    subst (λ (es : List Exchange). IsReply (owner_behind known es) e.call e.reply) (append_assoc earlier (d ∷ []) (take i exchanges))
    (replied_at known (earlier ++ d ∷ []) exchanges i e rest at)

any_taken : {X : Type 0} (p : X → Bool) (xs : List X) (i j : ℕ) (x : X) → i < j → slice_get xs i ≡ Some x → p x ≡ true → list_any p (take j xs) ≡ true
any_taken p xs i zero x below at passes_it = absurd (omega arith)
any_taken p [] i (suc j) x below at passes_it = absurd cc
any_taken {X} p (y ∷ xs) zero (suc j) x below at passes_it =
    let both : Path (Option X) (Some y) (Some x) = at in
    let same : y ≡ x = cc in
    rw (same, passes_it) refl
any_taken p (y ∷ xs) (suc i) (suc j) x below at passes_it = rw (any_taken p xs i j x (omega arith) at passes_it) (or_true (p y))

abbrev pub accepting : List ℕ → ℕ → List Edge → Exchange
accepting frame number path = record { call = calls.Answer frame; reply = replies.Answer (Accepted number path) }

module _ (known : List Known) (exchanges : List Exchange) (are : AreReplies known exchanges) where
  accepted_at : (i number : ℕ) (frame : List ℕ) (path : List Edge) → slice_get exchanges i ≡ Some (accepting frame number path)
      → Acceptance (owner_behind known (take i exchanges)) frame number path
  accepted_at i number frame path at =
      accepted_so (owner_behind known (take i exchanges)) frame number path (replied_at known [] exchanges i (accepting frame number path) are at)

  not_again : (i j number : ℕ) (frame other : List ℕ) (path way : List Edge) → slice_get exchanges i ≡ Some (accepting frame number path)
      → slice_get exchanges j ≡ Some (accepting other number way) → i < j → ⊥
  not_again i j number frame other path way at there below =
      let later = accepted_at j number other way there in
      let item = marked_item (is_spent (take j exchanges)) 0 (issued_by (take j exchanges)) number later.challenge later.is_at in
      let spent : is_spent (take j exchanges) number ≡ true =
      any_taken (λ (e : Exchange). accepts number e.reply) exchanges i j (accepting frame number path) below at (eq-eqb number number refl) in
      let zero_more : 0 + number ≡ number = omega arith in
      let marked_so : later.challenge.spent ≡ true = ap (λ (c : Challenge). c.spent) item.2 ∙ ap (is_spent (take j exchanges)) zero_more ∙ spent in
      let bad : true ≡ false = sym marked_so ∙ later.open_yet in
      cc

pub accepted_once : AcceptedOnce
accepted_once known exchanges are i j number frame other path way at there =
    elim (cases_lt i j) [
      | inl below ↦ absurd (not_again known exchanges are i j number frame other path way at there below)
      | inr above ↦ elim (cases_lt j i) [
        | inl below ↦ absurd (not_again known exchanges are j i number other frame way path there at below)
        | inr same ↦ omega (arith, above, same)
      ]
    ]

pub accepted_by_verdict : AcceptedByVerdict
accepted_by_verdict known exchanges are i number frame path at =
    let a = accepted_at known exchanges are i number frame path at in
    let item = marked_item (is_spent (take i exchanges)) 0 (issued_by (take i exchanges)) number a.challenge a.is_at in
    let asked = asked_is (owner_behind known (take i exchanges)).challenges a.delivery.device a.delivery.nonce number a.challenge a.is_number a.is_at in
    let devices : a.delivery.device ≡ item.0.device = sym asked.1 ∙ ap (λ (c : Challenge). c.device) item.2 in
    let nonces : a.delivery.nonce ≡ item.0.nonce = asked.0 ∙ ap (λ (c : Challenge). c.nonce) item.2 in
    record {
      challenge = item.0;
      is_issued = item.1;
      device = a.device;
      is_known = ap (device_of known) (sym devices) ∙ a.is_known;
      blob = a.delivery.blob;
      is_brought = subst (IsAnswerFrame frame) (delivery_same a.delivery (record { device = item.0.device; nonce = item.0.nonce; blob = a.delivery.blob }) devices nonces refl) a.is_frame;
      verdict = subst (λ (c : Challenge). IsVerdict (subject_of a.device.shaped (challenge_session a.device c)) a.delivery.blob (verdicts.Accept path)) item.2 a.verdict;
    }

pub calls_go_on : CallsGoOn
calls_go_on l m [] e same is = subst (λ (k : Ledger). IsReply k e.call e.reply × (behind k e.call e.reply ≡ behind m e.call e.reply)) (sym same) (is, refl)
calls_go_on l m (d ∷ exchanges) e (first, rest) is = (first, calls_go_on (behind l d.call d.reply) m exchanges e rest is)

spent_length : (n : ℕ) (challenges : List Challenge) → length (spent_at n challenges) ≡ length challenges
spent_length n [] = refl
spent_length zero (c ∷ challenges) = refl
spent_length (suc n) (c ∷ challenges) = ap suc (spent_length n challenges)

pub accepted_is_issued : AcceptedIsIssued
accepted_is_issued l frame number path is =
    let accepted = accepted_so l frame number path is in
    let within = slice_get_within l.challenges number accepted.challenge accepted.is_at in
    rw (spent_length number l.challenges) within
