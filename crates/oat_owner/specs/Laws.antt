-- What an owner's replies are good for, in any order and number of calls.
use Rattle.std.specs.Prelude.{◌≡◌, ◌<◌, ◌^◌, ℕ, List, [], ◌∷◌, ◌++◌, length, slice_get, take, Some}
use Rattle.oat_verify.specs.{Edge, declared.verdict.Verdict.TheVariants.Accept, Verdict.subject_of, Verdict.IsVerdict, AreBytes}
use Rattle.oat_owner.specs.{declared.device.Known.Known, declared.challenge.Challenge.Challenge, declared.owner.Answer.TheVariants.Accepted, declared.call.OwnerCall.OwnerCall}
use Rattle.oat_owner.specs.{declared.call.OwnerReply.OwnerReply, Frames.Delivery, Frames.challenge_frame, Frames.IsAnswerFrame, Frames.IsFrameOffset, Ledger.Ledger, Ledger.device_of}
use Rattle.oat_owner.specs.{Replies.challenge_session, Replies.IsAnswerReply, Replies.behind_answer, Exchanges.Exchange, Exchanges.IsReply, Exchanges.behind, Exchanges.CallByCall, Exchanges.issued_by}
use Rattle.oat_owner.specs.{Exchanges.owner_behind, Exchanges.AreReplies}
use Rattle.oat_owner.specs.declared.call.OwnerCall.TheVariants as calls
use Rattle.oat_owner.specs.declared.call.OwnerReply.TheVariants as replies

-- What the clauses say call by call, of an owner that has issued nothing, is what the definition says of the whole list.
abbrev pub CallsGiveReplies : Type 0
CallsGiveReplies = (known : List Known) (exchanges : List Exchange) (l : Ledger) → CallByCall (owner_behind known []) exchanges l
    → AreReplies known exchanges × (l ≡ owner_behind known exchanges)

-- The calls and replies before it leave one reply.
abbrev pub OneReply : Type 0
OneReply = (l : Ledger) (call : OwnerCall) (one two : OwnerReply) → IsReply l call one → IsReply l call two → one ≡ two

-- No number is accepted twice.
abbrev pub AcceptedOnce : Type 0
AcceptedOnce = (known : List Known) (exchanges : List Exchange) → AreReplies known exchanges
    → (i j number : ℕ) (frame other : List ℕ) (path way : List Edge)
    → slice_get exchanges i ≡ Some (record { call = calls.Answer frame; reply = replies.Answer (Accepted number path) })
    → slice_get exchanges j ≡ Some (record { call = calls.Answer other; reply = replies.Answer (Accepted number way) }) → i ≡ j

-- An acceptance is the verdict's for the challenge's own device, operation and nonce: an earlier call issued the challenge, and the frame
-- brings its device, its nonce and a blob that the verdict accepts with this path.
pub record IsAcceptance (known : List Known) (earlier : List Exchange) (frame : List ℕ) (number : ℕ) (path : List Edge) : Type 0 where
  pub challenge : Challenge
  pub is_issued : slice_get (issued_by earlier) number ≡ Some challenge
  pub device : Known
  pub is_known : device_of known challenge.device ≡ Some device
  pub blob : List ℕ
  pub is_brought : IsAnswerFrame frame (record { device = challenge.device; nonce = challenge.nonce; blob = blob })
  pub verdict : IsVerdict (subject_of device.shaped (challenge_session device challenge)) blob (Accept path)

abbrev pub AcceptedByVerdict : Type 0
AcceptedByVerdict = (known : List Known) (exchanges : List Exchange) → AreReplies known exchanges
    → (i number : ℕ) (frame : List ℕ) (path : List Edge)
    → slice_get exchanges i ≡ Some (record { call = calls.Answer frame; reply = replies.Answer (Accepted number path) })
    → IsAcceptance known (take i exchanges) frame number path

-- One call more goes on from where the calls before it led.
abbrev pub CallsGoOn : Type 0
CallsGoOn = (l m : Ledger) (exchanges : List Exchange) (e : Exchange) → CallByCall l exchanges m → IsReply m e.call e.reply
    → CallByCall l (exchanges ++ e ∷ []) (behind m e.call e.reply)

-- The number of an acceptance is that of an issued challenge.
abbrev pub AcceptedIsIssued : Type 0
AcceptedIsIssued = (l : Ledger) (frame : List ℕ) (number : ℕ) (path : List Edge) → IsAnswerReply l frame (Accepted number path)
    → number < length (behind_answer l (Accepted number path)).challenges

-- ---- frames

-- A challenge frame has 27 bytes, and tells its device, operation and nonce.
abbrev pub ChallengeFramesTell : Type 0
ChallengeFramesTell = (device op other_device other_op : ℕ) (nonce other_nonce : List ℕ) → device < 2 ^ 32 → other_device < 2 ^ 32 → op < 2 ^ 16 → other_op < 2 ^ 16
    → AreBytes 16 nonce → AreBytes 16 other_nonce
    → (length (challenge_frame device op nonce) ≡ 27)
    × (challenge_frame device op nonce ≡ challenge_frame other_device other_op other_nonce → (device ≡ other_device) × (op ≡ other_op) × (nonce ≡ other_nonce))

-- Bytes are the frame of one answer at most.
abbrev pub AnswerFramesTell : Type 0
AnswerFramesTell = (bytes : List ℕ) (d e : Delivery) → IsAnswerFrame bytes d → IsAnswerFrame bytes e → d ≡ e

-- Bytes stop being an answer frame at one place.
abbrev pub OneFrameOffset : Type 0
OneFrameOffset = (bytes : List ℕ) (one two : ℕ) → IsFrameOffset bytes one → IsFrameOffset bytes two → one ≡ two
