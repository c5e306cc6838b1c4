-- Calls of an owner in any order and number: each reply is given by the calls and replies before it alone (docs/DEFINITIONS.md, "Owner's replies").
use Rattle.std.specs.{Prelude.◌≡◌, Prelude.ℕ, Prelude.◌+◌, Prelude.◌==◌, Prelude.Bool, Prelude.false, Prelude.List, Prelude.[], Prelude.◌∷◌, Prelude.◌++◌, Prelude.Option, Prelude.Some, Prelude.None}
use Rattle.std.specs.{Prelude.Ok, List.list_any, List.filter_map}
use Rattle.oat_owner.specs.{declared.device.Known.Known, declared.challenge.Challenge.Challenge, declared.owner.Answer.TheVariants.Accepted, declared.call.OwnerCall.OwnerCall}
use Rattle.oat_owner.specs.{declared.call.OwnerReply.OwnerReply, Ledger.Ledger, Replies.IsIssueReply, Replies.behind_issue, Replies.IsAnswerReply, Replies.behind_answer}
use Rattle.oat_owner.specs.declared.call.OwnerCall.TheVariants as calls
use Rattle.oat_owner.specs.declared.call.OwnerReply.TheVariants as replies

-- a call, and what was replied to it
pub record Exchange : Type 0 where
  pub call : OwnerCall
  pub reply : OwnerReply

-- ---- what is said call by call

abbrev pub IsReply : Ledger → OwnerCall → OwnerReply → Type 0
IsReply l (calls.Issue device op nonce) (replies.Issue r) = IsIssueReply l device op nonce r
IsReply l (calls.Answer frame) (replies.Answer a) = IsAnswerReply l frame a
IsReply l _ _ = ⊥

abbrev pub behind : Ledger → OwnerCall → OwnerReply → Ledger
behind l (calls.Issue device op nonce) (replies.Issue r) = behind_issue l device op nonce r
behind l (calls.Answer frame) (replies.Answer a) = behind_answer l a
behind l _ _ = l

-- from one owner to another by these calls, as the clauses of the calls say
abbrev pub CallByCall : Ledger → List Exchange → Ledger → Type 0
CallByCall l [] m = l ≡ m
CallByCall l (e ∷ exchanges) m = IsReply l e.call e.reply × CallByCall (behind l e.call e.reply) exchanges m

-- ---- what is said of the whole list

-- the challenge that is issued, if one is
abbrev pub issued_in : OwnerCall → OwnerReply → Option Challenge
issued_in (calls.Issue device op nonce) (replies.Issue (Ok i)) = Some (record { device = device; op = op; nonce = nonce; spent = false })
issued_in _ _ = None

-- the challenges that were issued, in order
abbrev pub issued_by : List Exchange → List Challenge
issued_by exchanges = filter_map (λ e. issued_in e.call e.reply) exchanges

-- an answer to the challenge with this number is accepted
abbrev pub accepts : ℕ → OwnerReply → Bool
accepts number (replies.Answer (Accepted accepted path)) = accepted == number
accepts number _ = false

-- an answer to the challenge with this number was accepted
abbrev pub is_spent : List Exchange → ℕ → Bool
is_spent exchanges number = list_any (λ e. accepts number e.reply) exchanges

-- the challenges from this number on, each spent where the test says so
abbrev pub marked : (ℕ → Bool) → ℕ → List Challenge → List Challenge
marked spent number [] = []
marked spent number (c ∷ challenges) = record c { spent = spent number } ∷ marked spent (number + 1) challenges

-- an owner of these devices behind these calls
abbrev pub owner_behind : List Known → List Exchange → Ledger
owner_behind known earlier = record { known = known; challenges = marked (is_spent earlier) 0 (issued_by earlier) }

-- each reply is the one that the calls and replies before it give
abbrev pub AreRepliesBehind : List Known → List Exchange → List Exchange → Type 0
AreRepliesBehind known earlier [] = Unit {0}
AreRepliesBehind known earlier (e ∷ exchanges) = IsReply (owner_behind known earlier) e.call e.reply × AreRepliesBehind known (earlier ++ e ∷ []) exchanges

abbrev pub AreReplies : List Known → List Exchange → Type 0
AreReplies known exchanges = AreRepliesBehind known [] exchanges
