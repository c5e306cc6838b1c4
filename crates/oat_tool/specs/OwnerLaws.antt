-- What the statuses of `owner` say of the defined outcome, and what the replies that are put are good for (docs/PROMISES.md).
use Rattle.std.specs.Prelude.{◌≡◌, ◌≢◌, ◌⊎◌, ℕ, List, [], ◌∷◌, ◌++◌, Some, Ok, take, slice_get}
use Rattle.oat_words.specs.Commands.{IsLine, files_of}
use Rattle.oat_room_attest.specs.{Contents, Adds, Edge, Outcome, starved, File, AreLoaded, PutsFront}
use Rattle.oat_room_owner.specs.{Known, Accepted, OwnerCall, challenge_session, Exchange, AreReplies, IsAcceptance, Script, script_of, Owner.AreEnrolled, Owner.replies_text, Owner.replied_calls}
use Rattle.oat_tool.specs.{Defined.Defined, CallLaws.OfCalls, Headline.HeadlineHolds}
use Rattle.oat_owner.specs.declared.call.OwnerCall.TheVariants as calls
use Rattle.oat_owner.specs.declared.call.OwnerReply.TheVariants as replies
use Rattle.oat_words.specs.declared.command.Command.TheVariants as commands

-- The words name a script, an owner of its devices replied to its calls but these last ones, and this is the text of the replies.
pub record IsReplied (words : List (List ℕ)) (contents : Contents) (later : List OwnerCall) (text : List ℕ) : Type 0 where
  pub file : File
  pub held : AreLoaded contents (files_of words commands.Owner) (file ∷ [])
  pub script : Script
  pub read : script_of file.text ≡ Ok script
  pub known : List Known
  pub enrolled : AreEnrolled contents script.devices known
  pub exchanges : List Exchange
  pub are : AreReplies known exchanges
  pub parted : script.calls ≡ replied_calls exchanges ++ later
  pub is : text ≡ replies_text known exchanges

abbrev pub OfScripts : (List (List ℕ) → Contents → Outcome → Type 0) → Type 0
OfScripts Claim =
    (words : List (List ℕ)) (contents : Contents) (o : Outcome) → IsLine words commands.Owner → Defined words contents o → Claim words contents o

-- With status 0 all calls were replied to.
abbrev pub ScriptIsServed : Type 0
ScriptIsServed = OfScripts (λ words contents o. o.status ≡ 0 → IsReplied words contents [] o.out × (o.err ≡ []))

-- With status 6 those before some call were.
abbrev pub WantIsBehindReplies : Type 0
WantIsBehindReplies = OfScripts (λ words contents o.
    o.status ≡ 6 → (later : List OwnerCall) × IsReplied words contents later o.out × (o.err ≡ starved.err))

-- Else the script or an image is refused, or isn't read, and no line is put.
abbrev pub RefusalComesFirst : Type 0
RefusalComesFirst = OfScripts (λ words contents o. o.status ≢ 0 → o.status ≢ 6 → (o.out ≡ []) × ((o.status ≡ 2) ⊎ (o.status ≡ 4)))

-- ---- calls

-- With status 0 the replies to all calls were put, whole.
abbrev pub ServedIsPut : Type 0
ServedIsPut = OfCalls (λ words contents files out err status.
    IsLine words commands.Owner → status ≡ 0 → (text : List ℕ) × IsReplied words contents [] text × Adds out.held text out.holds)

-- Whatever the status, what was put is nothing, or a front of replies to the script's calls.
abbrev pub RepliesArePut : Type 0
RepliesArePut = OfCalls (λ words contents files out err status. IsLine words commands.Owner
    → (out.holds ≡ out.held) ⊎ ((later : List OwnerCall) × (text : List ℕ) × IsReplied words contents later text × PutsFront text out.held out.holds))

-- ---- acceptances

-- This answer is accepted, for the challenge with this number.
abbrev pub accepting : (frame : List ℕ) → (number : ℕ) → (path : List Edge) → Exchange
accepting frame number path = record { call = calls.Answer frame; reply = replies.Answer (Accepted number path) }

-- No number is accepted twice, whatever was lost, repeated or reordered.
abbrev pub NumbersAreAcceptedOnce : Type 0
NumbersAreAcceptedOnce =
    (words : List (List ℕ)) (contents : Contents) (later : List OwnerCall) (text : List ℕ) (replied : IsReplied words contents later text)
    → (i j number : ℕ) (frame other : List ℕ) (path way : List Edge) → slice_get replied.exchanges i ≡ Some (accepting frame number path)
    → slice_get replied.exchanges j ≡ Some (accepting other number way) → i ≡ j

-- The verdict accepts a blob of the challenge's own device, operation and nonce, and the headline holds of it: each device run with this
-- blob followed the path, or its returns and the replay's clash.
pub record IsOfRuns (known : List Known) (earlier : List Exchange) (frame : List ℕ) (number : ℕ) (path : List Edge) : Type 0 where
  pub accepted : IsAcceptance known earlier frame number path
  pub headline : HeadlineHolds accepted.device.shaped (challenge_session accepted.device accepted.challenge) accepted.blob path

-- Each acceptance is so.
abbrev pub AcceptancesAreOfRuns : Type 0
AcceptancesAreOfRuns =
    (words : List (List ℕ)) (contents : Contents) (later : List OwnerCall) (text : List ℕ) (replied : IsReplied words contents later text)
    → (i number : ℕ) (frame : List ℕ) (path : List Edge) → slice_get replied.exchanges i ≡ Some (accepting frame number path)
    → IsOfRuns replied.known (take i replied.exchanges) frame number path
