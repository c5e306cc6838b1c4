-- The clash of two lists of returns: the bytes of its messages, and what is known of it while both lists come in from their fronts (docs/DEFINITIONS.md, "Clash").
use Rattle.std.specs.Prelude.{◌≡◌, ◌<◌, ℕ, List, [], ◌∷◌, ◌++◌, Option, Some, None, length}
use Rattle.sha2.specs.Sha256.{sha256}
use Rattle.oat_chain.specs.{declared.message.Message.Message, declared.message.Message.TheVariants.Begin, declared.message.Message.TheVariants.Link, declared.message.Clash.Clash, Chain.chain}
use Rattle.oat_chain.specs.{Chain.messages, Chain.DiffersAt}

abbrev pub bytes_of : Message → List ℕ
bytes_of (Begin bytes) = bytes
bytes_of (Link bytes) = bytes

-- The clash of two lists so far: where their chains are equal, its messages have one digest.
pub record LastDiffers (head run replay first second : List ℕ) : Type 0 where
  pub place : DiffersAt (messages head run) (messages head replay) first second
  pub one_digest : chain head run ≡ chain head replay → sha256 first ≡ sha256 second

-- without a clash the messages are equal
abbrev pub IsLastClash : List ℕ → List ℕ → List ℕ → Option Clash → Type 0
IsLastClash head run replay None = messages head run ≡ messages head replay
IsLastClash head run replay (Some clash) = LastDiffers head run replay (bytes_of clash.first) (bytes_of clash.second)

-- the last of the messages; all but the begin record have 40 bytes
pub record IsLastMessage (head addresses last : List ℕ) : Type 0 where
  pub front : List (List ℕ)
  pub whole : messages head addresses ≡ front ++ last ∷ []
  pub digest : chain head addresses ≡ sha256 last
  pub long : 0 < length addresses → length last ≡ 40
  pub alone : length addresses ≡ 0 → last ≡ head
