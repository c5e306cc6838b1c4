-- The begin record, the return chain and the messages that it hashes: docs/FORMATS.md, over the
-- SHA-256 of FIPS 180-4. Numbers stand with the high byte first.
use Rattle.std.specs.{Prelude.◌≡◌, Prelude.◌≢◌, Prelude.ℕ, Prelude.List, Prelude.[], Prelude.◌∷◌, Prelude.◌++◌, Prelude.Option, Prelude.Some, Prelude.None, Int.w16, Int.w32, Int.w64, Int.to_be_bytes}
use Rattle.std.specs.{List.fold}
use Rattle.sha2.specs.Sha256.{sha256}

-- a nonce, the number of an operation, and a digest
abbrev pub begin_record : List ℕ → ℕ → List ℕ → List ℕ
begin_record nonce op digest = nonce ++ (to_be_bytes w16 op ++ digest)

-- the digest in a window's begin record: that of the image, or where the windows of a session are numbered, the one of it and the window's number
abbrev pub window_digest : List ℕ → Option ℕ → List ℕ
window_digest digest None = digest
window_digest digest (Some serial) = sha256 (digest ++ to_be_bytes w32 serial)

-- what a window begins with
abbrev pub window_head : List ℕ → ℕ → List ℕ → Option ℕ → List ℕ
window_head nonce op digest serial = begin_record nonce op (window_digest digest serial)

-- the chain so far, and the address of one return behind it
abbrev pub link : List ℕ → ℕ → List ℕ
link before address = before ++ to_be_bytes w64 address

-- the chain of a list of returned addresses: the begin record's digest, then the digest of each
-- link in turn
unfoldable pub chain : List ℕ → List ℕ → List ℕ
chain head addresses = fold (λ before address. sha256 (link before address)) (sha256 head) addresses

-- the links of a list of addresses, behind the chain so far
unfoldable pub links_from : List ℕ → List ℕ → List (List ℕ)
links_from before [] = []
links_from before (address ∷ addresses) = link before address ∷ links_from (sha256 (link before address)) addresses

-- the chained messages: the begin record, then the link of each address
unfoldable pub messages : List ℕ → List ℕ → List (List ℕ)
messages head addresses = head ∷ links_from (sha256 head) addresses

-- the clash of two lists of messages: the first place, counted from their ends, where they differ
pub record DiffersAt (run replay : List (List ℕ)) (first second : List ℕ) : Type 0 where
  pub run_front : List (List ℕ)
  pub replay_front : List (List ℕ)
  pub same_end : List (List ℕ)
  pub run_is : run ≡ run_front ++ first ∷ same_end
  pub replay_is : replay ≡ replay_front ++ second ∷ same_end
  pub differ : first ≢ second
