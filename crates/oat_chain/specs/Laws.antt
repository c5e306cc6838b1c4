-- The lengths that tell a begin record from a link: a digest of FIPS 180-4's SHA-256 has 32 bytes, a
-- link 40 and a begin record 50. And what follows where different lists have one chain.
use Rattle.std.specs.{Prelude.◌≡◌, Prelude.◌≢◌, Prelude.◌<◌, Prelude.◌^◌, Prelude.ℕ, Prelude.List, Prelude.length, Prelude.Option, List.All}
use Rattle.sha2.specs.Sha256.{sha256}
use Rattle.oat_chain.specs.Chain.{window_head, chain, messages, DiffersAt}

abbrev pub DigestLength : Type 0
DigestLength = (message : List ℕ) → length (sha256 message) ≡ 32

abbrev pub ChainLength : Type 0
ChainLength = (head addresses : List ℕ) → length (chain head addresses) ≡ 32

abbrev pub HeadLength : Type 0
HeadLength = (nonce : List ℕ) (op : ℕ) (digest : List ℕ) (serial : Option ℕ) → length nonce ≡ 16 → length digest ≡ 32
    → length (window_head nonce op digest serial) ≡ 50

-- two different messages with one digest, at the first place from the ends where the lists' messages differ
pub record HasClash (head run replay : List ℕ) : Type 0 where
  pub first : List ℕ
  pub second : List ℕ
  pub place : DiffersAt (messages head run) (messages head replay) first second
  pub one_digest : sha256 first ≡ sha256 second

-- Different lists of addresses of 64 bits with one chain behind one begin record have a clash.
abbrev pub ClashExists : Type 0
ClashExists =
    (head run replay : List ℕ) → length head ≡ 50
    → All (λ address. address < 2 ^ 64) run → All (λ address. address < 2 ^ 64) replay
    → chain head run ≡ chain head replay → run ≢ replay → HasClash head run replay
