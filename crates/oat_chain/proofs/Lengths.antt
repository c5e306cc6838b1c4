-- Lengths of digests, chains and begin records.
use Rattle.std.proofs.Common.{◌≡◌, ℕ, List, [], ◌∷◌, ◌++◌, length, Option, Some, None, refl, arith, length-append}
use Rattle.std.specs.{Int.w16, Int.w32, Int.to_be_bytes, List.fold}
use Rattle.sha2.specs.Sha256.{sha256}
use Rattle.sha2.proofs.Facts256.{length-sha256}
use Rattle.oat_chain.specs.{Chain.begin_record, Chain.window_digest, Chain.chain, Chain.link, Laws.HeadLength, Laws.ChainLength, Laws.DigestLength}

pub length-digest : DigestLength
length-digest message = length-sha256 message

length-fold : (before addresses : List ℕ) → length before ≡ 32 → length (fold (λ h a. sha256 (link h a)) before addresses) ≡ 32
length-fold before [] here = here
length-fold before (a ∷ addresses) here = length-fold (sha256 (link before a)) addresses (length-sha256 (link before a))

pub length-chain : ChainLength
unfolding chain
length-chain head addresses = length-fold (sha256 head) addresses (length-sha256 head)

length-begin_record : (nonce : List ℕ) (op : ℕ) (digest : List ℕ) → length nonce ≡ 16 → length digest ≡ 32 → length (begin_record nonce op digest) ≡ 50
length-begin_record nonce op digest of_nonce of_digest =
    let number : length (to_be_bytes w16 op) ≡ 2 = refl in
    let both = length-append (to_be_bytes w16 op) digest in
    let whole = length-append nonce (to_be_bytes w16 op ++ digest) in
    omega arith

pub length-window_head : HeadLength
length-window_head nonce op digest None of_nonce of_digest = length-begin_record nonce op digest of_nonce of_digest
length-window_head nonce op digest (Some serial) of_nonce of_digest =
    length-begin_record nonce op (window_digest digest (Some serial)) of_nonce (length-sha256 (digest ++ to_be_bytes w32 serial))

fold-push : (before addresses : List ℕ) (a : ℕ) → fold (λ h b. sha256 (link h b)) before (addresses ++ a ∷ []) ≡ sha256 (link (fold (λ h b. sha256 (link h b)) before addresses) a)
fold-push before [] a = refl
fold-push before (b ∷ addresses) a = fold-push (sha256 (link before b)) addresses a

pub chain-push : (head addresses : List ℕ) (a : ℕ) → chain head (addresses ++ a ∷ []) ≡ sha256 (link (chain head addresses) a)
unfolding chain
chain-push head addresses a = fold-push (sha256 head) addresses a
