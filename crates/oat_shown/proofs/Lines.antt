-- What is left of the lines of blobs, where a piece of one is made, and where none is left.
use Rattle.std.proofs.Common.{◌≡◌, ◌∙◌, ◌<◌, ◌≤◌, ◌+◌, ◌++◌, ℕ, Bool, true, false, List, [], ◌∷◌, length, take, drop, get_or, length-drop, drop-cons, zero, suc, codes, refl, sym, ap, append_assoc}
use Rattle.std.proofs.Common.{arith}
use Rattle.std.specs.List.{flat_map, sum_by}
use Rattle.std.proofs.Math.Seq.{drop-append_seam}
use Rattle.std.proofs.lemmas.{List.take-append-drop, List.drop-drop, List.drop_all, List.length-take, List.Sums.sum_by-cons}
use Rattle.hex.specs.Hex.{encode_with, encode_lower}
use Rattle.oat_lines.proofs.LowerDigits.{digits_of_joined}
use Rattle.oat_shown.specs.BlobLine.{blob_line, line_left, lines_left, turns_of_lines}

-- what stands behind the next block
behind_block : (bytes : List ℕ) (at n : ℕ) → drop (length (take n (drop at bytes))) (drop at bytes) ≡ drop n (drop at bytes)
behind_block bytes at n =
    let block = take n (drop at bytes) in
    let rest = drop n (drop at bytes) in
    ap (λ (xs : List ℕ). drop (length block) xs) (sym (take-append-drop n (drop at bytes))) ∙ drop-append_seam block rest

digits_split : (bytes : List ℕ) (at n : ℕ)
    → encode_lower (drop at bytes) ≡ encode_lower (take n (drop at bytes)) ++ encode_lower (drop (at + length (take n (drop at bytes))) bytes)
digits_split bytes at n =
    let block = take n (drop at bytes) in
    let later : drop (at + length block) bytes ≡ drop n (drop at bytes) = sym (drop-drop (length block) at bytes) ∙ behind_block bytes at n in
    ap encode_lower (sym (take-append-drop n (drop at bytes)))
    ∙ (digits_of_joined block (drop n (drop at bytes))
    ∙ ap (λ (xs : List ℕ). encode_lower block ++ encode_lower xs) (sym later))

block_is_made : (bytes : List ℕ) (at n : ℕ)
    → line_left bytes true at ≡ encode_lower (take n (drop at bytes)) ++ line_left bytes true (at + length (take n (drop at bytes)))
block_is_made bytes at n =
    let block = take n (drop at bytes) in
    ap (λ (xs : List ℕ). xs ++ 10 ∷ []) (digits_split bytes at n)
    ∙ append_assoc (encode_lower block) (encode_lower (drop (at + length block) bytes)) (10 ∷ [])

nothing_left : (bytes : List ℕ) (at : ℕ) → length bytes ≤ at → encode_lower (drop at bytes) ≡ []
unfolding encode_with
nothing_left bytes at low = rw (drop_all at bytes low) refl

-- before any of it was made
pub lines_whole : (blobs : List (List ℕ)) → lines_left blobs false 0 ≡ flat_map blob_line blobs
lines_whole [] = refl
lines_whole (bytes ∷ others) = ap (λ (xs : List ℕ). xs ++ flat_map blob_line others) (sym (append_assoc (codes "blob ") (encode_lower bytes) (10 ∷ [])))

turns_whole : (blobs : List (List ℕ)) → turns_of_lines blobs false 0 ≡ sum_by (λ (blob : List ℕ). length blob + 2) blobs
turns_whole [] = refl
turns_whole (bytes ∷ others) =
    let all : sum_by (λ (blob : List ℕ). length blob + 2) (bytes ∷ others) ≡ (length bytes + 2) + sum_by (λ (blob : List ℕ). length blob + 2) others = sum_by-cons (λ (blob : List ℕ). length blob + 2) bytes others in
    omega (arith, all)

-- ---- the next piece, and that fewer turns are left

pub few_taken : (n : ℕ) (block rest : List ℕ) → block ≡ take n rest → length block ≤ n
few_taken n block rest is = let long = length-take n rest in rw is (omega (arith, long))

-- the first blob whose line isn't done
pub next_blob : (blobs : List (List ℕ)) (done : ℕ) (bytes : List ℕ) → done < length blobs → bytes ≡ get_or blobs done bytes → drop done blobs ≡ bytes ∷ drop (done + 1) blobs
next_blob blobs done bytes within is =
    let next : suc done ≡ done + 1 = omega arith in
    drop-cons blobs done bytes within
    ∙ (ap (λ (first : List ℕ). first ∷ drop (suc done) blobs) (sym is) ∙ ap (λ (n : ℕ). bytes ∷ drop n blobs) next)

pub blob_at : (blobs : List (List ℕ)) (done : ℕ) → done < length blobs → (bytes : List ℕ) × (bytes ≡ get_or blobs done bytes)
blob_at [] done within = absurd (omega arith)
blob_at (bytes ∷ others) zero within = (bytes, refl)
blob_at (bytes ∷ others) (suc done) within = blob_at others done (omega arith)

pub makes_keyword : (left others : List (List ℕ)) (bytes : List ℕ) (at : ℕ) (piece : List ℕ) → left ≡ bytes ∷ others → piece ≡ codes "blob "
    → (lines_left left false at ≡ piece ++ lines_left left true at) × (turns_of_lines left true at < turns_of_lines left false at)
makes_keyword left others bytes at piece next is =
    rw (next, is) (append_assoc (codes "blob ") (encode_lower (drop at bytes) ++ 10 ∷ []) (flat_map blob_line others), omega arith)

pub makes_block : (left others : List (List ℕ)) (bytes : List ℕ) (at : ℕ) (block digits : List ℕ) → left ≡ bytes ∷ others → at < length bytes
    → block ≡ take 32 (drop at bytes) → digits ≡ encode_lower block
    → (lines_left left true at ≡ digits ++ lines_left left true (at + length block)) × (turns_of_lines left true (at + length block) < turns_of_lines left true at)
makes_block left others bytes at block digits next within is made =
    let long = length-take 32 (drop at bytes) in
    let rest = length-drop at bytes in
    let piece = encode_lower (take 32 (drop at bytes)) in
    rw (next, made, is) (
      ap (λ (xs : List ℕ). xs ++ flat_map blob_line others) (block_is_made bytes at 32)
          ∙ append_assoc piece (line_left bytes true (at + length (take 32 (drop at bytes)))) (flat_map blob_line others),
      omega (arith, long, rest, within),
    )

pub makes_end : (left others : List (List ℕ)) (bytes : List ℕ) (at : ℕ) (piece : List ℕ) → left ≡ bytes ∷ others → length bytes ≤ at → piece ≡ 10 ∷ []
    → (lines_left left true at ≡ piece ++ lines_left others false 0) × (turns_of_lines others false 0 < turns_of_lines left true at)
makes_end left others bytes at piece next low is =
    let few = turns_whole others in
    rw (next, is, nothing_left bytes at low, lines_whole others) (refl, omega (arith, few))

pub makes_nothing : (blobs : List (List ℕ)) (done : ℕ) (is_begun : Bool) (at : ℕ) → length blobs ≤ done → lines_left (drop done blobs) is_begun at ≡ []
makes_nothing blobs done is_begun at low = rw (drop_all done blobs low) refl
