-- How a block is filled with zeros, and how it is masked byte by byte.
use Rattle.std.proofs.Common.{◌≡◌, ℕ, ◌+◌, ◌-◌, ◌<◌, List, [], ◌∷◌, ◌++◌, length, map, take, drop, set, get_or, replicate, refl, ◌∙◌, arith, length-take, append_assoc}
use Rattle.std.proofs.lemmas.List.{drop-replicate, take_more, drop_more, set_at, get_or_at, map-append, length-map}

-- a text over the front of n zeros
pub filled_block : (copied key : List ℕ) (n : ℕ) → copied ≡ key → copied ++ drop (length key) (replicate n 0) ≡ key ++ replicate (n - length key) 0
filled_block copied key n same = rw (same, drop-replicate {X = ℕ} (length key) n 0) refl

-- f has been applied to the items before i; now it is applied at i
pub map_one_more : (f : ℕ → ℕ) (block : List ℕ) (i : ℕ) → i < length block → set (map f (take i block) ++ drop i block) i (f (get_or (map f (take i block) ++ drop i block) i 0)) ≡ map f (take (i + 1) block) ++ drop (i + 1) block
map_one_more f block i below =
    let front = map f (take i block) in
    let here = get_or block i 0 in
    let after = drop (i + 1) block in
    let count : length front ≡ i = length-map (take i block) f ∙ (length-take i block ∙ omega arith) in
    rw (drop_more block i 0 below, get_or_at front here after 0 i count, set_at front here after (f here) i count, take_more block i 0 below, map-append f (take i block) (here ∷ []), append_assoc front (f here ∷ []) after) refl
