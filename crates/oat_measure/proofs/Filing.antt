-- What a shelf keeps of its bodies: each stays what it is while more bits and targets come behind those that are there.
use Rattle.std.proofs.Common.{◌≡◌, ℕ, ◌+◌, ◌-◌, ◌≤◌, Bool, List, [], ◌∷◌, ◌++◌, length, map, take, drop, refl, ap, ◌∙◌, arith, length-append, length-drop}
use Rattle.std.specs.{Prelude.slice_range, List.All}
use Rattle.std.proofs.Math.Seq.{drop-append_seam}
use Rattle.std.proofs.lemmas.{List.take-append-le, List.drop-append-le, List.take_all, List.map_push, List.Elements.All-head, List.Elements.All-tail, List.Elements.All-weaker}
use Rattle.oat_measure.specs.{declared.shelf.Filed.Filed, BodyShelf.filed_body, BodyShelf.IsFiledIn}

map-agree : {X Y : Type 0} (f g : X → Y) (xs : List X) → All (λ x. f x ≡ g x) xs → map f xs ≡ map g xs
map-agree f g [] same = refl
map-agree f g (x ∷ xs) same =
    let first = All-head (λ x. f x ≡ g x) x xs same in
    let rest = map-agree f g xs (All-tail (λ x. f x ≡ g x) x xs same) in
    cc (first, rest)

part-append : {X : Type 0} (xs more : List X) (from to : ℕ) → from ≤ to → to ≤ length xs → slice_range (xs ++ more) from to ≡ slice_range xs from to
part-append xs more from to rises within =
    ap (λ rest. take (to - from) rest) (drop-append-le from xs more (omega arith))
    ∙ take-append-le (to - from) (drop from xs) more (omega (arith, length-drop from xs))

-- what was appended is the part behind what was there
part-behind : {X : Type 0} (xs more : List X) → slice_range (xs ++ more) (length xs) (length (xs ++ more)) ≡ more
part-behind xs more =
    ap (λ rest. take (length (xs ++ more) - length xs) rest) (drop-append_seam xs more)
    ∙ take_all (length (xs ++ more) - length xs) more (omega (arith, length-append xs more))

filed-append : (bits more_bits : List Bool) (targets more_targets : List ℕ) (filed : List Filed) → All (IsFiledIn (length bits) (length targets)) filed → map (filed_body (bits ++ more_bits) (targets ++ more_targets)) filed ≡ map (filed_body bits targets) filed
filed-append bits more_bits targets more_targets filed within =
    map-agree (filed_body (bits ++ more_bits) (targets ++ more_targets)) (filed_body bits targets) filed
    (All-weaker (IsFiledIn (length bits) (length targets)) (λ f. filed_body (bits ++ more_bits) (targets ++ more_targets) f ≡ filed_body bits targets f) same filed within)
  where
    same : (f : Filed) → IsFiledIn (length bits) (length targets) f → filed_body (bits ++ more_bits) (targets ++ more_targets) f ≡ filed_body bits targets f
    same f part =
        let bits_same = part-append bits more_bits f.bits.from f.bits.to part.bits_part.rises part.bits_part.within in
        let targets_same = part-append targets more_targets f.targets.from f.targets.to part.targets_part.rises part.targets_part.within in
        rw (bits_same, targets_same) refl

-- a body that is filed behind what is there is the one of what was appended
pub filed-push : (bits more_bits : List Bool) (targets more_targets : List ℕ) (filed : List Filed) (last : Filed)
    → All (IsFiledIn (length bits) (length targets)) filed
    → last.bits ≡ record { from = length bits; to = length (bits ++ more_bits) } → last.targets ≡ record { from = length targets; to = length (targets ++ more_targets) }
    → map (filed_body (bits ++ more_bits) (targets ++ more_targets)) (filed ++ last ∷ []) ≡ map (filed_body bits targets) filed ++ record { head = last.head; bits = more_bits; targets = more_targets } ∷ []
filed-push bits more_bits targets more_targets filed last within bits_part targets_part =
    let kept = filed-append bits more_bits targets more_targets filed within in
    let more_bits_part = part-behind bits more_bits in
    let more_targets_part = part-behind targets more_targets in
    map_push (filed_body (bits ++ more_bits) (targets ++ more_targets)) filed last
    ∙ rw (kept, bits_part, targets_part, more_bits_part, more_targets_part) refl
