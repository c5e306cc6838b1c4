-- Reading items one after the other, as a loop does.
use Rattle.std.proofs.Common.{◌≡◌, ℕ, suc, ◌-◌, ◌+◌, ◌≤◌, ◌<◌, List, [], ◌∷◌, ◌++◌, Option, Result, Ok, Err, refl, sym, ap, ◌∙◌, append_assoc, arith}
use Rattle.std.proofs.lemmas.List.{append-nil}
use Rattle.oat_lines.specs.{declared.fault.Fault.Fault, Faults.Fails, Reading.◌>>=◌}
use Rattle.oat_lines.proofs.Steps.{fails_as}
use Rattle.oat_image.specs.{declared.fault.ImageFaultKind.ImageFaultKind, Reading.Remainder, Reading.item_at, Reading.items_at}

-- what was read before, and what is still read
abbrev pub with_front : {X : Type 0} → List X → Result (List X × Remainder) (Fault ImageFaultKind) → Result (List X × Remainder) (Fault ImageFaultKind)
with_front front read = read >>= λ x. Ok (front ++ x.0, x.1)

regroup : {X : Type 0} (front : List X) (n : X) (read : Result (List X × Remainder) (Fault ImageFaultKind)) → with_front front (read >>= λ x. Ok (n ∷ x.0, x.1)) ≡ with_front (front ++ n ∷ []) read
regroup {X = X} front n (Ok x) = ap (λ (ns : List X). Ok (ns, x.1)) (simp append_assoc)
regroup front n (Err f) = refl

module _ {X : Type 0} (reads : List ℕ → Result X ImageFaultKind) (key : X → Option ℕ) where
  pub goes_on : (front : List X) (count i : ℕ) (last : Option ℕ) (t : Remainder) (n : X) (after : Remainder) (total : Result (List X × Remainder) (Fault ImageFaultKind)) → i < count → item_at reads key last t ≡ Ok (n, after)
      → with_front front (items_at reads key (count - i) last t) ≡ total → with_front (front ++ n ∷ []) (items_at reads key (count - (i + 1)) (key n) after) ≡ total
  unfolding items_at
  goes_on front count i last t n after total lt h so_far =
      let k : count - i ≡ suc (count - (i + 1)) = omega arith in
      let one : with_front front (items_at reads key (count - i) last t) ≡ with_front (front ++ n ∷ []) (items_at reads key (count - (i + 1)) (key n) after) = rw (k, h) (regroup front n (items_at reads key (count - (i + 1)) (key n) after)) in
      sym one ∙ so_far

  ends_with : (e : Fault ImageFaultKind) (front : List X) (count i : ℕ) (last : Option ℕ) (t : Remainder) (total : Result (List X × Remainder) (Fault ImageFaultKind)) → i < count → item_at reads key last t ≡ Err e
      → with_front front (items_at reads key (count - i) last t) ≡ total → total ≡ Err e
  unfolding items_at
  ends_with e front count i last t total lt h so_far =
      let k : count - i ≡ suc (count - (i + 1)) = omega arith in
      let one : with_front front (items_at reads key (count - i) last t) ≡ Err e = rw (k, h) refl in
      sym so_far ∙ one

  pub ends : (e : Fault ImageFaultKind) (front : List X) (count i : ℕ) (last : Option ℕ) (t : Remainder) (total : Result (List X × Remainder) (Fault ImageFaultKind)) → i < count → Fails e (item_at reads key last t)
      → with_front front (items_at reads key (count - i) last t) ≡ total → Fails e total
  ends e front count i last t total lt h so_far = fails_as e (item_at reads key last t) total (λ f is. ends_with f front count i last t total lt is so_far) h

  pub is_done : (front : List X) (count i : ℕ) (last : Option ℕ) (t : Remainder) (total : Result (List X × Remainder) (Fault ImageFaultKind)) → count ≤ i → with_front front (items_at reads key (count - i) last t) ≡ total → total ≡ Ok (front, t)
  unfolding items_at
  is_done front count i last t total le so_far =
      let k : count - i ≡ 0 = omega arith in
      let one : with_front front (items_at reads key (count - i) last t) ≡ Ok (front, t) = rw k (ap (λ (ns : List X). Ok (ns, t)) (append-nil front)) in
      sym so_far ∙ one
