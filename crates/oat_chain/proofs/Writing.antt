-- A message that is written part by part, from its front on.
use borrow.Rule.Slice.PartMut.{put_mid}
use Rattle.std.proofs.Common.{◌≡◌, ℕ, ◌+◌, List, [], ◌++◌, length, take, drop, refl, ap, sym, ◌∙◌, arith, length-append, length-drop, append_assoc}
use Rattle.std.proofs.lemmas.List.{drop-drop, drop_at, take_at, append-nil, nil_from_length}

-- the parts so far are the front, and the rest is to be written
pub record Written (message front rest : List ℕ) : Type 0 where
  pub is : message ≡ front ++ rest

pub begun : (message : List ℕ) → Written message [] message
begun message = record { is = refl }

pub written_next : (before after front rest part : List ℕ) (at : ℕ) → length front ≡ at → Written before front rest → after ≡ take at before ++ (part ++ drop (at + length part) before) → Written after (front ++ part) (drop (length part) rest)
written_next before after front rest part at here so_far now =
    let kept : take at before ≡ front = ap (take at) so_far.is ∙ take_at front rest at here in
    let left : drop (at + length part) before ≡ drop (length part) rest =
    sym (drop-drop (length part) at before) ∙ ap (λ xs. drop (length part) xs) (ap (drop at) so_far.is ∙ drop_at front rest at here) in
    record { is = now ∙ (rw (kept, left) (sym (append_assoc front part (drop (length part) rest)))) }

-- nothing is left
pub written_whole : (message front rest : List ℕ) → Written message front rest → length message ≡ length front → message ≡ front
written_whole message front rest whole same =
    let both = length-append front rest in
    let count : length rest ≡ 0 = omega (arith, ap length whole.is) in
    whole.is ∙ (rw (nil_from_length rest count) (append-nil front))

-- a part that fills what is left
pub put_behind : (front zeros part : List ℕ) (n k : ℕ) → length front ≡ n → length zeros ≡ k → put_mid n k (front ++ zeros) part ≡ front ++ part
put_behind front zeros part n k here left =
    let gone : drop k zeros ≡ [] = nil_from_length (drop k zeros) (omega (arith, length-drop k zeros)) in
    ap (λ (xs : List ℕ). xs ++ (part ++ drop k (drop n (front ++ zeros)))) (take_at front zeros n here)
    ∙ ap (λ (xs : List ℕ). front ++ (part ++ drop k xs)) (drop_at front zeros n here)
    ∙ ap (λ (xs : List ℕ). front ++ (part ++ xs)) gone
    ∙ ap (λ (xs : List ℕ). front ++ xs) (append-nil part)
