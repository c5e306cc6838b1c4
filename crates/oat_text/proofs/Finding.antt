-- What is found by its name, where names are told apart.
use Rattle.std.proofs.Common.{◌≡◌, ℕ, zero, suc, ◌+◌, ◌<◌, Bool, true, false, not, List, [], ◌∷◌, ◌++◌, length, map, get_or, Some, refl, ap, ◌∙◌, arith}
use Rattle.std.specs.{Prelude.bytes_eq, Cmp.Lexicographic.nat_list_eq_equiv, List.AllByRecursion, List.IsDistinct, List.list_any, List.prefix_len}
use Rattle.std.proofs.lemmas.{Bool.lt-ltb, Slice.Eq.bytes_eq-Decides}
use Rattle.oat_lines.specs.Lines.{TextWord}
use Rattle.oat_text.specs.Bodies.{index_of}

pub same_bytes : (word : TextWord) → bytes_eq word word ≡ true
same_bytes word = (bytes_eq-Decides word word).1 refl

pub bytes_turned : (a b : TextWord) → bytes_eq a b ≡ bytes_eq b a
bytes_turned a b = nat_list_eq_equiv.symm a b

module _ {X : Type 0} (called : X → TextWord) where
  abbrev pub alike : X → X → Bool
  alike x y = bytes_eq (called x) (called y)

  -- unlike each of those before it
  abbrev pub none_before : X → List X → Bool
  none_before item items = list_any (λ other. bytes_eq (called item) (called other)) items

  head_apart : (x item : X) (xs rest : List X) → AllByRecursion (λ y. alike x y ≡ false) (xs ++ item ∷ rest) → alike item x ≡ false
  head_apart x item [] rest all = bytes_turned (called item) (called x) ∙ all.0
  head_apart x item (y ∷ ys) rest all = head_apart x item ys rest all.1

  pub fresh : (done : List X) (item : X) (rest : List X) → IsDistinct alike (done ++ item ∷ rest) → none_before item done ≡ false
  unfolding IsDistinct
  fresh [] item rest d = refl
  fresh (x ∷ xs) item rest d = rw (head_apart x item xs rest d.0, fresh xs item rest d.1) refl

  later_apart : (x d : X) (xs : List X) (i : ℕ) → AllByRecursion (λ y. alike x y ≡ false) xs → i < length xs → bytes_eq (get_or (map called xs) i []) (called x) ≡ false
  later_apart x d [] i all lt = absurd (omega arith)
  later_apart x d (y ∷ ys) zero all lt = bytes_turned (called y) (called x) ∙ all.0
  later_apart x d (y ∷ ys) (suc i) all lt = later_apart x d ys i all.1 (omega arith)

  first_place : (xs : List X) (i : ℕ) → IsDistinct alike xs → i < length xs → prefix_len (λ x. not (bytes_eq (get_or (map called xs) i []) (called x))) xs ≡ i
  unfolding IsDistinct
  first_place [] i d lt = absurd (omega arith)
  first_place (x ∷ xs) zero d lt = rw (same_bytes (called x)) refl
  first_place (x ∷ xs) (suc i) d lt =
      rw (later_apart x x xs i d.0 (omega arith)) (ap (λ n. 1 + n) (first_place xs i d.1 (omega arith)) ∙ omega arith)

  -- the name at a place has the number of the place
  pub found_at : (xs : List X) (i : ℕ) (word : TextWord) → IsDistinct alike xs → i < length xs → word ≡ get_or (map called xs) i [] → index_of called xs word ≡ Some i
  found_at xs i word d lt is = rw (is, first_place xs i d lt, lt-ltb i (length xs) lt) refl
