-- Where paths end among edges that lie one behind the other.
use Rattle.std.proofs.Common.{◌≡◌, ◌+◌, ℕ, Bool, true, false, cond, List, [], ◌∷◌, ◌++◌, length, ap, ◌∙◌, arith, append-nil}
use Rattle.oat_check.specs.{SourceEdge, End}
use Rattle.oat_meaning.specs.Recording.{ends_behind, ends_path}

ends_append : (n : ℕ) (xs ys : List SourceEdge) → ends_behind n (xs ++ ys) ≡ ends_behind n xs ++ ends_behind (n + length xs) ys
ends_append n [] ys = ap (λ m. ends_behind m ys) (let same : n ≡ n + 0 = omega arith in same)
ends_append n (x ∷ xs) ys = by (ends_path x) (ends_append (n + 1) xs ys ∙ ap (λ m. ends_behind (n + 1) xs ++ ends_behind m ys) (let same : n + 1 + length xs ≡ n + length (x ∷ xs) = omega arith in same)) where
  by : (b : Bool) → ends_behind (n + 1) (xs ++ ys) ≡ ends_behind (n + 1) xs ++ ends_behind (n + length (x ∷ xs)) ys
      → cond b ((n + 1) ∷ ends_behind (n + 1) (xs ++ ys)) (ends_behind (n + 1) (xs ++ ys))
      ≡ cond b ((n + 1) ∷ ends_behind (n + 1) xs) (ends_behind (n + 1) xs) ++ ends_behind (n + length (x ∷ xs)) ys
  by true more = ap (λ ends. (n + 1) ∷ ends) more
  by false more = more

pub edge_ends_nothing : (xs : List SourceEdge) (edge : SourceEdge) → ends_path edge ≡ false → ends_behind 0 (xs ++ edge ∷ []) ≡ ends_behind 0 xs
edge_ends_nothing xs edge goes_on =
    ends_append 0 xs (edge ∷ []) ∙ ap (λ b. ends_behind 0 xs ++ cond b ((0 + length xs + 1) ∷ []) []) goes_on ∙ append-nil (ends_behind 0 xs)

pub end_ends_path : (xs : List SourceEdge) (op : ℕ) → ends_behind 0 (xs ++ End op ∷ []) ≡ ends_behind 0 xs ++ (length xs + 1) ∷ []
end_ends_path xs op = ends_append 0 xs (End op ∷ []) ∙ ap (λ n. ends_behind 0 xs ++ (n + 1) ∷ []) (let same : 0 + length xs ≡ length xs = omega arith in same)
