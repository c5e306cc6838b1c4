-- The labels of a program's functions and blocks are numbers, and distinct.
use Rattle.std.proofs.Common.{◌≡◌, ℕ, zero, suc, ◌+◌, ◌<◌, ◌≤◌, List, [], ◌∷◌, ◌++◌, length, take, ap, subst, Some, arith, inl, inr, length-append}
use Rattle.std.specs.{Prelude.Contains, Prelude.slice_get, Prelude.◌⊎◌, List.flat_map}
use Rattle.std.proofs.lemmas.{Bool.cases_lt, List.Elements.Contains-append_left, List.Elements.Contains-append_right, List.Elements.Contains-append_cases}
use Rattle.oat_parts.specs.Symbols.{AreDistinct, up_from, function_labels, block_labels, labels_from}
use Rattle.oat_parts.proofs.Lists.{not_in_none, first_in, later_in, cons_cases, distinct_join, map_length, up_from_in, in_up_from, up_from_distinct}
use Rattle.oat_check.specs.{Program, Func, BlockIr}
use Rattle.oat_symbols.specs.Programs.{block_names, symbols_from}

module _ (program : Program) where
  pub functions_labelled : (f n : ℕ) (funcs : List Func) (x : ℕ) → f ≤ x → x < f + length funcs → Contains (function_labels (symbols_from program f n funcs)) x
  functions_labelled f n [] x above below = absurd (omega arith)
  functions_labelled f n (g ∷ gs) x above below =
      let rest = function_labels (symbols_from program (f + 1) (n + length (block_names g)) gs) in
      elim (cases_lt f x) [
        | inl less ↦ later_in f rest x (functions_labelled (f + 1) (n + length (block_names g)) gs x (omega arith) (omega arith))
        | inr most ↦ let same : f ≡ x = omega arith in subst (Contains (f ∷ rest)) same (first_in f rest)
      ]

  pub blocks_labelled : (f n : ℕ) (funcs : List Func) (k b x : ℕ) (func : Func) → slice_get funcs k ≡ Some func → b < length func.blocks → x ≡ n + length (flat_map block_names (take k funcs)) + b
      → Contains (block_labels (symbols_from program f n funcs)) x
  blocks_labelled f n [] k b x func at within is = absurd cc
  blocks_labelled f n (g ∷ gs) zero b x func at within is =
      let same : func ≡ g = cc in
      let many : length func.blocks ≡ length g.blocks = ap (λ (h : Func). length h.blocks) same in
      let named = map_length (λ (c : BlockIr). c.label) g.blocks in
      Contains-append_left (up_from n (length (block_names g))) (block_labels (symbols_from program (f + 1) (n + length (block_names g)) gs)) x (in_up_from n (length (block_names g)) x (omega arith) (omega arith))
  blocks_labelled f n (g ∷ gs) (suc k) b x func at within is =
      let more = length-append (block_names g) (flat_map block_names (take k gs)) in
      Contains-append_right (up_from n (length (block_names g))) (block_labels (symbols_from program (f + 1) (n + length (block_names g)) gs)) x
      (blocks_labelled (f + 1) (n + length (block_names g)) gs k b x func at within (omega arith))

  -- which labels there are
  labels_are : (f n : ℕ) (funcs : List Func) (x : ℕ) → Contains (labels_from (symbols_from program f n funcs)) x → ((f ≤ x) × (x < f + length funcs)) ⊎ (n ≤ x)
  labels_are f n [] x has = absurd (not_in_none x has)
  labels_are f n (g ∷ gs) x has =
      let own = up_from n (length (block_names g)) in
      let rest = labels_from (symbols_from program (f + 1) (n + length (block_names g)) gs) in
      elim (cons_cases f (own ++ rest) x has) [
        | inl same ↦ inl (omega arith, omega arith)
        | inr behind ↦ elim (Contains-append_cases own rest x behind) [
          | inl here ↦ let r = up_from_in n (length (block_names g)) x here in inr r.0
          | inr later ↦ elim (labels_are (f + 1) (n + length (block_names g)) gs x later) [
            | inl r ↦ let a = r.0 in let b = r.1 in inl (omega arith, omega arith)
            | inr r ↦ inr (omega arith)
          ]
        ]
      ]

  pub labels_distinct : (f n : ℕ) (funcs : List Func) → f + length funcs ≤ n → AreDistinct (labels_from (symbols_from program f n funcs))
  labels_distinct f n [] fits = tt
  labels_distinct f n (g ∷ gs) fits =
      let own = up_from n (length (block_names g)) in
      let rest = labels_from (symbols_from program (f + 1) (n + length (block_names g)) gs) in
      let kinds = λ (x : ℕ) (has : Contains rest x). labels_are (f + 1) (n + length (block_names g)) gs x has in (
        λ has. elim (Contains-append_cases own rest f has) [
          | inl h ↦ let r = up_from_in n (length (block_names g)) f h in let a = r.0 in absurd (omega arith)
          | inr h ↦ elim (kinds f h) [
            | inl r ↦ let a = r.0 in absurd (omega arith)
            | inr r ↦ absurd (omega arith)
          ]
        ],
        distinct_join own rest (up_from_distinct n (length (block_names g))) (labels_distinct (f + 1) (n + length (block_names g)) gs (omega arith)) (λ x h also.
            let r = up_from_in n (length (block_names g)) x h in
            let a = r.0 in
            let b = r.1 in
            elim (kinds x also) [
              | inl s ↦ let c = s.1 in absurd (omega arith)
              | inr s ↦ absurd (omega arith)
            ]),
      )
