-- Going over the lines of a text, as a loop does.
use Rattle.std.proofs.Common.{◌≡◌, ℕ, ◌+◌, ◌<◌, ◌≤◌, Bool, true, false, List, [], ◌∷◌, length, Ok, Err, refl, sym, ap, ◌∙◌, arith}
use Rattle.std.specs.Prelude.{if◌then◌else◌}
use Rattle.oat_lines.specs.{declared.fault.Fault.Fault, Faults.Fails, Lines.TextWord, Lines.lines_of, Lines.words_of, Lines.is_skipped}
use Rattle.oat_lines.proofs.Steps.{ok_is, fails_as}
use Rattle.oat_text.specs.{declared.fault.TextFaultKind.TextFaultKind, Passes.OrFault, Passes.numbered, Passes.each, Passes.over}

module _ {S X : Type 0} (takes : S → X → OrFault S) where
  pub each_next : (s t : S) (x : X) (rest xs : List X) (total : OrFault S) → takes s x ≡ Ok t → rest ≡ x ∷ xs
      → each takes s rest ≡ total → each takes t xs ≡ total
  unfolding each
  each_next s t x rest xs total took cut so_far =
      let one : each takes s rest ≡ each takes t xs = rw (cut, took) refl in
      sym one ∙ so_far

  pub each_stops : (s : S) (x : X) (rest xs : List X) (total : OrFault S) (fault : Fault TextFaultKind) → Fails fault (takes s x) → rest ≡ x ∷ xs
      → each takes s rest ≡ total → Fails fault total
  unfolding each
  each_stops s x rest xs total fault bad cut so_far =
      fails_as fault (takes s x) total (λ f is. let one : each takes s rest ≡ Err f = rw (cut, is) refl in sym so_far ∙ one) bad

  pub each_done : (s : S) (rest : List X) (total : OrFault S) → rest ≡ [] → each takes s rest ≡ total → total ≡ Ok s
  unfolding each
  each_done s rest total none so_far = let one : each takes s rest ≡ Ok s = rw none refl in sym so_far ∙ one

module _ {S : Type 0} (takes : ℕ → S → List TextWord → OrFault S) where
  -- what a line gives, counted or not
  abbrev pub taken : ℕ → S → List ℕ → OrFault S
  taken n s line = if is_skipped (words_of line) then Ok s else takes n s (words_of line)

  -- what is left to take gives what the text gives
  pub record Goes (start : S) (text rest : List ℕ) (number : ℕ) (s : S) : Type 0 where
    pub so_far : over takes s (numbered number (lines_of rest)) ≡ over takes start (numbered 1 (lines_of text))
    pub lines : number + length (lines_of rest) ≡ 1 + length (lines_of text)
    pub fits : number + length rest ≤ 1048577

  pub one_line : (n : ℕ) (s t : S) (line : List ℕ) (lines : List (List ℕ)) → taken n s line ≡ Ok t
      → over takes s (numbered n (line ∷ lines)) ≡ over takes t (numbered (n + 1) lines)
  unfolding each numbered
  one_line n s t line lines = by (is_skipped (words_of line))
    where
      by : (skipped : Bool) → (if skipped then Ok s else takes n s (words_of line)) ≡ Ok t
          → over takes s (if skipped then numbered (n + 1) lines else ((n, words_of line) ∷ numbered (n + 1) lines)) ≡ over takes t (numbered (n + 1) lines)
      by true took = ap (λ (u : S). over takes u (numbered (n + 1) lines)) (ok_is s t took)
      by false took = rw took refl

  pub bad_line : (n : ℕ) (s : S) (f : Fault TextFaultKind) (line : List ℕ) (lines : List (List ℕ)) → taken n s line ≡ Err f
      → over takes s (numbered n (line ∷ lines)) ≡ Err f
  unfolding each numbered
  bad_line n s f line lines = by (is_skipped (words_of line))
    where
      by : (skipped : Bool) → (if skipped then Ok s else takes n s (words_of line)) ≡ Err f
          → over takes s (if skipped then numbered (n + 1) lines else ((n, words_of line) ∷ numbered (n + 1) lines)) ≡ Err f
      by true bad = absurd cc
      by false bad = rw bad refl

  pub next_line : (start s t : S) (text rest line after : List ℕ) (n : ℕ) → lines_of rest ≡ line ∷ lines_of after → length after < length rest
      → taken n s line ≡ Ok t → Goes start text rest n s → Goes start text after (n + 1) t
  next_line start s t text rest line after n cut shorter took goes =
      let lines : n + length (line ∷ lines_of after) ≡ 1 + length (lines_of text) = rw cut at goes.lines in
      let fits = goes.fits in
      record {
        so_far = sym (one_line n s t line (lines_of after) took) ∙ rw cut at goes.so_far;
        lines = omega arith;
        fits = omega arith;
      }

  pub stops : (start s : S) (text rest line after : List ℕ) (n : ℕ) (fault : Fault TextFaultKind) → lines_of rest ≡ line ∷ lines_of after
      → Fails fault (taken n s line) → Goes start text rest n s → Fails fault (over takes start (numbered 1 (lines_of text)))
  stops start s text rest line after n fault cut bad goes =
      let total = over takes start (numbered 1 (lines_of text)) in
      let so_far : over takes s (numbered n (line ∷ lines_of after)) ≡ total = rw cut at goes.so_far in
      fails_as fault (taken n s line) total (λ e is. sym so_far ∙ bad_line n s e line (lines_of after) is) bad

  pub ended : (start s : S) (text rest : List ℕ) (n : ℕ) → length rest ≡ 0 → Goes start text rest n s
      → (over takes start (numbered 1 (lines_of text)) ≡ Ok s) × (n ≡ 1 + length (lines_of text))
  unfolding each numbered lines_of
  ended start s text [] n none goes = (sym goes.so_far, let lines = goes.lines in omega arith)
  ended start s text (b ∷ bs) n none goes = absurd (omega arith)
