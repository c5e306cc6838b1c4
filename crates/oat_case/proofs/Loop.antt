-- Reading line by line, as a loop does.
use Rattle.std.proofs.Common.{◌≡◌, ℕ, ◌+◌, ◌≤◌, List, [], ◌∷◌, length, Result, Ok, Err, refl, sym, ◌∙◌, arith}
use Rattle.oat_lines.specs.{Lines.lines_of, Lines.words_of, declared.fault.Fault.Fault, Faults.Fails, Faults.Gives}
use Rattle.oat_lines.proofs.Steps.{fails_as, gives_same}
use Rattle.oat_case.specs.{Reading.Gathered, Reading.line_of, Reading.whole, Reading.case_from, Reading.case_of, declared.case.Case.Case, declared.fault.CaseFaultKind.CaseFaultKind}

-- what is left to read gives what the text gives
pub record Reads (text rest : List ℕ) (number : ℕ) (g : Gathered) : Type 0 where
  pub so_far : case_from number g (lines_of rest) ≡ case_of text
  pub fits : number + length rest ≤ 4194305

pub next_line : (n : ℕ) (g h : Gathered) (rest line after : List ℕ) (total : Result Case (Fault CaseFaultKind)) → lines_of rest ≡ line ∷ lines_of after
    → line_of n g (words_of line) ≡ Ok h → case_from n g (lines_of rest) ≡ total → case_from (n + 1) h (lines_of after) ≡ total
unfolding case_from
next_line n g h rest line after total cut took so_far =
    let one : case_from n g (lines_of rest) ≡ case_from (n + 1) h (lines_of after) = rw (cut, took) refl in
    sym one ∙ so_far

faulty : (n : ℕ) (g : Gathered) (rest line after : List ℕ) (total : Result Case (Fault CaseFaultKind)) (f : Fault CaseFaultKind) → lines_of rest ≡ line ∷ lines_of after
    → line_of n g (words_of line) ≡ Err f → case_from n g (lines_of rest) ≡ total → total ≡ Err f
unfolding case_from
faulty n g rest line after total f cut bad so_far =
    let one : case_from n g (lines_of rest) ≡ Err f = rw (cut, bad) refl in
    sym so_far ∙ one

pub stops : (e : Fault CaseFaultKind) (n : ℕ) (g : Gathered) (rest line after : List ℕ) (total : Result Case (Fault CaseFaultKind)) → lines_of rest ≡ line ∷ lines_of after
    → Fails e (line_of n g (words_of line)) → case_from n g (lines_of rest) ≡ total → Fails e total
stops e n g rest line after total cut bad so_far =
    fails_as e (line_of n g (words_of line)) total (λ f is. faulty n g rest line after total f cut is so_far) bad

pub is_done : (r : Result Case (Fault CaseFaultKind)) (n : ℕ) (g : Gathered) (rest : List ℕ) (total : Result Case (Fault CaseFaultKind)) → length rest ≡ 0 → r ≡ whole n g
    → case_from n g (lines_of rest) ≡ total → Gives (λ case. case) r total
unfolding case_from lines_of
is_done r n g [] total none made so_far = gives_same r total (sym so_far ∙ sym made)
is_done r n g (b ∷ bs) total none made so_far = absurd (omega arith)
