-- Reading a script line by line, as a loop does.
use Rattle.std.proofs.Common.{◌≡◌, ℕ, ◌+◌, ◌≤◌, List, [], ◌∷◌, length, Result, Ok, Err, refl, sym, ◌∙◌, arith}
use Rattle.oat_lines.proofs.Steps.{fails_as, gives_same}
use Rattle.oat_owner.specs.{lines_of, words_of, Fault, Fails, Gives}
use Rattle.oat_script.specs.{Reading.line_of, Reading.whole, Reading.script_from, Reading.script_of, declared.script.Script.Script, declared.fault.ScriptFaultKind.ScriptFaultKind}

abbrev Read : Type 0
Read = Result Script (Fault ScriptFaultKind)

-- what is left to read gives what the text gives
pub record Reads (text rest : List ℕ) (number : ℕ) (g : Script) : Type 0 where
  pub so_far : script_from number g (lines_of rest) ≡ script_of text
  pub fits : number + length rest ≤ 67108865

pub next_line : (n : ℕ) (g h : Script) (rest line after : List ℕ) (total : Read) → lines_of rest ≡ line ∷ lines_of after
    → line_of n g (words_of line) ≡ Ok h → script_from n g (lines_of rest) ≡ total → script_from (n + 1) h (lines_of after) ≡ total
unfolding script_from
next_line n g h rest line after total cut took so_far =
    let one : script_from n g (lines_of rest) ≡ script_from (n + 1) h (lines_of after) = rw (cut, took) refl in
    sym one ∙ so_far

faulty : (n : ℕ) (g : Script) (rest line after : List ℕ) (total : Read) (f : Fault ScriptFaultKind) → lines_of rest ≡ line ∷ lines_of after
    → line_of n g (words_of line) ≡ Err f → script_from n g (lines_of rest) ≡ total → total ≡ Err f
unfolding script_from
faulty n g rest line after total f cut bad so_far =
    let one : script_from n g (lines_of rest) ≡ Err f = rw (cut, bad) refl in
    sym so_far ∙ one

pub stops : (e : Fault ScriptFaultKind) (n : ℕ) (g : Script) (rest line after : List ℕ) (total : Read) → lines_of rest ≡ line ∷ lines_of after
    → Fails e (line_of n g (words_of line)) → script_from n g (lines_of rest) ≡ total → Fails e total
stops e n g rest line after total cut bad so_far =
    fails_as e (line_of n g (words_of line)) total (λ f is. faulty n g rest line after total f cut is so_far) bad

pub is_done : (r : Read) (n : ℕ) (g : Script) (rest : List ℕ) (total : Read) → length rest ≡ 0 → r ≡ whole n g
    → script_from n g (lines_of rest) ≡ total → Gives (λ script. script) r total
unfolding script_from lines_of
is_done r n g [] total none made so_far = gives_same r total (sym so_far ∙ sym made)
is_done r n g (b ∷ bs) total none made so_far = absurd (omega arith)
