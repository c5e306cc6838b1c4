-- Going over the lines of a program text (docs/FORMATS.md, "Program text").
use Rattle.std.specs.Prelude.{ℕ, ◌+◌, List, [], ◌∷◌, Result, Ok, if◌then◌else◌}
use Rattle.oat_lines.specs.{declared.fault.Fault.Fault, Lines.TextWord, Lines.words_of, Lines.is_skipped, Reading.◌>>=◌}
use Rattle.oat_text.specs.declared.fault.TextFaultKind.{TextFaultKind}

-- a value, or why there is none
abbrev pub OrFault : Type 0 → Type 0
OrFault X = Result X (Fault TextFaultKind)

-- the words of the lines that count, each with the number of its line; the first line has number n
unfoldable pub numbered : ℕ → List (List ℕ) → List (ℕ × List TextWord)
numbered n [] = []
numbered n (line ∷ lines) =
    if is_skipped (words_of line) then numbered (n + 1) lines else (n, words_of line) ∷ numbered (n + 1) lines

-- one after the other, each taken with what those before it have given
unfoldable pub each : {S X : Type 0} → (S → X → OrFault S) → S → List X → OrFault S
each takes s [] = Ok s
each takes s (x ∷ xs) = do
  next ← takes s x
  each takes next xs

-- the same for lines and their numbers
abbrev pub over : {S : Type 0} → (ℕ → S → List TextWord → OrFault S) → S → List (ℕ × List TextWord) → OrFault S
over takes s lines = each (λ t line. takes line.0 t line.1) s lines
