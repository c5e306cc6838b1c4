-- What holds of the drill of every number: its text is read and its program checked, its code is small, its operation completes, and its case leaves room for that.
use Rattle.std.specs.Prelude.{◌≡◌, ◌≤◌, ◌+◌, ◌*◌, ℕ, true, [], length}
use Rattle.oat_check.specs.{Halted, has_completed, most_words, Rules.IsChecked, Rules.has_operation, Runs.source_events, Shown.source_end, Shown.source_outputs, Shown.source_path}
use Rattle.oat_text.specs.Grammar.{IsProgramText}
use Rattle.oat_case.specs.Limits.{IsWellFormedCase}
use Rattle.oat_make.specs.{Drill.drill_program, Drill.drill_inputs, Text.drill_text, Text.drill_case}

-- ---- its text

abbrev pub DrillsAreWritten : Type 0
DrillsAreWritten = (n : ℕ) → IsProgramText (drill_text n) (drill_program n)

abbrev pub DrillTextsAreShort : Type 0
DrillTextsAreShort = (n : ℕ) → length (drill_text n) ≤ 4096

-- ---- its program

abbrev pub DrillsAreChecked : Type 0
DrillsAreChecked = (n : ℕ) → IsChecked (drill_program n)

-- its code fits, by the bound on words
pub record DrillsFit : Type 0 where
  pub words : (n : ℕ) → most_words (drill_program n) ≡ 10456
  pub fits : (n : ℕ) → most_words (drill_program n) ≤ 131072

-- ---- its run

-- k source steps run it to its end, with its operation complete: 80 outputs, and in each round 53 edges, whichever way the branches go
pub record Completes (n k : ℕ) : Type 0 where
  pub ended : source_end (drill_program n) (drill_inputs n) k ≡ Halted
  pub completed : has_completed 1 0 (source_events (drill_program n) (drill_inputs n) k) ≡ true
  pub outputs : length (source_outputs (drill_program n) (drill_inputs n) k) ≡ 80
  pub path : length (source_path (drill_program n) (drill_inputs n) k 1 0) ≡ 4243

abbrev pub DrillsComplete : Type 0
DrillsComplete = (n k : ℕ) → 11448 ≤ k → Completes n k

-- ---- its case

-- what a run of compiled code asks of the case of a program whose call completes within fewer than 11,500 source steps
pub record CanBeAttested (n : ℕ) : Type 0 where
  pub well_formed : IsWellFormedCase (drill_case n)
  pub no_writes : (drill_case n).writes ≡ []
  pub operation : has_operation (drill_program n) (drill_case n).session.op ≡ true
  pub completed : has_completed (drill_case n).session.op 0 (source_events (drill_program n) (drill_case n).inputs 11499) ≡ true
  -- 300 instructions for each of these source steps, and as many for the start
  pub room : 300 * (11499 + 1) ≤ (drill_case n).steps

abbrev pub DrillsCanBeAttested : Type 0
DrillsCanBeAttested = (n : ℕ) → CanBeAttested n
