-- A compiled program's run and its source: how a moment of the one stands to a state of the other, and that each source step is matched by some instructions.
use Rattle.std.specs.{Prelude.◌≡◌, Prelude.◌≤◌, Prelude.ℕ, Prelude.ℤ, Prelude.FitsSigned, Prelude.List, Prelude.[], Prelude.map, Prelude.Option, Prelude.Some, Prelude.None, Prelude.unwrap_or, Int.w64}
use Rattle.std.specs.{List.AllByRecursion}
use Rattle.oat_globals.specs.{Program, Finish, start_cells, Running, started, first_cells, Values, word_values, IsConsistent, IsChecked, source_start, Next, SourceState, source_step, seen_at, RunsTo}
use Rattle.oat_globals.specs.{device_end, step_limit, World, IsAt}
use Rattle.oat_match.specs.{Compiled.IsCompiled, Placed.placement}

-- what each word of global data holds
abbrev pub words_held : Program → Values → (ℕ → ℕ)
words_held p values = λ n. unwrap_or (word_values p.globals values n) 0

-- ---- the relation

-- while the source goes on: the run stands where the source does, with the same inputs left
pub record GoesAlike (p : Program) (w : World) (s : SourceState) (m : Running) : Type 0 where
  pub inputs : m.inputs ≡ s.inputs
  pub fit : AllByRecursion (FitsSigned w64) s.inputs
  pub is_at : IsAt w s.frame s.callers (words_held p s.globals) m

-- and then it has ended alike
abbrev pub IsAlike : Program → World → Option Finish → SourceState → Running → Type 0
IsAlike p w None s m = GoesAlike p w s m
IsAlike p w (Some why) s m = m.end ≡ Some (device_end why)

pub record IsRelated (p : Program) (w : World) (s : SourceState) (m : Running) : Type 0 where
  pub consistent : IsConsistent p s
  pub alike : IsAlike p w s.end s m

-- ---- a step

-- some instructions, from 1 to 300, show what the step shows, and lead to where it leads
pub record StepIsMatched (p : Program) (w : World) (next : Next) (m : Running) : Type 0 where
  pub to : Running
  pub count : ℕ
  pub some : 1 ≤ count
  pub few : count ≤ step_limit
  pub runs : RunsTo w.image count m to (map (seen_at (placement p w)) next.shown)
  pub alike : IsAlike p w next.state.end next.state to

-- each line of the language
abbrev pub StepsAreMatched : Type 0
StepsAreMatched =
    (p : Program) → IsChecked p → (w : World) → IsCompiled p w → (s : SourceState) (m : Running) → IsRelated p w s m → s.end ≡ None
    → StepIsMatched p w (source_step p s) m

-- ---- the start

-- the instructions before the first source step show nothing
pub record StartIsMatched (p : Program) (w : World) (inputs : List ℤ) : Type 0 where
  pub to : Running
  pub count : ℕ
  pub few : count ≤ step_limit
  pub runs : RunsTo w.image count (started w.image inputs) to []
  pub related : IsRelated p w (source_start p inputs) to

abbrev pub StartsAreMatched : Type 0
StartsAreMatched =
    (p : Program) → IsChecked p → (w : World) → IsCompiled p w → (inputs : List ℤ) → AllByRecursion (FitsSigned w64) inputs → StartIsMatched p w inputs

-- the cells of the image hold at the start what the source's hold
abbrev pub CellsStartAlike : Type 0
CellsStartAlike = (p : Program) (w : World) → IsCompiled p w → start_cells w.image ≡ first_cells p
