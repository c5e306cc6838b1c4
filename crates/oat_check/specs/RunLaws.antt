-- Laws of source runs, for every list of inputs and every number of steps.
use Rattle.std.specs.{Prelude.◌≡◌, Prelude.◌+◌, Prelude.◌<◌, Prelude.◌≤◌, Prelude.ℕ, Prelude.true, Prelude.nat_lt, Prelude.if◌then◌else◌, Prelude.List, Prelude.[], Prelude.length, Prelude.slice_get}
use Rattle.std.specs.{Prelude.Some, Prelude.None, Prelude.ℤ, Option.option_and_then}
use Rattle.oat_events.specs.{GoesBack, Cells.defined, Cuts.cut_up, Events.Passes, Events.Stacks, Events.is_entered, Events.is_left, Source.Finish, Source.has_completed, Source.calls_done}
use Rattle.oat_events.specs.{Source.stretch, Source.path_of_call, Source.loads_of_call, Source.outputs_of}
use Rattle.oat_ir.specs.{declared.program.Program.Program, declared.program.GlobalItem.GlobalItem}
use Rattle.oat_check.specs.{Active.line_turn, Active.active_of, Active.operation_active, Active.cells_at, Active.first_cells, Globals.Values, Globals.put, Globals.element_number}
use Rattle.oat_check.specs.{Globals.element_values, Globals.word_number, Globals.cell_number, Globals.cell_words, Globals.word_values, Globals.cell_values, Keeping.IsConsistent, Rules.IsChecked}
use Rattle.oat_check.specs.{Runs.source_of, Runs.source_run, Runs.source_events}

-- a run that has ended stays as it is, and shows nothing more; of any program
abbrev pub EndedRunsStay : Type 0
EndedRunsStay =
    (p : Program) (inputs : List ℤ) (n k : ℕ) (why : Finish) → (source_run p inputs n).end ≡ Some why
    → (source_run p inputs (n + k) ≡ source_run p inputs n) × (source_events p inputs (n + k) ≡ source_events p inputs n)

-- each state of a run has its places, types and frames
abbrev pub RunsAreConsistent : Type 0
RunsAreConsistent = (p : Program) → IsChecked p → (inputs : List ℤ) (n : ℕ) → IsConsistent p (source_run p inputs n)

-- operations never nest, only the active one is left, and each load gives the value of the last store to its cell, or the start
abbrev pub RunsPass : Type 0
RunsPass =
    (p : Program) → IsChecked p → (inputs : List ℤ) (n : ℕ)
    → Passes None (first_cells p) (source_events p inputs n) (operation_active p (source_run p inputs n)) (cells_at p (source_run p inputs n))

-- in an operation each return goes back to the last open call
abbrev pub RunsStack : Type 0
RunsStack = (p : Program) → IsChecked p → (inputs : List ℤ) (n : ℕ) → Stacks line_turn None (source_events p inputs n) (active_of p (source_run p inputs n))

-- so the path of each call that has completed goes back as it called
abbrev pub CallsGoBack : Type 0
CallsGoBack =
    (p : Program) → IsChecked p → (inputs : List ℤ) (n op s : ℕ) → has_completed op s (source_events p inputs n) ≡ true
    → GoesBack line_turn [] (path_of_call (source_of p inputs) op s (source_events p inputs n))

-- the calls that have completed are the first ones
abbrev pub CallsAreCounted : Type 0
CallsAreCounted =
    (p : Program) → IsChecked p → (inputs : List ℤ) (n op s : ℕ)
    → has_completed op s (source_events p inputs n) ≡ nat_lt s (calls_done op (source_events p inputs n))

-- taken up event by event, the calls that have completed are the same; of any program
abbrev pub CallsAreCut : Type 0
CallsAreCut =
    (p : Program) (inputs : List ℤ) (n op s : ℕ) → let es = source_events p inputs n in
    slice_get (cut_up (is_entered op) (is_left op) es).closed s ≡ if has_completed op s es then Some (stretch op s es) else None

-- n steps give at most n edges of a path, n loads and n outputs; of any program
abbrev pub RunsAreShort : Type 0
RunsAreShort =
    (p : Program) (inputs : List ℤ) (n op s : ℕ) → let es = source_events p inputs n in
    (length (path_of_call (source_of p inputs) op s es) ≤ n) × (length (loads_of_call op s es) ≤ n) × (length (outputs_of es) ≤ n)

-- ---- words and cells

-- element i of a global: what it holds is at its number, and a new value is written there alone
pub record IsNumbered (size : GlobalItem → ℕ) (items : List GlobalItem) (values : Values) (g i : ℕ) : Type 0 where
  pub told : (n : ℕ) → element_number size items g i ≡ Some n → element_values size items values n ≡ Some (values g i)
  pub stored : (n value : ℕ) → element_number size items g i ≡ Some n → defined (element_values size items values) n value ≡ element_values size items (put values g i value)
  pub stays : (value : ℕ) → element_number size items g i ≡ None → element_values size items values ≡ element_values size items (put values g i value)

-- of words, and of cells
abbrev pub ElementsAreNumbered : Type 0
ElementsAreNumbered =
    (size : GlobalItem → ℕ) (items : List GlobalItem) (values : Values) (g i : ℕ) (item : GlobalItem) → slice_get items g ≡ Some item → IsNumbered size items values g i

-- each cell holds what its word holds
abbrev pub CellsAreWords : Type 0
CellsAreWords = (p : Program) (values : Values) (c : ℕ) → cell_values p.globals values c ≡ option_and_then (word_values p.globals values) (slice_get (cell_words p.globals) c)

-- and there is that word
abbrev pub CellWordsAreThere : Type 0
CellWordsAreThere =
    (p : Program) (values : Values) (c word : ℕ) → slice_get (cell_words p.globals) c ≡ Some word → (value : ℕ) × (word_values p.globals values word ≡ Some value)

-- the word of an element's cell is that of the element
abbrev pub CellsHaveWords : Type 0
CellsHaveWords = (p : Program) (g i c : ℕ) → cell_number p g i ≡ Some c → slice_get (cell_words p.globals) c ≡ word_number p g i

-- and the words are few
abbrev pub WordsAreFew : Type 0
WordsAreFew = (p : Program) → IsChecked p → (g i word : ℕ) → word_number p g i ≡ Some word → word < 65536
