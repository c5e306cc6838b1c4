-- Laws of the language's runs, for all inputs and every number of steps.
use Rattle.std.specs.Prelude.{◌≡◌, ℕ, ◌+◌, ℤ, List, ◌++◌, Some, None}
use Rattle.oat_events.specs.Events.{Passes, SourceEvent}
use Rattle.oat_events.specs.Source.{Finish, outputs_of}
use Rattle.oat_tree.specs.Rules.{IsLang}
use Rattle.oat_tree.specs.Syntax.{Tree}
use Rattle.oat_langrun.specs.Keeping.{IsGood, operation_active, cells_at, first_cells}
use Rattle.oat_langrun.specs.Meaning.{lang_run, lang_events}
use Rattle.oat_langrun.specs.Steps.{routines_of}

-- a longer bound goes on from a shorter one
abbrev pub LongerRunsGoOn : Type 0
LongerRunsGoOn =
    (tree : Tree) (inputs : List ℤ) (n k : ℕ)
    → ((more : List (SourceEvent ℕ)) × (lang_events tree inputs (n + k) ≡ lang_events tree inputs n ++ more))
    × ((more : List ℤ) × (outputs_of (lang_events tree inputs (n + k)) ≡ outputs_of (lang_events tree inputs n) ++ more))

-- a run that has ended stays as it is, and shows nothing more
abbrev pub EndedRunsStay : Type 0
EndedRunsStay =
    (tree : Tree) (inputs : List ℤ) (n k : ℕ) (why : Finish) → (lang_run tree inputs n).end ≡ Some why
    → (lang_run tree inputs (n + k) ≡ lang_run tree inputs n) × (lang_events tree inputs (n + k) ≡ lang_events tree inputs n)

-- there is one end, with all that was shown before it
abbrev pub EndsAreOne : Type 0
EndsAreOne =
    (tree : Tree) (inputs : List ℤ) (n m : ℕ) (why other : Finish) → (lang_run tree inputs n).end ≡ Some why → (lang_run tree inputs m).end ≡ Some other
    → (why ≡ other) × (lang_events tree inputs n ≡ lang_events tree inputs m)

-- each state of a run stands at a step
abbrev pub RunsAreGood : Type 0
RunsAreGood = (tree : Tree) → IsLang tree → (inputs : List ℤ) (n : ℕ) → IsGood tree (lang_run tree inputs n)

-- Operations never nest, only the active one is left, and each read of a critical has the value of the last assignment to it, or its start.
abbrev pub RunsPass : Type 0
RunsPass =
    (tree : Tree) → IsLang tree → (inputs : List ℤ) (n : ℕ)
    → Passes None (first_cells (routines_of tree)) (lang_events tree inputs n) (operation_active (routines_of tree) (lang_run tree inputs n)) (cells_at (routines_of tree) (lang_run tree inputs n))
