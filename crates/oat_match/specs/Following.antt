-- The image of a compiled program runs as its source: it ends as the source ends, in both directions and within the bound, and each window shows its call.
use Rattle.std.specs.{Prelude.◌≡◌, Prelude.ℕ, Prelude.ℤ, Prelude.FitsSigned, Prelude.List, Prelude.[], Prelude.◌∷◌, Int.w64, List.AllByRecursion}
use Rattle.oat_globals.specs.{Program, SourceEvent, takes, Opening, IsConsistent, IsChecked, source_of, LineEdge, SourceState, source_step, GoesBack, turn_of, Body, HasBody, dev, window_of}
use Rattle.oat_globals.specs.{executed_path, Means, RunsAs, World}
use Rattle.oat_match.specs.{Compiled.IsCompiled, Placed.EdgesAreNamed, Placed.IsLineEdge, Placed.placement}

-- ---- the edges that a step takes are the program's

abbrev pub TakesEdgesOf : Program → List (SourceEvent LineEdge) → Type 0
TakesEdgesOf p [] = Unit {0}
TakesEdgesOf p (takes edge ∷ es) = IsLineEdge p edge × TakesEdgesOf p es
TakesEdgesOf p (_ ∷ es) = TakesEdgesOf p es

abbrev pub StepsTakeEdges : Type 0
StepsTakeEdges = (p : Program) → IsChecked p → (s : SourceState) → IsConsistent p s → TakesEdgesOf p (source_step p s).shown

-- ---- whole runs

-- the bare run, for every operation
abbrev pub CompiledProgramsRun : Type 0
CompiledProgramsRun =
    (p : Program) → IsChecked p → (w : World) → IsCompiled p w → EdgesAreNamed p w → (inputs : List ℤ) → AllByRecursion (FitsSigned w64) inputs
    → RunsAs (source_of p inputs) w.image (placement p w) inputs

-- and the measured run of a session whose windows open where its operation begins
abbrev pub CompiledProgramsMean : Type 0
CompiledProgramsMean =
    (p : Program) → IsChecked p → (w : World) → IsCompiled p w → EdgesAreNamed p w → (inputs : List ℤ) → AllByRecursion (FitsSigned w64) inputs
    → (o : Opening) → (placement p w).begin o.op ≡ o.begin_at → Means (source_of p inputs) w.image (placement p w) o inputs

-- ---- honest paths

-- the executed path of each window that was sealed goes back as it called
abbrev pub CompiledWindowsGoBack : Type 0
CompiledWindowsGoBack =
    (p : Program) → IsChecked p → (w : World) → IsCompiled p w → EdgesAreNamed p w → (inputs : List ℤ) → AllByRecursion (FitsSigned w64) inputs
    → (o : Opening) → (placement p w).begin o.op ≡ o.begin_at → (n s : ℕ) (body : Body) → HasBody o (dev w.image o inputs [] n) s body
    → GoesBack turn_of [] (executed_path w.image.map o.op (window_of o s (dev w.image o inputs [] n)))
