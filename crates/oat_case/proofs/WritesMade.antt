-- The writes of a well-formed case lie in data memory, and their places never fall.
use Rattle.std.proofs.Common.{ℕ, zero, suc, ◌≤◌, ◌<◌, List, [], ◌∷◌, length, get_or, map, arith}
use Rattle.std.specs.{Prelude.IsTrue, List.All, List.AllByRecursion, List.Sorted.IsNonDecreasing}
use Rattle.std.proofs.lemmas.{Bool.leb-true, List.Elements.All-from_recursion}
use Rattle.oat_mem.specs.DataMemory.{fits}
use Rattle.oat_case.specs.{declared.case.Write.Write, declared.case.Case.Case, Limits.IsInLimits, Limits.RisesFrom, Limits.IsWellFormedCase}

abbrev IsInData : Write → Type 0
IsInData write = IsTrue (fits write.address (length write.bytes))

abbrev places : List Write → List ℕ
places writes = map (λ write. write.before) writes

in_data : (writes : List Write) → AllByRecursion IsInLimits writes → AllByRecursion IsInData writes
in_data [] limits = tt
in_data (w ∷ ws) limits = (limits.0.1, in_data ws limits.1)

none_below : (least : ℕ) (writes : List Write) → RisesFrom least writes → (j d : ℕ) → j < length (places writes) → least ≤ get_or (places writes) j d
none_below least [] rises j d lt = absurd (omega arith)
none_below least (w ∷ ws) rises zero d lt = leb-true least w.before rises.0
none_below least (w ∷ ws) rises (suc j) d lt = omega (arith, leb-true least w.before rises.0, none_below w.before ws rises.1 j d (omega arith))

never_fall : (least : ℕ) (writes : List Write) → RisesFrom least writes → IsNonDecreasing (places writes)
never_fall least [] rises i j d le lt = absurd (omega arith)
never_fall least (w ∷ ws) rises zero zero d le lt = omega arith
never_fall least (w ∷ ws) rises zero (suc j) d le lt = none_below w.before ws rises.1 j d (omega arith)
never_fall least (w ∷ ws) rises (suc i) zero d le lt = absurd (omega arith)
never_fall least (w ∷ ws) rises (suc i) (suc j) d le lt = never_fall w.before ws rises.1 i j d (omega arith) (omega arith)

pub can_be_made : (case : Case) → IsWellFormedCase case → All IsInData case.writes × IsNonDecreasing (places case.writes)
can_be_made case fit = (All-from_recursion IsInData case.writes (in_data case.writes fit.writes), never_fall 0 case.writes fit.order)
