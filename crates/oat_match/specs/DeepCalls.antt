-- An indirect call with 256 callers traps.
use Rattle.std.specs.Prelude.{◌≡◌, ◌<◌, ℕ, List, length}
use Rattle.oat_globals.specs.{Depth, Running, Frame, World, IsWorld, IsAt, EndsWithin, IsIndirectCallAt}
use Rattle.oat_globals.specs.ends as ends

-- the reference is tested first, and isn't null
abbrev pub DeepIndirectCallsTrap : Type 0
DeepIndirectCallsTrap =
    (w : World) → IsWorld w → (f : Frame) (callers : List Frame) (globals : ℕ → ℕ) (args : List ℕ) (from result : ℕ) (m : Running)
    → IsAt w f callers globals m → length callers ≡ 256 → IsIndirectCallAt w f args from result → 0 < f.locals from
    → EndsWithin w 5 (ends.Trap Depth) m
