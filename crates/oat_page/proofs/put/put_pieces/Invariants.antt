use Rattle.std.proofs.Common.{◌≡◌, ◌++◌, ℕ, List}
use Rattle.oat_world.specs.Outside.{Adds}
use Rattle.oat_page.proofs.put.put_pieces.Given as goal

abbrev pub invariant-loop-piece : goal.invariant-loop-piece
invariant-loop-piece g l =
    (front : List ℕ)
    × (g.P.Pieces.text l.initial.rest ≡ front ++ g.P.Pieces.text l.rest)
    × Adds (g.S.Sink.told l.initial.sink) front (g.S.Sink.told l.sink)
    × (g.S.Sink.faults l.sink ≡ g.S.Sink.faults l.initial.sink)

abbrev pub decreases-loop-piece : goal.decreases-loop-piece
decreases-loop-piece g l = g.P.Pieces.turns l.rest
