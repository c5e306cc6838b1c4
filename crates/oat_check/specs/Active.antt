-- What is active in a state, read off its frames: the operation, the calls that are open above it, and what the cells hold.
use Rattle.std.specs.{Prelude.ℕ, Prelude.List, Prelude.[], Prelude.◌∷◌, Prelude.◌++◌, Prelude.Option, Prelude.None, Option.option_map}
use Rattle.oat_events.specs.{Turn, pushes, pops, stays, Cells.Cells, Events.Active}
use Rattle.oat_ir.specs.declared.program.Program.{Program}
use Rattle.oat_check.specs.{Globals.first_values, Globals.cell_values, Steps.LinePlace, Steps.LineEdge, Steps.calls, Steps.icalls, Steps.returns, Steps.Frame, Steps.SourceState, Steps.line_place}
use Rattle.oat_check.specs.{Steps.operation_of}

-- calls are told apart by their lines
abbrev pub line_turn : LineEdge → Turn LinePlace
line_turn (calls from func) = pushes from
line_turn (icalls from func) = pushes from
line_turn (returns from back) = pops back
line_turn _ = stays

abbrev pub with_call : LinePlace → Active LinePlace → Active LinePlace
with_call back active = record { op = active.op; calls = active.calls ++ back ∷ [] }

-- The frame above the lowest one may be an operation's: then it is active, with the calls of the frames from its own on.
abbrev pub active_in : Program → ℕ → List Frame → Option (Active LinePlace)
active_in p func [] = None
active_in p func (g ∷ []) = option_map (λ op. record { op = op; calls = [] }) (operation_of p func)
active_in p func (g ∷ (h ∷ hs)) = option_map (with_call (line_place g)) (active_in p g.func (h ∷ hs))

abbrev pub active_of : Program → SourceState → Option (Active LinePlace)
active_of p s = active_in p s.frame.func s.callers

abbrev pub operation_active : Program → SourceState → Option ℕ
operation_active p s = option_map (λ active. active.op) (active_of p s)

abbrev pub cells_at : Program → SourceState → Cells
cells_at p s = cell_values p.globals s.globals

abbrev pub first_cells : Program → Cells
first_cells p = cell_values p.globals (first_values p)
