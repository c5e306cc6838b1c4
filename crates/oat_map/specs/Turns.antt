-- What an edge does to the calls that are open, and paths that go back as they called.
use Rattle.std.specs.Prelude.{◌≡◌, ℕ, List, [], ◌∷◌, ◌++◌}
use Rattle.oat_map.specs.{declared.row.Row.TheVariants.Call, declared.row.Row.TheVariants.ICall, declared.edge.Edge.Edge, Rows.after}
use Rattle.oat_map.specs.declared.edge.Edge.TheVariants as edges

-- An edge opens a call that is to return to `back`, goes back there, or leaves the open calls as they are; a stray edge does what no path may do.
pub data Turn (P : Type 0) : Type 0 where
  pushes : (back : P) → Turn P
  pops : (back : P) → Turn P
  stays : Turn P
  strays : Turn P

-- behind these open calls, the last one at the list's end, the edge goes on so that the rest holds
abbrev pub Turned : {P : Type 0} → List P → Turn P → (List P → Type 0) → Type 0
Turned calls (pushes back) Rest = Rest (calls ++ back ∷ [])
Turned {P} calls (pops back) Rest = (others : List P) × (calls ≡ others ++ back ∷ []) × Rest others
Turned calls stays Rest = Rest calls
Turned calls strays Rest = ⊥

-- Behind these open calls each return of the path goes back to the last open call, no edge strays, and no call is open at the end.
abbrev pub GoesBack : {E P : Type 0} → (E → Turn P) → List P → List E → Type 0
GoesBack turn calls [] = calls ≡ []
GoesBack turn calls (edge ∷ path) = Turned calls (turn edge) (λ later. GoesBack turn later path)

-- the edges of a map, with the return sites of their calls
abbrev pub turn_of : Edge → Turn ℕ
turn_of (edges.Call from to) = pushes (after (Call from to))
turn_of (edges.ICall from to) = pushes (after (ICall from 0))
turn_of (edges.Ret from to) = pops to
turn_of (edges.Stray from to) = strays
turn_of _ = stays
