-- Walks, and the paths that go back as they called.
use Rattle.std.specs.Prelude.{◌≡◌, ℕ, List, [], ◌∷◌, ◌++◌, map, Contains}
use Rattle.oat_map.specs.{declared.edge.Edge.Edge, declared.map.Map.Map, Walk.Step, Walk.moved, Walk.depth, Walk.Returns, Walk.Walk, Walk.path_of, Turns.GoesBack, Turns.turn_of}
use Rattle.oat_map.specs.declared.edge.Edge.TheVariants as edges

-- each return of the path goes to the site of its matching call, no edge strays, and no call is open at the end
pub record ReturnsMatch (path : List Edge) : Type 0 where
  pub stray : (from to : ℕ) → Contains path (edges.Stray from to) → ⊥
  pub returns : (before : List Edge) (from to : ℕ) (rest : List Edge) → path ≡ before ++ edges.Ret from to ∷ rest → Returns (map moved before) to
  pub closed : depth (map moved path) ≡ 0

-- a path whose returns match their calls goes back as it called
abbrev pub MatchedPathsGoBack : Type 0
MatchedPathsGoBack = (path : List Edge) → ReturnsMatch path → GoesBack turn_of [] path

-- the path of every walk goes back as it called
abbrev pub WalksGoBack : Type 0
WalksGoBack = (flow : Map) (op : ℕ) (steps : List Step) → Walk flow op steps → GoesBack turn_of [] (path_of steps)
