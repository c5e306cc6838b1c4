-- A line tells its edge (docs/FORMATS.md, "Path lines").
use Rattle.std.specs.{Prelude.◌≡◌, Prelude.◌^◌, Prelude.◌<◌, Prelude.ℕ, Prelude.List, Prelude.length, Prelude.map, Prelude.All, Prelude.Contains, Prelude.if◌then◌else◌}
use Rattle.std.specs.{List.Sorted.IsStrictlyIncreasing}
use Rattle.oat_verify.specs.{IsName, Row, Jump, Branch, Call, ICall, Ret, Begin, Edge, Map, IsIndirectTarget, IsOperation, IsOrdered, entries_of, Step, path_of, Walk, Image, IsWellFormedImage, S8}
use Rattle.oat_verify.specs.{Everywhere, IsReturnSite, IsShaped}
use Rattle.oat_report.specs.PathLine.{edge_line}
use Rattle.oat_map.specs.declared.edge.Edge.TheVariants as edges

-- ---- edges

-- an edge of a map: one that a row takes, a return to the address behind some call, the end of an operation, or a stray one between addresses of 64 bits
abbrev pub IsEdgeOf : Map → Edge → Type 0
IsEdgeOf flow (edges.Jump from to) = Contains flow.rows (Jump from to)
IsEdgeOf flow (edges.Branch from bit to) =
    (taken other : ℕ) × Contains flow.rows (Branch from taken other) × (to ≡ (if bit then taken else other))
IsEdgeOf flow (edges.Call from to) = Contains flow.rows (Call from to)
IsEdgeOf flow (edges.ICall from to) =
    (params : ℕ) × Contains flow.rows (ICall from params) × IsIndirectTarget flow.functions params to
IsEdgeOf flow (edges.Ret from to) = Contains flow.rows (Ret from) × IsReturnSite flow.rows to
IsEdgeOf flow (edges.End op) = IsOperation flow op
IsEdgeOf flow (edges.Stray from to) = (from < 2 ^ 64) × (to < 2 ^ 64)

-- the path of a walk has edges of the map alone
abbrev pub WalksTakeEdges : Type 0
WalksTakeEdges = (flow : Map) (op : ℕ) (steps : List Step) → Walk flow op steps → All (IsEdgeOf flow) (path_of steps)

-- ---- maps

-- a row begins no operation, or one with a number of 16 bits
abbrev pub BeginsShort : Row → Type 0
BeginsShort (Begin at op) = op < 2 ^ 16
BeginsShort _ = Unit {0}

-- What the types of a map say of it: its names are names, its operations have 16 bits, and its rows can be counted.
pub record IsOfMapType (flow : Map) : Type 0 where
  pub names : All (λ function. IsName function.name) flow.functions
  pub labels : All (λ block. IsName block.label) flow.blocks
  pub operations : All BeginsShort flow.rows
  pub counted : length flow.rows < 2 ^ 64

-- A map whose lines tell its edges: the addresses of its rows rise, as rule S2 of the shape has it, and those of its functions, and its names are those
-- of rule S8.
pub record IsToldByLines (flow : Map) : Type 0 where
  pub typed : IsOfMapType flow
  pub rows_rise : IsOrdered flow.rows
  pub functions_rise : IsStrictlyIncreasing (entries_of flow.functions)
  pub named : Everywhere (S8 flow)

-- the map of an image with the shape is one
abbrev pub ShapedMapsAreTold : Type 0
ShapedMapsAreTold = (image : Image) → IsWellFormedImage image → IsShaped image → IsToldByLines image.map

-- ---- lines

-- there two edges with one line are the same edge, whichever rows or strays they come from
abbrev pub OneEdgeALine : Type 0
OneEdgeALine =
    (flow : Map) (edge other : Edge) → IsToldByLines flow → IsEdgeOf flow edge → IsEdgeOf flow other
    → edge_line flow edge ≡ edge_line flow other → edge ≡ other

-- and two paths of such edges with the same lines are the same path
abbrev pub OnePathOfLines : Type 0
OnePathOfLines =
    (flow : Map) (path other : List Edge) → IsToldByLines flow → All (IsEdgeOf flow) path → All (IsEdgeOf flow) other
    → map (edge_line flow) path ≡ map (edge_line flow) other → path ≡ other
