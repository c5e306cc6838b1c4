-- Walks of an operation over a control-flow map: which steps its rows allow, one behind the other,
-- from the start of the operation to its end. docs/DEFINITIONS.md says the same in words.
use Rattle.std.specs.{Prelude.ℕ, Prelude.◌≡◌, Prelude.◌≢◌, Prelude.◌+◌, Prelude.◌-◌, Prelude.◌<◌, Prelude.◌⊎◌, Prelude.Bool, Prelude.true, Prelude.false, Prelude.List, Prelude.[], Prelude.◌∷◌}
use Rattle.std.specs.{Prelude.◌++◌, Prelude.take, Prelude.Option, Prelude.None, Prelude.Some, Prelude.slice_get, Option.option_and_then, List.filter_map, List.sum_by}
use Rattle.oat_map.specs.{declared.row.Row.Row, declared.row.Row.TheVariants.Jump, declared.row.Row.TheVariants.Branch, declared.row.Row.TheVariants.Call, declared.row.Row.TheVariants.ICall}
use Rattle.oat_map.specs.{declared.row.Row.TheVariants.Ret, declared.row.Row.TheVariants.Begin, declared.row.Row.TheVariants.End, declared.row.Row.TheVariants.UseCell}
use Rattle.oat_map.specs.{declared.row.Row.TheVariants.DefCell, declared.row.Row.TheVariants.UseAt, declared.row.Row.TheVariants.DefAt, declared.row.Row.TheVariants.Check, declared.edge.Edge.Edge}
use Rattle.oat_map.specs.{declared.map.Map.Map, Rows.after, Rows.next, Rows.start, Rows.IsIndirectTarget}
use Rattle.oat_map.specs.declared.edge.Edge.TheVariants as edges

-- the most steps that a walk may have
abbrev pub path_limit : ℕ
path_limit = 4194304

-- one step of a walk: it passes a Check row or one that uses or defines a cell, or moves along an edge
pub data Step : Type 0 where
  passed : Step
  moved : Edge → Step

abbrev pub edge_of : Step → Option Edge
edge_of passed = None
edge_of (moved edge) = Some edge

-- the path of a list of steps: its edges
abbrev pub path_of : List Step → List Edge
path_of steps = filter_map edge_of steps

abbrev pub bit_of : Edge → Option Bool
bit_of (edges.Branch from bit to) = Some bit
bit_of _ = None

abbrev pub target_of : Edge → Option ℕ
target_of (edges.ICall from to) = Some to
target_of _ = None

abbrev pub return_of : Edge → Option ℕ
return_of (edges.Ret from to) = Some to
return_of _ = None

-- the bits of a path's branches, the targets of its indirect calls, and where its returns go
abbrev pub bits_of : List Edge → List Bool
bits_of path = filter_map bit_of path

abbrev pub targets_of : List Edge → List ℕ
targets_of path = filter_map target_of path

abbrev pub returns_of : List Edge → List ℕ
returns_of path = filter_map return_of path

-- where a step that calls is to be returned to; None at a step that doesn't call
abbrev pub return_site_of : Step → Option ℕ
return_site_of (moved (edges.Call from to)) = Some (after (Call from to))
return_site_of (moved (edges.ICall from to)) = Some (after (ICall from 0))
return_site_of _ = None

abbrev pub call_count : Step → ℕ
call_count (moved (edges.Call from to)) = 1
call_count (moved (edges.ICall from to)) = 1
call_count _ = 0

abbrev pub return_count : Step → ℕ
return_count (moved (edges.Ret from to)) = 1
return_count _ = 0

-- how many calls are open behind these steps
abbrev pub depth : List Step → ℕ
depth steps = sum_by call_count steps - sum_by return_count steps

-- step number `place` is the last call that was made at this depth, and it returns to `back`
pub record LastCall (before : List Step) (level place back : ℕ) : Type 0 where
  pub call : option_and_then return_site_of (slice_get before place) ≡ Some back
  pub at_level : depth (take place before) ≡ level
  pub last : (later site : ℕ) → place < later
      → option_and_then return_site_of (slice_get before later) ≡ Some site
      → depth (take later before) ≢ level

-- a return behind these steps closes its matching call, and goes to `back`
pub record Returns (before : List Step) (back : ℕ) : Type 0 where
  pub level : ℕ
  pub open_calls : depth before ≡ level + 1
  pub place : ℕ
  pub matching : LastCall before level place back

-- at this row, behind the steps before, `step` may be taken and leads to `to`
abbrev pub RowGoes : Map → Row → List Step → Step → ℕ → Type 0
RowGoes flow (Jump at target) before step to = (step ≡ moved (edges.Jump at target)) × (to ≡ target)
RowGoes flow (Branch at taken other) before step to =
    ((step ≡ moved (edges.Branch at true taken)) × (to ≡ taken))
    ⊎ ((step ≡ moved (edges.Branch at false other)) × (to ≡ other))
RowGoes flow (Call at target) before step to = (step ≡ moved (edges.Call at target)) × (to ≡ target)
RowGoes flow (ICall at params) before step to =
    (step ≡ moved (edges.ICall at to)) × IsIndirectTarget flow.functions params to
RowGoes flow (Ret at) before step to = (step ≡ moved (edges.Ret at to)) × Returns before to
RowGoes flow (Begin at op) before step to = ⊥
RowGoes flow (End at op) before step to = ⊥
RowGoes flow (UseCell at cell) before step to = (step ≡ passed) × (to ≡ after (UseCell at cell))
RowGoes flow (DefCell at cell) before step to = (step ≡ passed) × (to ≡ after (DefCell at cell))
RowGoes flow (UseAt at cell len) before step to = (step ≡ passed) × (to ≡ after (UseAt at cell len))
RowGoes flow (DefAt at cell len) before step to = (step ≡ passed) × (to ≡ after (DefAt at cell len))
RowGoes flow (Check at) before step to = (step ≡ passed) × (to ≡ after (Check at))

-- from the address `from`, behind the steps before, `step` may be taken and leads to `to`
abbrev pub Goes : Map → List Step → ℕ → Step → ℕ → Type 0
Goes flow before from step to = (row : Row) × (next flow.rows from ≡ Some row) × RowGoes flow row before step to

-- from the address `from`, behind the steps before, `steps` may be taken and lead to `to`
abbrev pub Leads : Map → List Step → ℕ → List Step → ℕ → Type 0
Leads flow before from [] to = from ≡ to
Leads flow before from (step ∷ steps) to =
    (middle : ℕ) × Goes flow before from step middle × Leads flow (before ++ step ∷ []) middle steps to

-- a partial walk: steps from the start of the operation on, which lead to `place`
pub record PartialWalk (flow : Map) (op : ℕ) (steps : List Step) (place : ℕ) : Type 0 where
  pub from : ℕ
  pub starts : start flow.rows op ≡ Some from
  pub leads : Leads flow [] from steps place

-- a walk: a partial walk with no open call, to an End row of the operation, and that end
pub record Walk (flow : Map) (op : ℕ) (steps : List Step) : Type 0 where
  pub front : List Step
  pub place : ℕ
  pub partial : PartialWalk flow op front place
  pub closed : depth front ≡ 0
  pub end_address : ℕ
  pub at_end : next flow.rows place ≡ Some (End end_address op)
  pub whole : steps ≡ front ++ moved (edges.End op) ∷ []
