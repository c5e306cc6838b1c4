-- Lockstep, same path, and the clash of unequal returns: the window of a run beside the walk of the path that is accepted for its blob (docs/PROMISES.md).
use Rattle.std.specs.Prelude.{◌≡◌, ◌≢◌, ◌+◌, ◌⊎◌, ℕ, ℤ, true, false, List, [], ◌∷◌, ◌++◌, Option, Some, None, map, slice_get}
use Rattle.oat_journal.specs.{Body, Session, Write, Image, Edge, Map, Row, after, next, Step, moved, Walk, Returns, RowGoes, path_of, returns_of, MonitorCall, Run.Entry, Run.pc_of, is_transfer}
use Rattle.oat_journal.specs.{Window.executed_path, Window.returns_of_run, Window.made_call, Measured.HasBody, Measured.dev, Measured.uses_of, Measured.first_unsound, Measured.opening_of}
use Rattle.oat_verify.specs.Verdict.{subject_of, head_of}
use Rattle.oat_attest.specs.Headline.{uses_in, OfAcceptedRuns, AllReadByLoad, Clashes, NamesCell}
use Rattle.oat_map.specs.declared.edge.Edge.TheVariants as edges
use Rattle.oat_map.specs.declared.row.Row.TheVariants as rows
use Rattle.oat_journal.specs.svc as svc

-- ---- the run executes steps

-- an instruction of a group by where it stands and the monitor call that it makes
pub record Placed : Type 0 where
  pub at : ℕ
  pub call : Option MonitorCall

abbrev pub placed_of : Entry → Placed
placed_of e = record { at = pc_of e; call = made_call e }

abbrev pub plain : ℕ → Placed
plain at = record { at = at; call = None }

abbrev pub calling : ℕ → MonitorCall → Placed
calling at call = record { at = at; call = Some call }

-- where the instructions of an element's use or define stand before the monitor call; the trap isn't met
abbrev pub element_places : ℕ → List ℕ
element_places at = at ∷ (at + 4) ∷ (at + 8) ∷ (at + 16) ∷ (at + 20) ∷ (at + 24) ∷ (at + 28) ∷ (at + 32) ∷ []

-- The instructions that the run makes of a row's group, where it shows these edges and goes on at `to`: all of them in their order, but for the last of a branch that is taken and of a check, and for the trap of an element's test.
abbrev pub IsGroupRun : Row → List Edge → ℕ → List Placed → Type 0
IsGroupRun (rows.Jump at place) shown to group = group ≡ plain at ∷ []
IsGroupRun (rows.Branch at taken other) (edges.Branch from true place ∷ []) to group =
    (value : ℕ) × (value ≢ 0) × (group ≡ calling at (svc.Bit value) ∷ plain (at + 4) ∷ [])
IsGroupRun (rows.Branch at taken other) _ to group = group ≡ calling at (svc.Bit 0) ∷ plain (at + 4) ∷ plain (at + 8) ∷ []
IsGroupRun (rows.Call at place) shown to group = group ≡ plain at ∷ []
IsGroupRun (rows.ICall at params) shown to group = group ≡ calling at (svc.Target to) ∷ plain (at + 4) ∷ []
IsGroupRun (rows.Ret at) shown to group = group ≡ calling at (svc.Return to) ∷ plain (at + 4) ∷ []
IsGroupRun (rows.Begin at op) shown to group = ⊥
IsGroupRun (rows.End at op) shown to group = group ≡ plain at ∷ calling (at + 4) (svc.End op) ∷ []
IsGroupRun (rows.UseCell at own) shown to group =
    (cell : ℕ) × (value : ℕ) × NamesCell (rows.UseCell at own) cell
    × (group ≡ plain at ∷ plain (at + 4) ∷ plain (at + 8) ∷ plain (at + 12) ∷ calling (at + 16) (svc.Use cell value) ∷ [])
IsGroupRun (rows.DefCell at own) shown to group =
    (cell : ℕ) × (value : ℕ) × NamesCell (rows.DefCell at own) cell
    × (group ≡ plain at ∷ plain (at + 4) ∷ plain (at + 8) ∷ plain (at + 12) ∷ calling (at + 16) (svc.Define cell value) ∷ [])
IsGroupRun (rows.UseAt at first len) shown to group =
    (cell : ℕ) × (value : ℕ) × NamesCell (rows.UseAt at first len) cell
    × (group ≡ map plain (element_places at) ++ calling (at + 36) (svc.Use cell value) ∷ [])
IsGroupRun (rows.DefAt at first len) shown to group =
    (cell : ℕ) × (value : ℕ) × NamesCell (rows.DefAt at first len) cell
    × (group ≡ map plain (element_places at) ++ calling (at + 36) (svc.Define cell value) ∷ [])
IsGroupRun (rows.Check at) shown to group = group ≡ plain at ∷ []

-- instructions that neither transfer control nor call the monitor
abbrev pub AreQuiet : List Entry → Type 0
AreQuiet [] = Unit {0}
AreQuiet (e ∷ es) = (is_transfer e.inst ≡ false) × (made_call e ≡ None) × AreQuiet es

-- the run stands at this address
abbrev pub StandsAt : ℕ → List Entry → Type 0
StandsAt from window = (first : Entry) × (slice_get window 0 ≡ Some first) × (pc_of first ≡ from)

-- From an address the run makes its quiet way to the next row, which is this one, and then makes the row's group, which shows these edges; it goes on at `to`, with `rest` ahead.
pub record Makes (image : Image) (op from : ℕ) (row : Row) (shown : List Edge) (to : ℕ) (window rest : List Entry) : Type 0 where
  pub stands : StandsAt from window
  pub at_row : next image.map.rows from ≡ Some row
  pub way : List Entry
  pub quiet : AreQuiet way
  pub group : List Entry
  pub made : IsGroupRun row shown to (map placed_of group)
  pub shows : executed_path image.map op group ≡ shown
  pub whole : window ≡ way ++ (group ++ rest)

-- The run executes these steps: from an address on, behind the steps before, each of them is made by the group of the row that the walk stands at, and leads the run where it leads the walk. So they come to `place`, with `rest` ahead.
abbrev pub Executes : Image → ℕ → List Step → ℕ → List Step → List Entry → ℕ → List Entry → Type 0
Executes image op before from [] window place rest = (from ≡ place) × (window ≡ rest)
Executes image op before from (step ∷ steps) window place rest =
    (row : Row) × (to : ℕ) × (others : List Entry) × RowGoes image.map row before step to
    × Makes image op from row (path_of (step ∷ [])) to window others
    × Executes image op (before ++ step ∷ []) to steps others place rest

-- The run executes a walk from its start to its end, and nothing else.
pub record ExecutesWalk (image : Image) (op : ℕ) (steps : List Step) (walk : Walk image.map op steps) (window : List Entry) : Type 0 where
  pub rest : List Entry
  pub executes : Executes image op [] walk.partial.from walk.front window walk.place rest
  pub ends : Makes image op walk.place (rows.End walk.end_address op) (edges.End op ∷ []) (after (rows.End walk.end_address op)) rest []

-- ---- lockstep

-- What the executed path gives for a return from the row at `from` to an address: a return to a site, or else a Stray.
abbrev pub IsReturn : ℕ → ℕ → Edge → Type 0
IsReturn from to edge = (edge ≡ edges.Ret from to) ⊎ (edge ≡ edges.Stray (from + 4) to)

-- Two paths are equal up to a return at the same row, where the run goes elsewhere than to the site of the matching call.
pub record PartsAt (run_path : List Edge) (run_returns : List ℕ) (path : List Edge) : Type 0 where
  pub common : List Edge
  pub from : ℕ
  pub run_to : ℕ
  pub to : ℕ
  pub shown : Edge
  pub run_rest : List Edge
  pub rest : List Edge
  pub later : List ℕ
  pub run_is : run_path ≡ common ++ shown ∷ run_rest
  pub path_is : path ≡ common ++ edges.Ret from to ∷ rest
  pub returned : IsReturn from run_to shown
  pub returns_are : run_returns ≡ returns_of common ++ run_to ∷ later
  pub matching : Returns (map moved common) to
  pub false_return : run_to ≢ to

-- each return of a path goes to the site of its matching call
abbrev pub AllReturnsMatch : List Edge → Type 0
AllReturnsMatch path = (before others : List Edge) (from to : ℕ) → path ≡ before ++ edges.Ret from to ∷ others → Returns (map moved before) to

-- Run and path part at the run's first false return: each return before it goes to the site of its matching call.
pub record PartsAtFirst (run_path : List Edge) (run_returns : List ℕ) (path : List Edge) : Type 0 where
  pub parting : PartsAt run_path run_returns path
  pub first : AllReturnsMatch parting.common

-- Up to the run's first false return it executes the walk, and there it makes the group of the same Ret row, and goes elsewhere.
pub record ExecutesUpToFirst (image : Image) (op from : ℕ) (steps : List Step) (path : List Edge) (window : List Entry) : Type 0 where
  pub at : PartsAtFirst (executed_path image.map op window) (returns_of_run window) path
  pub common : List Step
  pub path_is : path_of common ≡ at.parting.common
  pub others : List Step
  pub steps_are : steps ≡ common ++ moved (edges.Ret at.parting.from at.parting.to) ∷ others
  pub place : ℕ
  pub rest : List Entry
  pub executes : Executes image op [] from common window place rest
  pub later : List Entry
  pub returns : Makes image op place (rows.Ret at.parting.from) (at.parting.shown ∷ []) at.parting.run_to rest later

-- The run takes the accepted path, and executes its walk.
pub record TakesPath (image : Image) (op : ℕ) (steps : List Step) (walk : Walk image.map op steps) (path : List Edge) (window : List Entry) : Type 0 where
  pub executed : executed_path image.map op window ≡ path
  pub returns : returns_of_run window ≡ returns_of path
  pub executes : ExecutesWalk image op steps walk window

-- Lockstep: the run executes the walk of the accepted path, or executes it up to the run's first false return.
abbrev pub Lockstep : Type 0
Lockstep = OfAcceptedRuns (λ image session path serial before window.
    (steps : List Step) (walk : Walk image.map session.op steps) → path ≡ path_of steps
    → TakesPath image session.op steps walk path window
    ⊎ ExecutesUpToFirst image session.op walk.partial.from walk.front path window)

-- ---- same path

-- the cells that are used where a row is passed
abbrev pub AreUsedAt : Row → List ℕ → Type 0
AreUsedAt (rows.UseCell at own) cells = (cell : ℕ) × NamesCell (rows.UseCell at own) cell × (cells ≡ cell ∷ [])
AreUsedAt (rows.UseAt at first len) cells = (cell : ℕ) × NamesCell (rows.UseAt at first len) cell × (cells ≡ cell ∷ [])
AreUsedAt _ cells = cells ≡ []

-- The cells that steps use at the rows that they pass, in their order, from an address on and behind the steps before.
abbrev pub PassesCells : Map → List Step → ℕ → List Step → List ℕ → Type 0
PassesCells flow before from [] cells = cells ≡ []
PassesCells flow before from (step ∷ steps) cells =
    (row : Row) × (next flow.rows from ≡ Some row) × (to : ℕ) × RowGoes flow row before step to
    × (here others : List ℕ) × AreUsedAt row here × PassesCells flow (before ++ step ∷ []) to steps others × (cells ≡ here ++ others)

-- Same path: with equal returns the executed path is the accepted one. The run executes its walk, so that the checked uses are those of the rows that the walk passes, in order and each by its whole group; and each was read by the load of its own group.
abbrev pub SamePath : Type 0
SamePath = OfAcceptedRuns (λ image session path serial before window.
    returns_of_run window ≡ returns_of path
    → (executed_path image.map session.op window ≡ path)
    × ((steps : List Step) (walk : Walk image.map session.op steps) → path ≡ path_of steps
    → ExecutesWalk image session.op steps walk window
    × PassesCells image.map [] walk.partial.from walk.front (map (λ checked. checked.cell) (uses_in image before window)))
    × AllReadByLoad image window)

-- ---- clash and violations

-- Clash of unequal returns.
abbrev pub ClashOfUnequalReturns : Type 0
ClashOfUnequalReturns = OfAcceptedRuns (λ image session path serial before window.
    returns_of_run window ≢ returns_of path
    → Clashes (head_of (subject_of image session) serial) (returns_of_run window) (returns_of path))

-- Exact violations: the violation in a body is that of the first checked use of its window that wasn't sound.
abbrev pub ExactViolations : Type 0
ExactViolations =
    (image : Image) (session : Session) (begin_at : ℕ) (inputs : List ℤ) (writes : List Write) (n s : ℕ) (body : Body)
    → let o = opening_of image session begin_at in
    let run = dev image o inputs writes n in
    HasBody o run s body → body.head.violation ≡ first_unsound (uses_of image o s run)
