-- What a run of an image shows to the outside, instruction by instruction: edges, calls of the monitor, and outputs.
use Rattle.std.specs.{Prelude.◌≡◌, Prelude.ℕ, Prelude.ℤ, Prelude.nat_eq, Prelude.if◌then◌else◌, Prelude.List, Prelude.Option, Prelude.Some, Prelude.None, Option.option_map, Option.option_or}
use Rattle.std.specs.{List.filter_map}
use Rattle.oat_journal.specs.{Inst, Svc, is_transfer, Regs, signed, Write, Image, Edge, Map, row_over, MonitorCall, monitor_call, seals, Run.Entry, Run.bare, Run.journal, Run.next_of}
use Rattle.oat_journal.specs.{Window.edge_over, Window.executed_path}
use Rattle.oat_journal.specs.edges as edges
use Rattle.oat_measure.specs.declared.call.MonitorCall.TheVariants as svc

pub data MachineEvent : Type 0 where
  moves : (edge : Edge) → MachineEvent
  monitors : (call : MonitorCall) → MachineEvent
  prints : (value : ℤ) → MachineEvent

-- SVC 9 puts X0
abbrev pub printed : Inst → Regs → Option ℤ
printed (Svc number) r = if nat_eq number 9 then Some (signed (r.x 0)) else None
printed _ r = None

-- Bits, targets and returns repeat what an edge shows.
abbrev pub shown_call : Option MonitorCall → Option MachineEvent
shown_call (Some (svc.Bit value)) = None
shown_call (Some (svc.Target address)) = None
shown_call (Some (svc.Return address)) = None
shown_call (Some call) = Some (monitors call)
shown_call None = None

-- what an instruction shows, by the registers before it and the next PC
abbrev pub told_by : Map → Inst → Regs → ℕ → Option MachineEvent
told_by flow i r next =
    if is_transfer i then option_map moves (edge_over flow (row_over flow.rows r.pc) r.pc next)
    else option_or (option_map prints (printed i r)) (shown_call (monitor_call i r))

abbrev pub told_at : Map → Entry → Option MachineEvent
told_at flow e = told_by flow e.inst e.found.regs (next_of e)

-- the events of a journal
abbrev pub events_of : Map → List Entry → List MachineEvent
events_of flow js = filter_map (told_at flow) js

-- ---- what an event gives

abbrev pub call_in : MachineEvent → Option MonitorCall
call_in (monitors call) = Some call
call_in _ = None

abbrev pub print_in : MachineEvent → Option ℤ
print_in (prints value) = Some value
print_in _ = None

-- in a window of the operation
abbrev pub edge_in : ℕ → MachineEvent → Option Edge
edge_in op (moves edge) = Some edge
edge_in op (monitors call) = if seals op call then Some (edges.End op) else None
edge_in op (prints value) = None

-- ---- what a run and a window show

abbrev pub OutputsAreShown : Type 0
OutputsAreShown =
    (image : Image) (inputs : List ℤ) (writes : List Write) (n : ℕ)
    → (bare image inputs writes n).outputs ≡ filter_map print_in (events_of image.map (journal image inputs writes n))

abbrev pub PathsAreShown : Type 0
PathsAreShown = (flow : Map) (op : ℕ) (js : List Entry) → executed_path flow op js ≡ filter_map (edge_in op) (events_of flow js)
