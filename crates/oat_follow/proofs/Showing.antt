-- What the entries of a journal give, from the events that they show.
use Rattle.std.proofs.Common.{◌≡◌, ℕ, Bool, true, false, cond, eqb, List, map, filter_map, [], ◌∷◌, Option, Some, None, option_and_then, refl, sym, ap, ◌∙◌, eqb-true}
use Rattle.std.specs.Option.{option_map, option_or}
use Rattle.oat_events.proofs.WindowLaws.{shown_at_once}
use Rattle.oat_journal.specs.{Inst, B, Bl, BCond, Cbz, Cbnz, Blr, Ret, Svc, is_transfer, Regs, signed, SourceEvent, Agrees, of_shown, Edge, Map, row_over, MonitorCall, call_numbered, monitor_call}
use Rattle.oat_journal.specs.{opens, seals, Run.Entry, Run.journal, Run.next_of, Run.started, Window.edge_over, Window.is_made, Window.made_call, Window.opens_window, Window.seals_window}
use Rattle.oat_journal.specs.{Window.shown_edge}
use Rattle.oat_follow.specs.{Events.MachineEvent, Events.OutputsAreShown, Events.PathsAreShown, Events.moves, Events.prints, Events.call_in, Events.edge_in, Events.events_of, Events.print_in}
use Rattle.oat_follow.specs.{Events.printed, Events.shown_call, Events.told_at, Events.told_by, Order.event_of_call}
use Rattle.oat_follow.proofs.Outputs.{outputs-are, printed_at}
use Rattle.oat_journal.specs.edges as edges
use Rattle.oat_measure.specs.declared.call.MonitorCall.TheVariants as svc

-- the call of an event that a call shows
abbrev shown : Option MonitorCall → Option MonitorCall
shown c = option_and_then call_in (shown_call c)

-- ---- one entry

abbrev edge_by : Map → ℕ → Inst → Regs → ℕ → Option Edge
edge_by flow op i r next =
    cond (is_transfer i) (edge_over flow (row_over flow.rows r.pc) r.pc next) (cond (is_made (seals op) (monitor_call i r)) (Some (edges.End op)) None)

moved-call : (o : Option Edge) → option_and_then call_in (option_map moves o) ≡ None
moved-call None = refl
moved-call (Some e) = refl

moved-print : (o : Option Edge) → option_and_then print_in (option_map moves o) ≡ None
moved-print None = refl
moved-print (Some e) = refl

moved-edge : (op : ℕ) (o : Option Edge) → o ≡ option_and_then (edge_in op) (option_map moves o)
moved-edge op None = refl
moved-edge op (Some e) = refl

call-print : (c : Option MonitorCall) → option_and_then print_in (shown_call c) ≡ None
call-print None = refl
call-print (Some (svc.Begin op at)) = refl
call-print (Some (svc.End op)) = refl
call-print (Some (svc.Bit value)) = refl
call-print (Some (svc.Target address)) = refl
call-print (Some (svc.Return address)) = refl
call-print (Some (svc.Define cell value)) = refl
call-print (Some (svc.Use cell value)) = refl

call-edge : (op : ℕ) (c : Option MonitorCall) → cond (is_made (seals op) c) (Some (edges.End op)) None ≡ option_and_then (edge_in op) (shown_call c)
call-edge op None = refl
call-edge op (Some (svc.Begin q at)) = refl
call-edge op (Some (svc.End q)) = refl
call-edge op (Some (svc.Bit value)) = refl
call-edge op (Some (svc.Target address)) = refl
call-edge op (Some (svc.Return address)) = refl
call-edge op (Some (svc.Define cell value)) = refl
call-edge op (Some (svc.Use cell value)) = refl

svc-call : (number : ℕ) (r : Regs) (t : Bool) → eqb number 9 ≡ t
    → shown (call_numbered number r) ≡ option_and_then call_in (option_or (option_map prints (cond t (Some (signed (r.x 0))) None)) (shown_call (call_numbered number r)))
svc-call number r true is = ap (λ (k : ℕ). shown (call_numbered k r)) (eqb-true number 9 is)
svc-call number r false is = refl

svc-print : (number : ℕ) (r : Regs) (t : Bool)
    → cond t (Some (signed (r.x 0))) None ≡ option_and_then print_in (option_or (option_map prints (cond t (Some (signed (r.x 0))) None)) (shown_call (call_numbered number r)))
svc-print number r true = refl
svc-print number r false = sym (call-print (call_numbered number r))

svc-edge : (op number : ℕ) (r : Regs) (t : Bool) → eqb number 9 ≡ t
    → cond (is_made (seals op) (call_numbered number r)) (Some (edges.End op)) None ≡ option_and_then (edge_in op) (option_or (option_map prints (cond t (Some (signed (r.x 0))) None)) (shown_call (call_numbered number r)))
svc-edge op number r true is = ap (λ (k : ℕ). cond (is_made (seals op) (call_numbered k r)) (Some (edges.End op)) None) (eqb-true number 9 is)
svc-edge op number r false is = call-edge op (call_numbered number r)

-- an instruction transfers control, calls, or shows nothing
module _ (flow : Map) (r : Regs) (next : ℕ) where
  abbrev edge_there : Option Edge
  edge_there = edge_over flow (row_over flow.rows r.pc) r.pc next

  by-call : (i : Inst) → shown (monitor_call i r) ≡ option_and_then call_in (told_by flow i r next)
  by-call (B z) = sym (moved-call edge_there)
  by-call (Bl z) = sym (moved-call edge_there)
  by-call (BCond c z) = sym (moved-call edge_there)
  by-call (Cbz rt z) = sym (moved-call edge_there)
  by-call (Cbnz rt z) = sym (moved-call edge_there)
  by-call (Blr rn) = sym (moved-call edge_there)
  by-call (Ret rn) = sym (moved-call edge_there)
  by-call (Svc number) = svc-call number r (eqb number 9) refl
  by-call _ = refl

  by-print : (i : Inst) → printed i r ≡ option_and_then print_in (told_by flow i r next)
  by-print (B z) = sym (moved-print edge_there)
  by-print (Bl z) = sym (moved-print edge_there)
  by-print (BCond c z) = sym (moved-print edge_there)
  by-print (Cbz rt z) = sym (moved-print edge_there)
  by-print (Cbnz rt z) = sym (moved-print edge_there)
  by-print (Blr rn) = sym (moved-print edge_there)
  by-print (Ret rn) = sym (moved-print edge_there)
  by-print (Svc number) = svc-print number r (eqb number 9)
  by-print _ = refl

  by-edge : (op : ℕ) (i : Inst) → edge_by flow op i r next ≡ option_and_then (edge_in op) (told_by flow i r next)
  by-edge op (B z) = moved-edge op edge_there
  by-edge op (Bl z) = moved-edge op edge_there
  by-edge op (BCond c z) = moved-edge op edge_there
  by-edge op (Cbz rt z) = moved-edge op edge_there
  by-edge op (Cbnz rt z) = moved-edge op edge_there
  by-edge op (Blr rn) = moved-edge op edge_there
  by-edge op (Ret rn) = moved-edge op edge_there
  by-edge op (Svc number) = svc-edge op number r (eqb number 9) refl
  by-edge op _ = refl

entry-call : (flow : Map) (e : Entry) → shown (made_call e) ≡ option_and_then call_in (told_at flow e)
entry-call flow e = by-call flow e.found.regs (next_of e) e.inst

-- ---- lists of entries

shown-prints : (flow : Map) (js : List Entry) → filter_map printed_at js ≡ filter_map print_in (events_of flow js)
shown-prints flow js = shown_at_once (told_at flow) print_in printed_at (λ e. by-print flow e.found.regs (next_of e) e.inst) js

pub paths_are_shown : PathsAreShown
paths_are_shown flow op js = shown_at_once (told_at flow) (edge_in op) (shown_edge flow op) (λ e. by-edge flow e.found.regs (next_of e) op e.inst) js

pub outputs_are_shown : OutputsAreShown
outputs_are_shown image inputs writes n = outputs-are image.code writes n (started image inputs) ∙ shown-prints image.map (journal image inputs writes n)

-- the source event that an event shows by a call
abbrev pub event_in : MachineEvent → Option (SourceEvent Edge)
event_in e = event_of_call (call_in e)

call-event : (c : Option MonitorCall) → event_of_call c ≡ event_of_call (shown c)
call-event None = refl
call-event (Some (svc.Begin op at)) = refl
call-event (Some (svc.End op)) = refl
call-event (Some (svc.Bit value)) = refl
call-event (Some (svc.Target address)) = refl
call-event (Some (svc.Return address)) = refl
call-event (Some (svc.Define cell value)) = refl
call-event (Some (svc.Use cell value)) = refl

then-event : (o : Option MachineEvent) → event_of_call (option_and_then call_in o) ≡ option_and_then event_in o
then-event None = refl
then-event (Some e) = refl

pub map-shown : {X Y : Type 0} (f : X → Y) (xs : List X) → map f xs ≡ filter_map (λ x. Some (f x)) xs
map-shown f [] = refl
map-shown {X} {Y} f (x ∷ xs) = ap (λ (rest : List Y). f x ∷ rest) (map-shown f xs)

-- the source events of the calls that entries make
pub shown-calls : (flow : Map) (js : List Entry) → filter_map event_of_call (map made_call js) ≡ filter_map event_in (events_of flow js)
shown-calls flow js =
    ap (filter_map event_of_call) (map-shown made_call js)
    ∙ sym (shown_at_once (λ (e : Entry). Some (made_call e)) event_of_call (λ (e : Entry). event_of_call (made_call e)) (λ e. refl) js)
    ∙ shown_at_once (told_at flow) event_in (λ (e : Entry). event_of_call (made_call e))
    (λ e. call-event (made_call e) ∙ ap event_of_call (entry-call flow e) ∙ then-event (told_at flow e)) js

-- ---- tests of calls

shown-opens : (op at : ℕ) (c : Option MonitorCall) → is_made (opens op at) c ≡ is_made (opens op at) (shown c)
shown-opens op at None = refl
shown-opens op at (Some (svc.Begin q a)) = refl
shown-opens op at (Some (svc.End q)) = refl
shown-opens op at (Some (svc.Bit value)) = refl
shown-opens op at (Some (svc.Target address)) = refl
shown-opens op at (Some (svc.Return address)) = refl
shown-opens op at (Some (svc.Define cell value)) = refl
shown-opens op at (Some (svc.Use cell value)) = refl

shown-seals : (op : ℕ) (c : Option MonitorCall) → is_made (seals op) c ≡ is_made (seals op) (shown c)
shown-seals op None = refl
shown-seals op (Some (svc.Begin q a)) = refl
shown-seals op (Some (svc.End q)) = refl
shown-seals op (Some (svc.Bit value)) = refl
shown-seals op (Some (svc.Target address)) = refl
shown-seals op (Some (svc.Return address)) = refl
shown-seals op (Some (svc.Define cell value)) = refl
shown-seals op (Some (svc.Use cell value)) = refl

in-shown : (t : MonitorCall → Bool) (o : Option MachineEvent) → is_made t (option_and_then call_in o) ≡ of_shown (λ (e : MachineEvent). is_made t (call_in e)) o
in-shown t None = refl
in-shown t (Some e) = refl

pub opens-agree : (flow : Map) (op at : ℕ) → Agrees (told_at flow) (opens_window made_call op at) (opens_window call_in op at)
opens-agree flow op at e = shown-opens op at (made_call e) ∙ ap (is_made (opens op at)) (entry-call flow e) ∙ in-shown (opens op at) (told_at flow e)

pub seals-agree : (flow : Map) (op : ℕ) → Agrees (told_at flow) (seals_window made_call op) (seals_window call_in op)
seals-agree flow op e = shown-seals op (made_call e) ∙ ap (is_made (seals op)) (entry-call flow e) ∙ in-shown (seals op) (told_at flow e)
