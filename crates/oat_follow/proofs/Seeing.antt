-- What events give as they are seen on a machine, by what they give themselves.
use Rattle.std.proofs.Common.{◌≡◌, ℕ, Bool, true, false, cond, ◌&&◌, eqb, List, map, filter_map, Option, Some, None, option_map, option_and_then, refl, sym, ap, ◌∙◌, eqb-true, eq-eqb}
use Rattle.oat_events.proofs.WindowLaws.{shown_at_once}
use Rattle.oat_journal.specs.{SourceEvent, takes, enters, leaves, loads, stores, outputs, is_entered, is_left, CellValue, edge_taken, load_in, output_in, store_in, Agrees, Edge, MonitorCall}
use Rattle.oat_journal.specs.{Run.Entry, Window.made_call, Window.opens_window, Window.seals_window}
use Rattle.oat_follow.specs.{Events.MachineEvent, Events.call_in, Events.edge_in, Events.print_in, Order.event_of_call, Order.value_defined, Placement.Placement, Placement.seen_at}
use Rattle.oat_follow.proofs.Showing.{event_in, map-shown}
use Rattle.oat_journal.specs.edges as edges
use Rattle.oat_measure.specs.declared.call.MonitorCall.TheVariants as svc

enter-agrees : (q op at begun : ℕ) → (q ≡ op → begun ≡ at) → (b : Bool) → eqb q op ≡ b → b ≡ (b && eqb begun at)
enter-agrees q op at begun same true is = sym (eq-eqb begun at (same (eqb-true q op is)))
enter-agrees q op at begun same false is = refl

pub enters-agree : {E : Type 0} (p : Placement E) (op at : ℕ) → at ≡ p.begin op → Agrees (λ (e : SourceEvent E). Some (seen_at p e)) (is_entered op) (opens_window call_in op at)
enters-agree p op at begun (takes edge) = refl
enters-agree p op at begun (enters q) =
    enter-agrees q op at (p.begin q) (λ (same : q ≡ op). ap (λ (n : ℕ). p.begin n) same ∙ sym begun) (eqb q op) refl
enters-agree p op at begun (leaves q) = refl
enters-agree p op at begun (loads cell value) = refl
enters-agree p op at begun (stores cell value) = refl
enters-agree p op at begun (outputs value) = refl

pub leaves-agree : {E : Type 0} (p : Placement E) (op : ℕ) → Agrees (λ (e : SourceEvent E). Some (seen_at p e)) (is_left op) (seals_window call_in op)
leaves-agree p op (takes edge) = refl
leaves-agree p op (enters q) = refl
leaves-agree p op (leaves q) = refl
leaves-agree p op (loads cell value) = refl
leaves-agree p op (stores cell value) = refl
leaves-agree p op (outputs value) = refl

pub output-seen : {E : Type 0} (p : Placement E) (e : SourceEvent E) → output_in e ≡ option_and_then print_in (Some (seen_at p e))
output-seen p (takes edge) = refl
output-seen p (enters q) = refl
output-seen p (leaves q) = refl
output-seen p (loads cell value) = refl
output-seen p (stores cell value) = refl
output-seen p (outputs value) = refl

abbrev pub load_seen : MachineEvent → Option CellValue
load_seen e = option_and_then load_in (event_in e)

abbrev pub store_seen : MachineEvent → Option CellValue
store_seen e = option_and_then store_in (event_in e)

pub load-seen : {E : Type 0} (p : Placement E) (e : SourceEvent E) → load_in e ≡ option_and_then load_seen (Some (seen_at p e))
load-seen p (takes edge) = refl
load-seen p (enters q) = refl
load-seen p (leaves q) = refl
load-seen p (loads cell value) = refl
load-seen p (stores cell value) = refl
load-seen p (outputs value) = refl

pub store-seen : {E : Type 0} (p : Placement E) (e : SourceEvent E) → store_in e ≡ option_and_then store_seen (Some (seen_at p e))
store-seen p (takes edge) = refl
store-seen p (enters q) = refl
store-seen p (leaves q) = refl
store-seen p (loads cell value) = refl
store-seen p (stores cell value) = refl
store-seen p (outputs value) = refl

define-call : (c : Option MonitorCall) → value_defined c ≡ option_and_then store_in (event_of_call c)
define-call None = refl
define-call (Some (svc.Begin q at)) = refl
define-call (Some (svc.End q)) = refl
define-call (Some (svc.Bit value)) = refl
define-call (Some (svc.Target address)) = refl
define-call (Some (svc.Return address)) = refl
define-call (Some (svc.Define cell value)) = refl
define-call (Some (svc.Use cell value)) = refl

end-seen : {E : Type 0} (place : E → Edge) (finish : ℕ → E) (op : ℕ) → place (finish op) ≡ edges.End op → (b : Bool)
    → option_map place (cond b (Some (finish op)) None) ≡ cond b (Some (edges.End op)) None
end-seen place finish op is true = ap Some is
end-seen place finish op is false = refl

edge-seen : {E : Type 0} (p : Placement E) (finish : ℕ → E) (op : ℕ) → p.edge (finish op) ≡ edges.End op → (e : SourceEvent E)
    → option_map p.edge (edge_taken finish op e) ≡ option_and_then (edge_in op) (Some (seen_at p e))
edge-seen p finish op is (takes edge) = refl
edge-seen p finish op is (enters q) = refl
edge-seen p finish op is (leaves q) = end-seen p.edge finish op is (eqb q op)
edge-seen p finish op is (loads cell value) = refl
edge-seen p finish op is (stores cell value) = refl
edge-seen p finish op is (outputs value) = refl

map-then : {A B : Type 0} (f : A → B) (o : Option A) → option_map f o ≡ option_and_then (λ (a : A). Some (f a)) o
map-then f None = refl
map-then f (Some a) = refl

-- what is given by seen events, by the events
pub of-seen : {E Z : Type 0} (p : Placement E) (g : MachineEvent → Option Z) (h : SourceEvent E → Option Z) → ((e : SourceEvent E) → h e ≡ option_and_then g (Some (seen_at p e)))
    → (es : List (SourceEvent E)) → filter_map g (map (seen_at p) es) ≡ filter_map h es
of-seen {E} p g h same es =
    ap (filter_map g) (map-shown (seen_at p) es) ∙ sym (shown_at_once (λ (e : SourceEvent E). Some (seen_at p e)) g h same es)

pub path-seen : {E : Type 0} (p : Placement E) (finish : ℕ → E) (op : ℕ) → p.edge (finish op) ≡ edges.End op → (es : List (SourceEvent E))
    → filter_map (edge_in op) (map (seen_at p) es) ≡ map p.edge (filter_map (edge_taken finish op) es)
path-seen {E} p finish op is es =
    of-seen p (edge_in op) (λ (e : SourceEvent E). option_map p.edge (edge_taken finish op e)) (edge-seen p finish op is) es
    ∙ shown_at_once (edge_taken finish op) (λ (a : E). Some (p.edge a)) (λ (e : SourceEvent E). option_map p.edge (edge_taken finish op e)) (λ e. map-then p.edge (edge_taken finish op e)) es
    ∙ sym (map-shown p.edge (filter_map (edge_taken finish op) es))

-- the defines of entries, by the source events of their calls
pub defines-made : (js : List Entry) → filter_map (λ (e : Entry). value_defined (made_call e)) js ≡ filter_map store_in (filter_map event_of_call (map made_call js))
defines-made js =
    shown_at_once (λ (e : Entry). event_of_call (made_call e)) store_in (λ (e : Entry). value_defined (made_call e)) (λ e. define-call (made_call e)) js
    ∙ ap (filter_map store_in) (shown_at_once (λ (e : Entry). Some (made_call e)) event_of_call (λ (e : Entry). event_of_call (made_call e)) (λ e. refl) js
    ∙ ap (filter_map event_of_call) (sym (map-shown made_call js)))
