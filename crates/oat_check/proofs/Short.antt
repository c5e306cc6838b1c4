-- How much a run shows.
use Rattle.std.proofs.Common.{◌||◌, ◌≡◌, ◌+◌, ◌≤◌, ℕ, zero, suc, Bool, true, false, cond, eqb, ltb, leb, List, [], ◌∷◌, ◌++◌, length, Option, Some, None, refl, sym, ap, subst, ◌∙◌, inl, inr, arith, ℤ}
use Rattle.std.proofs.Common.{le_trans, length-append, ◌-◌}
use Rattle.std.specs.{Prelude.is_some, List.filter_map, List.cons_option, List.list_any}
use Rattle.std.proofs.lemmas.{Bool.cases_Bool, List.Elements.filter_map-append}
use Rattle.oat_events.specs.{Index, NullCall, Depth, Events.SourceEvent, Events.enters, Events.is_entered, Events.is_left, Events.leaves, Events.loads, Events.outputs, Events.stores, Events.takes}
use Rattle.oat_events.specs.{Source.edge_taken, Source.load_in, Source.output_in, Source.shown_from, Windows.beyond, Windows.inside, Windows.past, Windows.through}
use Rattle.oat_ir.specs.{declared.program.Program.Program, declared.instr.Instr.Instr, declared.instr.Instr.TheVariants.Const, declared.instr.Instr.TheVariants.Copy}
use Rattle.oat_ir.specs.{declared.instr.Instr.TheVariants.Binary, declared.instr.Instr.TheVariants.Load, declared.instr.Instr.TheVariants.Store, declared.instr.Instr.TheVariants.LoadX}
use Rattle.oat_ir.specs.{declared.instr.Instr.TheVariants.StoreX, declared.instr.Instr.TheVariants.RefTo, declared.instr.Instr.TheVariants.Call, declared.instr.Instr.TheVariants.ICall}
use Rattle.oat_ir.specs.{declared.instr.Instr.TheVariants.Input, declared.instr.Instr.TheVariants.Output, declared.instr.Term.Term, declared.instr.Term.TheVariants.Jump}
use Rattle.oat_ir.specs.{declared.instr.Term.TheVariants.Branch, declared.instr.Term.TheVariants.Ret, declared.instr.Term.TheVariants.Halt}
use Rattle.oat_check.specs.{Globals.cell_number, Globals.length_at, Lines.CodeLine, Lines.instruction, Lines.terminator, Operators.result_of, RunLaws.RunsAreShort, Runs.source_events, Runs.source_of}
use Rattle.oat_check.specs.{Runs.source_start, Steps.Frame, Steps.LineEdge, Steps.Next, Steps.SourceState, Steps.at_line, Steps.branches, Steps.calls, Steps.closes, Steps.computes, Steps.current_line}
use Rattle.oat_check.specs.{Steps.does, Steps.entered, Steps.finishes, Steps.gives, Steps.goes_to, Steps.icalls, Steps.jumps, Steps.line_place, Steps.operation_of, Steps.reads, Steps.returns}
use Rattle.oat_check.specs.{Steps.runs, Steps.shows, Steps.silent, Steps.source_step, Steps.takes_in, Steps.traps_by, Steps.writes}

abbrev Es : Type 0
Es = List (SourceEvent LineEdge)

abbrev taken : SourceEvent LineEdge → Option LineEdge
taken (takes edge) = Some edge
taken _ = None

abbrev edges : Es → ℕ
edges es = length (filter_map taken es)

abbrev loaded : Es → ℕ
loaded es = length (filter_map load_in es)

abbrev put : Es → ℕ
put es = length (filter_map output_in es)

-- an operation is entered right behind an edge
abbrev Led : Bool → Es → Type 0
Led b [] = Unit {0}
Led b (takes edge ∷ es) = Led true es
Led b (enters op ∷ es) = (b ≡ true) × Led false es
Led b (leaves op ∷ es) = Led false es
Led b (loads cell value ∷ es) = Led false es
Led b (stores cell value ∷ es) = Led false es
Led b (outputs value ∷ es) = Led false es

led-any : (b : Bool) (es : Es) → Led false es → Led b es
led-any b [] h = tt
led-any b (takes edge ∷ es) h = h
led-any b (enters op ∷ es) h = let no : false ≡ true = h.0 in absurd (cc)
led-any b (leaves op ∷ es) h = h
led-any b (loads cell value ∷ es) h = h
led-any b (stores cell value ∷ es) h = h
led-any b (outputs value ∷ es) h = h

led-join : (b : Bool) (xs ys : Es) → Led b xs → Led false ys → Led b (xs ++ ys)
led-join b [] ys h k = led-any b ys k
led-join b (takes edge ∷ es) ys h k = led-join true es ys h k
led-join b (enters op ∷ es) ys h k = (h.0, led-join false es ys h.1 k)
led-join b (leaves op ∷ es) ys h k = led-join false es ys h k
led-join b (loads cell value ∷ es) ys h k = led-join false es ys h k
led-join b (stores cell value ∷ es) ys h k = led-join false es ys h k
led-join b (outputs value ∷ es) ys h k = led-join false es ys h k

-- ---- a step

pub record IsShort (es : Es) : Type 0 where
  pub edges_few : edges es ≤ 1
  pub loads_few : loaded es ≤ 1
  pub outputs_few : put es ≤ 1
  pub led : Led false es

none_short : IsShort []
none_short = record { edges_few = omega arith; loads_few = omega arith; outputs_few = omega arith; led = tt }

edge_short : (edge : LineEdge) → IsShort (takes edge ∷ [])
edge_short edge = record { edges_few = omega arith; loads_few = omega arith; outputs_few = omega arith; led = tt }

load_short : (o : Option ℕ) (value : ℕ) → IsShort (shows o (λ cell. loads cell value))
load_short None value = none_short
load_short (Some c) value = record { edges_few = omega arith; loads_few = omega arith; outputs_few = omega arith; led = tt }

store_short : (o : Option ℕ) (value : ℕ) → IsShort (shows o (λ cell. stores cell value))
store_short None value = none_short
store_short (Some c) value = record { edges_few = omega arith; loads_few = omega arith; outputs_few = omega arith; led = tt }

enter_short : (edge : LineEdge) (o : Option ℕ) → IsShort (takes edge ∷ shows o enters)
enter_short edge None = edge_short edge
enter_short edge (Some op) = record { edges_few = omega arith; loads_few = omega arith; outputs_few = omega arith; led = (refl, tt) }

leave_short : (edge : LineEdge) (o : Option ℕ) → IsShort (shows o leaves ++ takes edge ∷ [])
leave_short edge None = edge_short edge
leave_short edge (Some op) = record { edges_few = omega arith; loads_few = omega arith; outputs_few = omega arith; led = tt }

either : (t : Bool) (a b : Next) → IsShort a.shown → IsShort b.shown → IsShort (cond t a b).shown
either true a b h k = h
either false a b h k = k

runs_short : (p : Program) (s : SourceState) (edge : LineEdge) (g : ℕ) (args : List ℕ) → IsShort (runs p s edge g args).shown
runs_short p s edge g args = either (leb 256 (length s.callers)) (traps_by s Depth) (record { state = entered s g args; shown = takes edge ∷ shows (operation_of p g) enters }) none_short (enter_short edge (operation_of p g))

does_short : (p : Program) (s : SourceState) (i : Instr) → IsShort (does p s s.frame.locals i).shown
does_short p s (Const x value) = none_short
does_short p s (Copy x y) = none_short
does_short p s (Binary op x y z) = by (result_of op (s.frame.locals y) (s.frame.locals z)) where
  by : (o : Option ℕ) → IsShort (computes s x o).shown
  by None = none_short
  by (Some v) = none_short
does_short p s (Load x g) = load_short (cell_number p g 0) (s.globals g 0)
does_short p s (Store g x) = store_short (cell_number p g 0) (s.frame.locals x)
does_short p s (LoadX x g i) = either (ltb (s.frame.locals i) (length_at p g)) (reads p s x g (s.frame.locals i)) (traps_by s Index) (load_short (cell_number p g (s.frame.locals i)) (s.globals g (s.frame.locals i))) none_short
does_short p s (StoreX g i x) = either (ltb (s.frame.locals i) (length_at p g)) (writes p s g (s.frame.locals i) (s.frame.locals x)) (traps_by s Index) (store_short (cell_number p g (s.frame.locals i)) (s.frame.locals x)) none_short
does_short p s (RefTo x g) = none_short
does_short p s (Call x g args) = runs_short p s (calls (line_place s.frame) g) g args
does_short p s (ICall x y args) = either (eqb (s.frame.locals y) 0) (traps_by s NullCall) (runs p s (icalls (line_place s.frame) (s.frame.locals y - 1)) (s.frame.locals y - 1) args) none_short (runs_short p s (icalls (line_place s.frame) (s.frame.locals y - 1)) (s.frame.locals y - 1) args)
does_short p s (Input x) = by s.inputs where
  by : (inputs : List ℤ) → IsShort (takes_in s x inputs).shown
  by [] = none_short
  by (v ∷ rest) = none_short
does_short p s (Output x) = record { edges_few = omega arith; loads_few = omega arith; outputs_few = omega arith; led = tt }

closes_short : (p : Program) (s : SourceState) (t : Term) → IsShort (closes p s s.frame.locals t).shown
closes_short p s (Jump to) = edge_short (jumps (line_place s.frame) to)
closes_short p s (Branch x first second) =
    either (eqb (s.frame.locals x) 0) (goes_to s (branches (line_place s.frame) false second) second) (goes_to s (branches (line_place s.frame) true first) first)
    (edge_short (branches (line_place s.frame) false second)) (edge_short (branches (line_place s.frame) true first))
closes_short p s (Ret x) = by s.callers where
  by : (callers : List Frame) → IsShort (gives p s (s.frame.locals x) callers).shown
  by [] = none_short
  by (c ∷ cs) = leave_short (returns (line_place s.frame) (line_place c)) (operation_of p s.frame.func)
closes_short p s Halt = none_short

step_short : (p : Program) (s : SourceState) → IsShort (source_step p s).shown
step_short p s = either (is_some s.end) (silent s) (at_line p s (current_line p s.frame)) none_short (by (current_line p s.frame)) where
  by : (o : Option CodeLine) → IsShort (at_line p s o).shown
  by None = none_short
  by (Some (instruction i)) = does_short p s i
  by (Some (terminator t)) = closes_short p s t

-- ---- a run

shown-len : {X : Type 0} (f : SourceEvent LineEdge → Option X) (xs ys : Es) → length (filter_map f (xs ++ ys)) ≡ length (filter_map f xs) + length (filter_map f ys)
shown-len f xs ys = ap length (filter_map-append f xs ys) ∙ length-append (filter_map f xs) (filter_map f ys)

pub record AreShort (n : ℕ) (es : Es) : Type 0 where
  pub edges_few : edges es ≤ n
  pub loads_few : loaded es ≤ n
  pub outputs_few : put es ≤ n
  pub led : Led false es

run_short : (p : Program) (inputs : List ℤ) (n : ℕ) (s : SourceState) → AreShort n (shown_from (source_of p inputs) n s)
run_short p inputs zero s = record { edges_few = omega arith; loads_few = omega arith; outputs_few = omega arith; led = tt }
run_short p inputs (suc n) s =
    let one = step_short p s in
    let rest = run_short p inputs n (source_step p s).state in
    let later : Es = shown_from (source_of p inputs) n (source_step p s).state in
    let a : edges ((source_step p s).shown ++ later) ≡ edges (source_step p s).shown + edges later = shown-len taken (source_step p s).shown later in
    let b : loaded ((source_step p s).shown ++ later) ≡ loaded (source_step p s).shown + loaded later = shown-len load_in (source_step p s).shown later in
    let c : put ((source_step p s).shown ++ later) ≡ put (source_step p s).shown + put later = shown-len output_in (source_step p s).shown later in
    let a1 : edges (source_step p s).shown ≤ 1 = one.edges_few in
    let b1 : loaded (source_step p s).shown ≤ 1 = one.loads_few in
    let c1 : put (source_step p s).shown ≤ 1 = one.outputs_few in
    let a2 : edges later ≤ n = rest.edges_few in
    let b2 : loaded later ≤ n = rest.loads_few in
    let c2 : put later ≤ n = rest.outputs_few in
    record { edges_few = omega arith; loads_few = omega arith; outputs_few = omega arith; led = led-join false (source_step p s).shown later one.led rest.led }

-- ---- windows

one-more : {X : Type 0} (o : Option X) (xs : List X) → length xs ≤ length (cons_option o xs)
one-more None xs = omega arith
one-more (Some x) xs = omega arith

beyond_less : {X : Type 0} (f : SourceEvent LineEdge → Option X) (t : SourceEvent LineEdge → Bool) (es : Es) → length (filter_map f (beyond t es)) ≤ length (filter_map f es)
beyond_less f t [] = omega arith
beyond_less f t (e ∷ es) = by (t e) (beyond_less f t es) (one-more (f e) (filter_map f es)) where
  by : (b : Bool) → length (filter_map f (beyond t es)) ≤ length (filter_map f es) → length (filter_map f es) ≤ length (cons_option (f e) (filter_map f es))
      → length (filter_map f (cond b es (beyond t es))) ≤ length (cons_option (f e) (filter_map f es))
  by true rest more = more
  by false rest more = omega arith

both-more : {X : Type 0} (o : Option X) (xs ys : List X) → length xs ≤ length ys → length (cons_option o xs) ≤ length (cons_option o ys)
both-more None xs ys h = h
both-more (Some x) xs ys h = omega arith

through_less : {X : Type 0} (f : SourceEvent LineEdge → Option X) (t : SourceEvent LineEdge → Bool) (es : Es) → length (filter_map f (through t es)) ≤ length (filter_map f es)
through_less f t [] = omega arith
through_less f t (e ∷ es) = by (t e) (through_less f t es) where
  by : (b : Bool) → length (filter_map f (through t es)) ≤ length (filter_map f es) → length (filter_map f (cond b (e ∷ []) (e ∷ through t es))) ≤ length (cons_option (f e) (filter_map f es))
  by true rest = both-more (f e) [] (filter_map f es) (omega arith)
  by false rest = both-more (f e) (filter_map f (through t es)) (filter_map f es) rest

inside_less : {X : Type 0} (f : SourceEvent LineEdge → Option X) (opens seals : SourceEvent LineEdge → Bool) (s : ℕ) (es : Es) → length (filter_map f (inside opens seals s es)) ≤ length (filter_map f es)
inside_less f opens seals zero es = le_trans (through_less f seals (beyond opens es)) (beyond_less f opens es)
inside_less f opens seals (suc s) es = le_trans (inside_less f opens seals s (past opens seals es)) (le_trans (beyond_less f seals (beyond opens es)) (beyond_less f opens es))

-- ---- paths

window_path : (op : ℕ) (es : Es) → length (filter_map (edge_taken finishes op) (through (is_left op) es)) ≤ edges es + 1
window_path op [] = omega arith
window_path op (takes edge ∷ es) = let r = window_path op es in omega arith
window_path op (enters other ∷ es) = window_path op es
window_path op (leaves other ∷ es) = elim (cases_Bool (eqb other op)) [
  | inl hit ↦ rw (hit, hit) (last (edges es))
  | inr off ↦ rw (off, off) (window_path op es)
] where
  last : (n : ℕ) → 1 ≤ n + 1
  last n = omega arith
window_path op (loads cell value ∷ es) = window_path op es
window_path op (stores cell value ∷ es) = window_path op es
window_path op (outputs value ∷ es) = window_path op es

-- behind where it is entered there is one edge less
weak : (c : Bool) (m n : ℕ) → m + 1 ≤ n + 0 → m + 1 ≤ n + cond c 1 0
weak true m n l = omega arith
weak false m n l = l

entered_edges : (op : ℕ) (b : Bool) (es : Es) → Led b es → list_any (is_entered op) es ≡ true → edges (beyond (is_entered op) es) + 1 ≤ edges es + cond b 1 0
entered_edges op b [] h any = absurd (cc)
entered_edges op b (takes edge ∷ es) h any = more (edges (beyond (is_entered op) es)) (edges es) b (entered_edges op true es h any) where
  more : (m n : ℕ) (c : Bool) → m + 1 ≤ n + 1 → m + 1 ≤ suc n + cond c 1 0
  more m n true l = omega arith
  more m n false l = omega arith
entered_edges op b (enters other ∷ es) h any = elim (cases_Bool (eqb other op)) [
  | inl hit ↦ rw hit (subst (λ (c : Bool). edges es + 1 ≤ edges es + cond c 1 0) (sym h.0) (omega arith))
  | inr off ↦ rw off (weaker b (entered_edges op false es h.1 (rw off at any)))
] where
  weaker : (c : Bool) → edges (beyond (is_entered op) es) + 1 ≤ edges es + 0 → edges (beyond (is_entered op) es) + 1 ≤ edges es + cond c 1 0
  weaker true l = omega arith
  weaker false l = l
entered_edges op b (leaves other ∷ es) h any = weak b _ _ (entered_edges op false es h any)
entered_edges op b (loads cell value ∷ es) h any = weak b _ _ (entered_edges op false es h any)
entered_edges op b (stores cell value ∷ es) h any = weak b _ _ (entered_edges op false es h any)
entered_edges op b (outputs value ∷ es) h any = weak b _ _ (entered_edges op false es h any)

led_beyond_enter : (op : ℕ) (b : Bool) (es : Es) → Led b es → Led false (beyond (is_entered op) es)
led_beyond_enter op b [] h = tt
led_beyond_enter op b (takes edge ∷ es) h = led_beyond_enter op true es h
led_beyond_enter op b (enters other ∷ es) h = by (eqb other op) (led_beyond_enter op false es h.1) where
  by : (c : Bool) → Led false (beyond (is_entered op) es) → Led false (cond c es (beyond (is_entered op) es))
  by true rest = h.1
  by false rest = rest
led_beyond_enter op b (leaves other ∷ es) h = led_beyond_enter op false es h
led_beyond_enter op b (loads cell value ∷ es) h = led_beyond_enter op false es h
led_beyond_enter op b (stores cell value ∷ es) h = led_beyond_enter op false es h
led_beyond_enter op b (outputs value ∷ es) h = led_beyond_enter op false es h

led_beyond_leave : (op : ℕ) (b : Bool) (es : Es) → Led b es → Led false (beyond (is_left op) es)
led_beyond_leave op b [] h = tt
led_beyond_leave op b (takes edge ∷ es) h = led_beyond_leave op true es h
led_beyond_leave op b (enters other ∷ es) h = led_beyond_leave op false es h.1
led_beyond_leave op b (leaves other ∷ es) h = by (eqb other op) (led_beyond_leave op false es h) where
  by : (c : Bool) → Led false (beyond (is_left op) es) → Led false (cond c es (beyond (is_left op) es))
  by true rest = h
  by false rest = rest
led_beyond_leave op b (loads cell value ∷ es) h = led_beyond_leave op false es h
led_beyond_leave op b (stores cell value ∷ es) h = led_beyond_leave op false es h
led_beyond_leave op b (outputs value ∷ es) h = led_beyond_leave op false es h

nothing-beyond : (t : SourceEvent LineEdge → Bool) (es : Es) → list_any t es ≡ false → beyond t es ≡ []
nothing-beyond t [] h = refl
nothing-beyond t (e ∷ es) h = by (t e) (λ k. nothing-beyond t es k) h where
  by : (b : Bool) → (list_any t es ≡ false → beyond t es ≡ []) → (b || list_any t es) ≡ false → cond b es (beyond t es) ≡ []
  by true rest k = absurd (cc)
  by false rest k = rest k

paths_short : (op s : ℕ) (es : Es) → Led false es → length (filter_map (edge_taken finishes op) (inside (is_entered op) (is_left op) s es)) ≤ edges es
paths_short op zero es h = elim (cases_Bool (list_any (is_entered op) es)) [
  | inl any ↦ le_trans (window_path op (beyond (is_entered op) es)) (let r : edges (beyond (is_entered op) es) + 1 ≤ edges es + 0 = entered_edges op false es h any in omega arith)
  | inr none ↦ subst (λ (xs : Es). length (filter_map (edge_taken finishes op) (through (is_left op) xs)) ≤ edges es) (sym (nothing-beyond (is_entered op) es none)) (omega arith)
]
paths_short op (suc s) es h =
    le_trans (paths_short op s (past (is_entered op) (is_left op) es) (led_beyond_leave op false (beyond (is_entered op) es) (led_beyond_enter op false es h)))
    (le_trans (beyond_less taken (is_left op) (beyond (is_entered op) es)) (beyond_less taken (is_entered op) es))

pub runs_are_short : RunsAreShort
runs_are_short p inputs n op s =
    let k = run_short p inputs n (source_start p inputs) in (
      le_trans (paths_short op s (source_events p inputs n) k.led) k.edges_few,
      le_trans (inside_less load_in (is_entered op) (is_left op) s (source_events p inputs n)) k.loads_few,
      k.outputs_few,
    )
