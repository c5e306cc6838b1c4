-- Frames at their lines, and the parts of steps that lead from line to line.
use Rattle.std.proofs.Common.{◌≡◌, ◌+◌, ◌<◌, ◌≤◌, ℕ, zero, suc, Bool, true, false, cond, List, [], ◌∷◌, length, get_or, map, Option, option_map, Some, None, refl, ap, ◌∙◌, arith, eqb, ltb, leb}
use Rattle.std.specs.{Prelude.slice_get, Option.option_and_then}
use Rattle.std.proofs.lemmas.{Bool.lt-ltb, Bool.le-ltb, Bool.eq-eqb, Bool.leb-false, Option.slice_get_within}
use Rattle.oat_events.specs.{Index, Depth, Cells.defined, Events.Passes, Events.SourceEvent, Events.Stacks, Source.Finish, Source.trapped}
use Rattle.oat_ir.specs.{declared.program.Program.Program, declared.program.GlobalItem.GlobalItem, declared.func.Func.Func, declared.func.BlockIr.BlockIr, declared.func.Ty.Ty}
use Rattle.oat_ir.specs.{declared.instr.Instr.Instr, WellFormed.IsFunc}
use Rattle.oat_check.specs.{Active.active_of, Active.cells_at, Active.line_turn, Active.operation_active, Globals.cell_number, Globals.cell_values, Globals.length_at, Globals.put}
use Rattle.oat_check.specs.{Globals.size_in_cells, Keeping.AreLocals, Keeping.IsCaller, Keeping.IsConsistent, Keeping.IsFrame, Keeping.IsLawful, Keeping.IsValue, Keeping.MayCall, Keeping.item_ty}
use Rattle.oat_check.specs.{Lines.instruction, Lines.line_in, Lines.terminator, Rules.IsChecked, Rules.are_as, Rules.local_ty, Rules.parameters, Steps.Frame, Steps.LineEdge, Steps.Next}
use Rattle.oat_check.specs.{Steps.SourceState, Steps.assigned, Steps.current_line, Steps.ends_by, Steps.entered, Steps.goes_to, Steps.in_array, Steps.line_place, Steps.onward, Steps.operation_of}
use Rattle.oat_check.specs.{Steps.reads, Steps.runs, Steps.sets, Steps.shows, Steps.silent, Steps.traps_by, Steps.writes}
use Rattle.oat_check.proofs.{Checking.func_formed, Cells.element_told, Cells.element_stored, Cells.elements_stay, Locals.locals_assigned, Locals.globals_put, Locals.locals_entered, Turning.Turns}
use Rattle.oat_check.proofs.{Turning.call_turns, Turning.stay_turns}
use Rattle.oat_events.specs.Events as event
use Rattle.oat_events.specs.turn as turn

-- ---- lines

pub line_is : (p : Program) (f : Frame) (st : IsFrame p f) → current_line p f ≡ line_in st.block f.line
line_is p f st =
    ap (option_and_then (λ func. option_and_then (λ b. line_in b f.line) (slice_get func.blocks f.block))) st.func_is
    ∙ ap (option_and_then (λ b. line_in b f.line)) st.block_is

pub instr_is : (b : BlockIr) (n : ℕ) (i : Instr) → slice_get b.instrs n ≡ Some i → line_in b n ≡ Some (instruction i)
instr_is b n i is =
    ap (λ (t : Bool). cond t (option_map instruction (slice_get b.instrs n)) (cond (eqb n (length b.instrs)) (Some (terminator b.term)) None)) (lt-ltb n (length b.instrs) (slice_get_within b.instrs n i is))
    ∙ ap (option_map instruction) is

pub term_is : (b : BlockIr) (n : ℕ) → n ≡ length b.instrs → line_in b n ≡ Some (terminator b.term)
term_is b n is =
    ap (λ (t : Bool). cond t (option_map instruction (slice_get b.instrs n)) (cond (eqb n (length b.instrs)) (Some (terminator b.term)) None)) (le-ltb n (length b.instrs) (omega arith))
    ∙ ap (λ (t : Bool). cond t (Some (terminator b.term)) None) (eq-eqb n (length b.instrs) is)

pub record There {X : Type 0} (xs : List X) (i : ℕ) : Type 0 where
  pub item : X
  pub is : slice_get xs i ≡ Some item

pub there : {X : Type 0} (xs : List X) (i : ℕ) → i < length xs → There xs i
there [] i l = absurd (omega arith)
there (x ∷ xs) zero l = record { item = x; is = refl }
there (x ∷ xs) (suc i) l = let h = there xs i (omega arith) in record { item = h.item; is = h.is }

pub to_line : (p : Program) (f : Frame) (st : IsFrame p f) (line : ℕ) (locals : ℕ → ℕ) → line ≤ length st.block.instrs → AreLocals p st.func locals
    → IsFrame p (record { func = f.func; block = f.block; line = line; locals = locals })
to_line p f st line locals low typed = record { func = st.func; block = st.block; func_is = st.func_is; block_is = st.block_is; inside = low; locals = typed }

pub to_block : (p : Program) (f : Frame) (st : IsFrame p f) (b : ℕ) → b < length st.func.blocks → IsFrame p (record { func = f.func; block = b; line = 0; locals = f.locals })
to_block p f st b l =
    let h = there st.func.blocks b l in
    record { func = st.func; block = h.item; func_is = st.func_is; block_is = h.is; inside = omega arith; locals = st.locals }

-- ---- steps that show nothing

pub same_lawful : (p : Program) (s : SourceState) → IsConsistent p s → IsLawful p s (silent s)
same_lawful p s g = record { good = g; passes = (refl, refl); stacks = refl }

pub ends_lawful : (p : Program) (s : SourceState) (why : Finish) → IsConsistent p s → IsLawful p s (ends_by s why)
ends_lawful p s why g = record { good = record { stands = g.stands; callers = g.callers; few = g.few; globals = g.globals }; passes = (refl, refl); stacks = refl }

-- ---- at an instruction

pub onward_good : (p : Program) (s : SourceState) (g : IsConsistent p s) → suc s.frame.line ≤ length g.stands.block.instrs → IsConsistent p (onward s)
onward_good p s g low = record { stands = to_line p s.frame g.stands (s.frame.line + 1) s.frame.locals (omega arith) g.stands.locals; callers = g.callers; few = g.few; globals = g.globals }

pub sets_good : (p : Program) (s : SourceState) (g : IsConsistent p s) → suc s.frame.line ≤ length g.stands.block.instrs → (x value : ℕ) (ty : Ty) → local_ty g.stands.func x ≡ Some ty → IsValue p ty value → IsConsistent p (sets s x value)
sets_good p s g low x value ty at good = record {
  stands = to_line p s.frame g.stands (s.frame.line + 1) (assigned s.frame.locals x value) (omega arith) (locals_assigned p g.stands.func s.frame.locals x value ty g.stands.locals at good);
  callers = g.callers;
  few = g.few;
  globals = g.globals;
}

pub sets_lawful : (p : Program) (s : SourceState) (g : IsConsistent p s) → suc s.frame.line ≤ length g.stands.block.instrs → (x value : ℕ) (ty : Ty) → local_ty g.stands.func x ≡ Some ty → IsValue p ty value → IsLawful p s (silent (sets s x value))
sets_lawful p s g low x value ty at good = record { good = sets_good p s g low x value ty at good; passes = (refl, refl); stacks = refl }

pub reads_lawful : (p : Program) (s : SourceState) (g : IsConsistent p s) → suc s.frame.line ≤ length g.stands.block.instrs → (x h i : ℕ) (item : GlobalItem) → slice_get p.globals h ≡ Some item → local_ty g.stands.func x ≡ Some (item_ty item)
    → IsLawful p s (reads p s x h i)
reads_lawful p s g low x h i item is ty = record {
  good = sets_good p s g low x (s.globals h i) (item_ty item) ty (g.globals h item is i);
  passes = passing (cell_number p h i) (λ c at. element_told size_in_cells p.globals s.globals h i item is c at);
  stacks = stacking (cell_number p h i);
} where
  passing : (o : Option ℕ) → ((c : ℕ) → o ≡ Some c → cells_at p s c ≡ Some (s.globals h i))
      → Passes (operation_active p s) (cells_at p s) (shows o (λ cell. event.loads cell (s.globals h i))) (operation_active p s) (cells_at p s)
  passing None told = (refl, refl)
  passing (Some c) told = (told c refl, (refl, refl))

  stacking : (o : Option ℕ) → Stacks line_turn (active_of p s) (shows o (λ cell. event.loads cell (s.globals h i))) (active_of p s)
  stacking None = refl
  stacking (Some c) = refl

pub writes_lawful : (p : Program) (s : SourceState) (g : IsConsistent p s) → suc s.frame.line ≤ length g.stands.block.instrs → (h i value : ℕ) (item : GlobalItem) → slice_get p.globals h ≡ Some item → IsValue p (item_ty item) value
    → IsLawful p s (writes p s h i value)
writes_lawful p s g low h i value item is good = record {
  good = record { stands = to_line p s.frame g.stands (s.frame.line + 1) s.frame.locals (omega arith) g.stands.locals; callers = g.callers; few = g.few; globals = globals_put p s.globals h i value item g.globals is good };
  passes = passing (cell_number p h i) (λ c at. element_stored size_in_cells p.globals s.globals h i value item is c at) (λ at. elements_stay size_in_cells p.globals s.globals h i value item is at);
  stacks = stacking (cell_number p h i);
} where
  passing : (o : Option ℕ) → ((c : ℕ) → o ≡ Some c → defined (cells_at p s) c value ≡ cell_values p.globals (put s.globals h i value)) → (o ≡ None → cells_at p s ≡ cell_values p.globals (put s.globals h i value))
      → Passes (operation_active p s) (cells_at p s) (shows o (λ cell. event.stores cell value)) (operation_active p s) (cell_values p.globals (put s.globals h i value))
  passing None there else_ = (refl, else_ refl)
  passing (Some c) there else_ = (refl, there c refl)

  stacking : (o : Option ℕ) → Stacks line_turn (active_of p s) (shows o (λ cell. event.stores cell value)) (active_of p s)
  stacking None = refl
  stacking (Some c) = refl

pub in_array_lawful : (p : Program) (s : SourceState) (h i : ℕ) (next : Next) → IsConsistent p s → IsLawful p s next → IsLawful p s (in_array p s h i next)
in_array_lawful p s h i next g ok = by (ltb i (length_at p h)) where
  by : (t : Bool) → IsLawful p s (cond t next (traps_by s Index))
  by true = ok
  by false = ends_lawful p s (trapped Index) g

-- ---- calls

pub runs_lawful : (p : Program) → IsChecked p → (s : SourceState) (g : IsConsistent p s) (edge : LineEdge) (to : ℕ) (args : List ℕ) (callee : Func) → line_turn edge ≡ turn.pushes (line_place s.frame) → IsCaller p s.frame → MayCall p s.frame.func to
    → slice_get p.funcs to ≡ Some callee → are_as g.stands.func args (parameters callee) ≡ true → length args ≡ callee.params → IsLawful p s (runs p s edge to args)
runs_lawful p ok s g edge to args callee is waits may there_ typed count = by (leb 256 (length s.callers)) refl where
  formed : IsFunc p callee
  formed = func_formed p ok to callee there_

  turns : Turns (active_of p s) (cells_at p s) (event.takes edge ∷ shows (operation_of p to) event.enters) (active_of p (entered s to args))
  turns = call_turns p s.frame s.callers to (cells_at p s) edge is may g.callers

  stands : There callee.blocks 0 → IsFrame p (record { func = to; block = 0; line = 0; locals = λ i. get_or (map s.frame.locals args) i 0 })
  stands b = record {
    func = callee;
    block = b.item;
    func_is = there_;
    block_is = b.is;
    inside = omega arith;
    locals = locals_entered p g.stands.func callee s.frame.locals args g.stands.locals typed formed.params_first count;
  }

  by : (t : Bool) → leb 256 (length s.callers) ≡ t
      → IsLawful p s (cond t (traps_by s Depth) (record { state = entered s to args; shown = event.takes edge ∷ shows (operation_of p to) event.enters }))
  by true deep = ends_lawful p s (trapped Depth) g
  by false shallow = record {
    good = record {
      stands = stands (there callee.blocks 0 formed.begun);
      callers = (may, waits, g.callers);
      few = let l : length s.callers < 256 = leb-false 256 (length s.callers) shallow in omega arith;
      globals = g.globals;
    };
    passes = turns.passes;
    stacks = turns.stacks;
  }

-- ---- within a function

pub goes_lawful : (p : Program) (s : SourceState) (g : IsConsistent p s) (edge : LineEdge) (to : ℕ) → line_turn edge ≡ turn.stays → to < length g.stands.func.blocks → IsLawful p s (goes_to s edge to)
goes_lawful p s g edge to is l =
    let turns : Turns (active_of p s) (cells_at p s) (event.takes edge ∷ []) (active_of p s) = stay_turns (active_of p s) (cells_at p s) edge is in
    record {
      good = record { stands = to_block p s.frame g.stands to l; callers = g.callers; few = g.few; globals = g.globals };
      passes = turns.passes;
      stacks = turns.stacks;
    }
