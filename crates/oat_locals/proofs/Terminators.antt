-- The terminators jump, branch and halt.
use Rattle.std.proofs.Common.{◌≡◌, ◌+◌, ◌*◌, ◌<◌, ◌≤◌, inl, inr, ℕ, true, false, not, List, [], ◌∷◌, Some, None, Contains, refl, sym, ap, subst, arith, eq-eqb, ne_eqb}
use Rattle.oat_frames.specs.{Svc, Map, Row, starts_of, is_over, row_over, Running, edge_over, Code.CodeStands, Frame, MachineEvent, moves, Comes.StepsTo, Frames.World, Frames.IsWorld, Frames.IsAt}
use Rattle.oat_frames.specs.{Frames.HoldsState, Frames.home_in, Frames.line_address, Lines.IsNumberLocal, RunsTo, inst_makes, Moments.next_moment, Moments.jumped}
use Rattle.oat_frames.proofs.{Kit.thence, Kit.with_x, Kit.b, Kit.cbnz-leads, Kit.cbnz-falls, Kit.svc-bit, Kit.svc-halt, FrameLaws.found-contains, FrameLaws.keeps-eight, FrameLaws.loads-number}
use Rattle.oat_frames.proofs.{FrameLaws.scratched}
use Rattle.oat_locals.specs.{Code.jump_code, Code.branch_code, Code.halt_code, Terminators.BlockBegins, Terminators.in_block, Terminators.JumpsLead, Terminators.TakenBranchesLead}
use Rattle.oat_locals.specs.{Terminators.OtherBranchesLead, Terminators.BranchesAreApart, Terminators.HaltsEnd}
use Rattle.oat_frames.specs.edges as edges
use Rattle.oat_frames.specs.rows as rows

-- ---- to a block

-- the moment at an address, where registers have changed but SP, flags and memory haven't
abbrev moved_to : Running → (ℕ → ℕ) → ℕ → ℕ → Running
moved_to m x made address = record m { machine = record m.machine { regs = record m.machine.regs { x = x; pc = address } }; made = made }

enters-block : (w : World) (f : Frame) (callers : List Frame) (globals : ℕ → ℕ) (block label : ℕ) (es : List MachineEvent) (m : Running) → IsAt w f callers globals m → BlockBegins w f block label
    → (x : ℕ → ℕ) (made n : ℕ) → 1 ≤ n → RunsTo w.image n m (moved_to m x made (w.label label)) es
    → HoldsState w f.func f.locals callers globals x m.machine.regs.sp m.machine.memory → StepsTo w n (in_block f block) callers globals es m
enters-block w f callers globals block label es m r begins x made n some runs holds = record {
  to = moved_to m x made (w.label label);
  count = n;
  some = some;
  few = omega arith;
  runs = runs;
  inputs = refl;
  outputs = refl;
  is_at = record { going = r.going; pc = sym begins; holds = holds };
}

-- ---- jump

pub jumps-lead : JumpsLead
jumps-lead w ok f callers globals to label m r this =
    let pc : ℕ = m.machine.regs.pc in
    let here : CodeStands w pc (jump_code label) = subst (λ (p : ℕ). CodeStands w p (jump_code label)) (sym r.pc) this.code in
    let k : Running = jumped m m.machine.regs (w.label label) in
    let row : row_over w.image.map.rows pc ≡ Some (rows.Jump pc (w.label label)) = here.0 pc (omega arith) (omega arith) in
    let runs : RunsTo w.image 1 m k (moves (edges.Jump pc (w.label label)) ∷ []) =
    b w.image ok.low m here.1.0.0 (w.label label) (rows.Jump pc (w.label label)) (edges.Jump pc (w.label label)) r.going here.1.0.1 here.1.0.2 row refl in
    enters-block w f callers globals to label (moves (edges.Jump (line_address w f) (w.label label)) ∷ []) m r this.block m.machine.regs.x k.made 1 (omega arith)
    (subst (λ (p : ℕ). RunsTo w.image 1 m k (moves (edges.Jump p (w.label label)) ∷ [])) r.pc runs) r.holds

-- ---- branch

-- the second and the third word of the group of a branch
taken-edge : (flow : Map) (at taken other : ℕ) → edge_over flow (Some (rows.Branch at taken other)) (at + 4) taken ≡ Some (edges.Branch at true taken)
taken-edge flow at taken other = rw (ne_eqb (at + 4) (at + 8) (λ e. absurd (omega arith)), eq-eqb taken taken refl) refl

falls-edge : (flow : Map) (at taken other next : ℕ) → (next ≡ taken → ⊥) → edge_over flow (Some (rows.Branch at taken other)) (at + 4) next ≡ None
falls-edge flow at taken other next apart = rw (ne_eqb (at + 4) (at + 8) (λ e. absurd (omega arith)), ne_eqb next taken apart) refl

other-edge : (flow : Map) (at taken other : ℕ) → edge_over flow (Some (rows.Branch at taken other)) (at + 4 + 4) other ≡ Some (edges.Branch at false other)
other-edge flow at taken other = rw (eq-eqb (at + 4 + 4) (at + 8) (omega arith)) refl

-- the local stands in X9, and the monitor was told
abbrev bit_told : Running → ℕ → Running
bit_told m v =
    let one : Running = next_moment m (with_x m.machine 9 v) in
    next_moment one one.machine

tells-bit : (w : World) → IsWorld w → (f : Frame) (callers : List Frame) (globals : ℕ → ℕ) (x taken other : ℕ) (m : Running) → IsAt w f callers globals m → IsNumberLocal w f x
    → CodeStands w m.machine.regs.pc (branch_code (home_in w f x) taken other) → RunsTo w.image 2 m (bit_told m (f.locals x)) []
tells-bit w ok f callers globals x taken other m r from here =
    let m1 : Running = next_moment m (with_x m.machine 9 (f.locals x)) in
    thence w.image 1 1 m m1 (bit_told m (f.locals x)) [] [] (loads-number w ok f callers globals m r m 9 x r.going refl refl (refl, refl, refl, refl, refl, refl, refl, refl) here.0 from) (svc-bit w.image ok.low m1 r.going here.1.1.0)

pub taken-branches-lead : TakenBranchesLead
taken-branches-lead w ok f callers globals x first second taken other m r this some =
    let pc : ℕ = m.machine.regs.pc in
    let v : ℕ = f.locals x in
    let here : CodeStands w pc (branch_code (home_in w f x) taken other) = subst (λ (p : ℕ). CodeStands w p (branch_code (home_in w f x) taken other)) (sym r.pc) this.code in
    let row : Row = rows.Branch (pc + 4) (w.label taken) (w.label other) in
    let m2 : Running = bit_told m v in
    let k : Running = jumped m2 m2.machine.regs (w.label taken) in
    let two : RunsTo w.image 2 m m2 [] = tells-bit w ok f callers globals x taken other m r this.from here in
    let over : row_over w.image.map.rows (pc + 4 + 4) ≡ Some (rows.Branch (pc + 4) (w.label taken) (w.label other)) = here.1.0 (pc + 4 + 4) (omega arith) (omega arith) in
    let three : RunsTo w.image 1 m2 k (moves (edges.Branch (pc + 4) true (w.label taken)) ∷ []) =
    cbnz-leads w.image ok.low m2 9 here.1.1.1.0.0 (w.label taken) row (edges.Branch (pc + 4) true (w.label taken)) r.going here.1.1.1.0.1 here.1.1.1.0.2 over
    (taken-edge w.image.map (pc + 4) (w.label taken) (w.label other)) (ap not (ne_eqb v 0 some)) in
    let runs : RunsTo w.image 3 m k (moves (edges.Branch (pc + 4) true (w.label taken)) ∷ []) = thence w.image 2 1 m m2 k [] _ two three in
    enters-block w f callers globals first taken (moves (edges.Branch (line_address w f + 4) true (w.label taken)) ∷ []) m r this.first_block k.machine.regs.x k.made 3 (omega arith)
    (subst (λ (p : ℕ). RunsTo w.image 3 m k (moves (edges.Branch (p + 4) true (w.label taken)) ∷ [])) r.pc runs)
    (scratched w f.func f.locals callers globals m.machine.regs.x k.machine.regs.x m.machine.regs.sp m.machine.memory r.holds refl (keeps-eight m.machine.regs.x k.machine.regs.x (refl, refl, refl, refl, refl, refl, refl, refl)))

pub other-branches-lead : OtherBranchesLead
other-branches-lead w ok f callers globals x first second taken other m r this none =
    let pc : ℕ = m.machine.regs.pc in
    let v : ℕ = f.locals x in
    let here : CodeStands w pc (branch_code (home_in w f x) taken other) = subst (λ (p : ℕ). CodeStands w p (branch_code (home_in w f x) taken other)) (sym r.pc) this.code in
    let row : Row = rows.Branch (pc + 4) (w.label taken) (w.label other) in
    let m2 : Running = bit_told m v in
    let m3 : Running = next_moment m2 m2.machine in
    let k : Running = jumped m3 m3.machine.regs (w.label other) in
    let two : RunsTo w.image 2 m m2 [] = tells-bit w ok f callers globals x taken other m r this.from here in
    let over : (q : ℕ) → pc + 4 ≤ q → q < pc + 4 + 4 * 3 → row_over w.image.map.rows q ≡ Some (rows.Branch (pc + 4) (w.label taken) (w.label other)) = here.1.0 in
    let apart : pc + 4 + 4 + 4 ≡ w.label taken → ⊥ = λ e. this.apart (behind pc (line_address w f) (w.label taken) r.pc e) in
    let three : RunsTo w.image 1 m2 m3 [] =
    cbnz-falls w.image ok.low m2 9 here.1.1.1.0.0 row r.going here.1.1.1.0.1 (over (pc + 4 + 4) (omega arith) (omega arith))
    (falls-edge w.image.map (pc + 4) (w.label taken) (w.label other) (pc + 4 + 4 + 4) apart) (ap not (eq-eqb v 0 none)) in
    let last : RunsTo w.image 1 m3 k (moves (edges.Branch (pc + 4) false (w.label other)) ∷ []) =
    b w.image ok.low m3 here.1.1.1.1.0.0 (w.label other) row (edges.Branch (pc + 4) false (w.label other)) r.going here.1.1.1.1.0.1 here.1.1.1.1.0.2
    (over (pc + 4 + 4 + 4) (omega arith) (omega arith)) (other-edge w.image.map (pc + 4) (w.label taken) (w.label other)) in
    let runs : RunsTo w.image 4 m k (moves (edges.Branch (pc + 4) false (w.label other)) ∷ []) =
    thence w.image 2 2 m m2 k [] _ two (thence w.image 1 1 m2 m3 k [] _ three last) in
    enters-block w f callers globals second other (moves (edges.Branch (line_address w f + 4) false (w.label other)) ∷ []) m r this.second_block k.machine.regs.x k.made 4 (omega arith)
    (subst (λ (p : ℕ). RunsTo w.image 4 m k (moves (edges.Branch (p + 4) false (w.label other)) ∷ [])) r.pc runs)
    (scratched w f.func f.locals callers globals m.machine.regs.x k.machine.regs.x m.machine.regs.sp m.machine.memory r.holds refl (keeps-eight m.machine.regs.x k.machine.regs.x (refl, refl, refl, refl, refl, refl, refl, refl))) where
      behind : (pc p l : ℕ) → pc ≡ p → pc + 4 + 4 + 4 ≡ l → l ≡ p + 12
      behind pc p l a e = omega arith

-- ---- blocks lie apart from groups

pub branches-are-apart : BranchesAreApart
branches-are-apart w f x taken other shaped code e =
    let at : ℕ = line_address w f + 4 in
    let row : Row = rows.Branch at (w.label taken) (w.label other) in
    let over : row_over w.image.map.rows (line_address w f + 4) ≡ Some (rows.Branch (line_address w f + 4) (w.label taken) (w.label other)) = code.1.0 (line_address w f + 4) (omega arith) (omega arith) in
    let has : Contains w.image.map.rows (rows.Branch (line_address w f + 4) (w.label taken) (w.label other)) = found-contains (is_over at) w.image.map.rows row over in
    let start : Contains (starts_of w.image.map.blocks) (w.label taken) = (shaped.leads at row has refl).0 in
    let behind : line_address w f + 4 + 4 * 3 ≤ w.label taken = shaped.apart (w.label taken) (inr (inl start)) row has (omega arith) in
    absurd (omega arith)

-- ---- halt

pub halts-end : HaltsEnd
halts-end w ok f callers globals m r code =
    let here : CodeStands w m.machine.regs.pc halt_code = subst (λ (p : ℕ). CodeStands w p halt_code) (sym r.pc) code in
    record { to = inst_makes m (Svc 0); count = 1; some = omega arith; few = omega arith; runs = svc-halt w.image ok.low m r.going here.0; end = refl; outputs = refl }
