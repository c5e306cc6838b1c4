-- What a run makes and shows in the group of a row that transfers control, and where it goes on.
use Rattle.std.proofs.Common.{◌≡◌, ◌≢◌, ℕ, ◌+◌, ◌^◌, ◌<◌, pos, Bool, true, false, not, cond, ◌&&◌, eqb, leb, List, [], ◌∷◌, Contains, Option, Some, None, refl, sym, ap, ap₂, subst, ◌∙◌, inl, inr}
use Rattle.std.proofs.Common.{arith, mod-eq_of_lt}
use Rattle.std.proofs.lemmas.Bool.{ne_eqb, eq-eqb}
use Rattle.oat_journal.specs.{Inst, B, Bl, BCond, Cbnz, Blr, Ret, Svc, Brk, Regs, Effect, act, next_pc, with_reg, branch_target, reg, holds, Edge, Map, Row, Image, monitor_call, MonitorCall}
use Rattle.oat_journal.specs.{Run.Entry, Journal.takes_input, Window.shown_edge, Window.edge_over}
use Rattle.oat_verify.specs.{Stands, IsLaid}
use Rattle.oat_attest.specs.Lockstep.{Placed, plain, calling}
use Rattle.oat_attest.proofs.Stretches.{Runs, machine, moved_to, GoesOn, no_runs, entry_by, pop, Crossed, arrives, crossed_cons}
use Rattle.oat_map.specs.declared.edge.Edge.TheVariants as edges
use Rattle.oat_map.specs.declared.row.Row.TheVariants as rows
use Rattle.oat_journal.specs.svc as svc

-- ---- one instruction of a group

-- an instruction that leaves these registers, and leads to an address
pub record Led (image : Image) (op : ℕ) (i : Inst) (r : Regs) (p q : ℕ) (s : (ℕ → ℕ) → Regs) (es : List Entry) : Type 0 where
  pub memory : ℕ → ℕ
  pub rest : List Entry
  pub whole : es ≡ entry_by i (moved_to r p) memory ∷ rest
  pub runs : Runs image.code op (moved_to (s memory) q) rest

pub lead : (image : Image) (op : ℕ) (i : Inst) (r : Regs) (p q : ℕ) (s : (ℕ → ℕ) → Regs) (es : List Entry)
    → Stands image.code p i → takes_input i ≡ false → GoesOn (monitor_call i (moved_to r p))
    → ((memory : ℕ → ℕ) → (act i (machine (moved_to r p) memory)).machine.regs ≡ moved_to (s memory) q)
    → Runs image.code op (moved_to r p) es → Led image op i r p q s es
lead image op i r p q s es stands dry goes_on leaves runs =
    let a = pop image.code op i (moved_to r p) es stands dry goes_on runs in
    record { memory = a.memory; rest = a.rest; whole = a.whole; runs = subst (λ (x : Regs). Runs image.code op x a.rest) (leaves a.memory) a.runs }

pub next_at : (p q : ℕ) → q ≡ p + 4 → q < 2 ^ 64 → next_pc p ≡ q
next_at p q is low =
    let small : p + 4 < 2 ^ 64 = omega arith in
    mod-eq_of_lt small ∙ sym is

-- the edge of a transfer whose row and place are known
pub edge_is : (flow : Map) (over row : Option Row) (p q to : ℕ) (edge : Option Edge) → over ≡ row → q ≡ to → edge_over flow row p to ≡ edge → edge_over flow over p q ≡ edge
edge_is flow over row p q to edge one two is = ap₂ (λ (o : Option Row) (x : ℕ). edge_over flow o p x) one two ∙ is

-- an instruction in front that makes no call and shows no edge
pub silent : (image : Image) (op : ℕ) {i : Inst} {r : Regs} {p q : ℕ} {s : (ℕ → ℕ) → Regs} {es : List Entry} (a : Led image op i r p q s es) (group : List Placed) (to : ℕ)
    → shown_edge image.map op (entry_by i (moved_to r p) a.memory) ≡ None → monitor_call i (moved_to r p) ≡ None
    → Crossed image op a.rest group [] to → Crossed image op es (plain p ∷ group) [] to
silent image op {i} {r} {p} {q} {s} {es} a group to shows none crossed =
    subst (λ (call : Option MonitorCall). Crossed image op es (record { at = p; call = call } ∷ group) [] to) none
    (crossed_cons image op i (moved_to r p) a.memory a.rest es group None [] to a.whole shows (λ c v u. let both : None ≡ Some (svc.Use c v) = sym none ∙ u in cc) crossed)

-- ---- jumps and calls

pub cross_jump : (image : Image) → IsLaid image → (op at to : ℕ) → Contains image.map.rows (rows.Jump at to) → (r : Regs) (es : List Entry)
    → Runs image.code op (moved_to r at) es → Crossed image op es (plain at ∷ []) (edges.Jump at to ∷ []) to
cross_jump image laid op at to has r es runs =
    let (offset, stands, leads) = laid.group (rows.Jump at to) has in
    let over = laid.over (rows.Jump at to) at has (omega arith, omega arith) in
    let a = lead image op (B offset) r at to (λ _. r) es stands refl (λ o h. cc) (λ _. ap (moved_to r) leads) runs in
    crossed_cons image op (B offset) (moved_to r at) a.memory a.rest es [] (Some (edges.Jump at to)) [] to a.whole
    (edge_is image.map _ _ at _ _ (Some (edges.Jump at to)) over leads refl) (λ c v u. cc)
    (arrives image op r a.rest to to refl a.runs)

pub cross_call : (image : Image) → IsLaid image → (op at to : ℕ) → Contains image.map.rows (rows.Call at to) → (r : Regs) (es : List Entry)
    → Runs image.code op (moved_to r at) es → Crossed image op es (plain at ∷ []) (edges.Call at to ∷ []) to
cross_call image laid op at to has r es runs =
    let (offset, stands, leads) = laid.group (rows.Call at to) has in
    let over = laid.over (rows.Call at to) at has (omega arith, omega arith) in
    let linked = with_reg r 30 (next_pc at) in
    let a = lead image op (Bl offset) r at to (λ _. linked) es stands refl (λ o h. cc) (λ _. ap (moved_to linked) leads) runs in
    crossed_cons image op (Bl offset) (moved_to r at) a.memory a.rest es [] (Some (edges.Call at to)) [] to a.whole
    (edge_is image.map _ _ at _ _ (Some (edges.Call at to)) over leads refl) (λ c v u. cc)
    (arrives image op linked a.rest to to refl a.runs)

-- ---- indirect calls and returns, which go where a register says

pub cross_icall : (image : Image) → IsLaid image → (op at params : ℕ) → Contains image.map.rows (rows.ICall at params) → (r : Regs) (es : List Entry)
    → (edge : Edge) → edge_over image.map (Some (rows.ICall at params)) (at + 4) (r.x 9) ≡ Some edge
    → Runs image.code op (moved_to r at) es → Crossed image op es (calling at (svc.Target (r.x 9)) ∷ plain (at + 4) ∷ []) (edge ∷ []) (r.x 9)
cross_icall image laid op at params has r es edge is runs =
    let (call, jump) = laid.group (rows.ICall at params) has in
    let (fits, short, ends) = laid.low (rows.ICall at params) has in
    let over = laid.over (rows.ICall at params) (at + 4) has (omega arith, omega arith) in
    let linked = with_reg r 30 (next_pc (at + 4)) in
    let low : at + 4 < 2 ^ 64 = omega arith in
    let a = lead image op (Svc 4) r at (at + 4) (λ _. r) es call refl (λ o h. cc) (λ _. ap (moved_to r) (next_at at (at + 4) refl low)) runs in
    let b = lead image op (Blr 9) r (at + 4) (r.x 9) (λ _. linked) a.rest jump refl (λ o h. cc) (λ _. refl) a.runs in
    crossed_cons image op (Svc 4) (moved_to r at) a.memory a.rest es (plain (at + 4) ∷ []) None (edge ∷ []) (r.x 9) a.whole refl (λ c v u. cc)
    (crossed_cons image op (Blr 9) (moved_to r (at + 4)) b.memory b.rest a.rest [] (Some edge) [] (r.x 9) b.whole
    (edge_is image.map _ _ (at + 4) _ _ (Some edge) over refl is) (λ c v u. cc)
    (arrives image op linked b.rest (r.x 9) (r.x 9) refl b.runs))

pub cross_ret : (image : Image) → IsLaid image → (op at : ℕ) → Contains image.map.rows (rows.Ret at) → (r : Regs) (es : List Entry)
    → (edge : Edge) → edge_over image.map (Some (rows.Ret at)) (at + 4) (r.x 30) ≡ Some edge
    → Runs image.code op (moved_to r at) es → Crossed image op es (calling at (svc.Return (r.x 30)) ∷ plain (at + 4) ∷ []) (edge ∷ []) (r.x 30)
cross_ret image laid op at has r es edge is runs =
    let (call, jump) = laid.group (rows.Ret at) has in
    let (fits, short, ends) = laid.low (rows.Ret at) has in
    let over = laid.over (rows.Ret at) (at + 4) has (omega arith, omega arith) in
    let low : at + 4 < 2 ^ 64 = omega arith in
    let a = lead image op (Svc 5) r at (at + 4) (λ _. r) es call refl (λ o h. cc) (λ _. ap (moved_to r) (next_at at (at + 4) refl low)) runs in
    let b = lead image op (Ret 30) r (at + 4) (r.x 30) (λ _. r) a.rest jump refl (λ o h. cc) (λ _. refl) a.runs in
    crossed_cons image op (Svc 5) (moved_to r at) a.memory a.rest es (plain (at + 4) ∷ []) None (edge ∷ []) (r.x 30) a.whole refl (λ c v u. cc)
    (crossed_cons image op (Ret 30) (moved_to r (at + 4)) b.memory b.rest a.rest [] (Some edge) [] (r.x 30) b.whole
    (edge_is image.map _ _ (at + 4) _ _ (Some edge) over refl is) (λ c v u. cc)
    (arrives image op r b.rest (r.x 30) (r.x 30) refl b.runs))

-- ---- branches

taken_edge : (flow : Map) (at taken other : ℕ) → edge_over flow (Some (rows.Branch at taken other)) (at + 4) taken ≡ Some (edges.Branch at true taken)
taken_edge flow at taken other =
    let elsewhere : eqb (at + 4) (at + 8) ≡ false = ne_eqb (at + 4) (at + 8) (λ h. omega arith) in
    rw (elsewhere, eq-eqb taken taken refl) refl

passed_edge : (flow : Map) (at taken other : ℕ) → at + 8 ≢ taken → edge_over flow (Some (rows.Branch at taken other)) (at + 4) (at + 8) ≡ None
passed_edge flow at taken other differ =
    let elsewhere : eqb (at + 4) (at + 8) ≡ false = ne_eqb (at + 4) (at + 8) (λ h. omega arith) in
    rw (elsewhere, ne_eqb (at + 8) taken differ) refl

other_edge : (flow : Map) (at taken other : ℕ) → edge_over flow (Some (rows.Branch at taken other)) (at + 8) other ≡ Some (edges.Branch at false other)
other_edge flow at taken other = rw (eq-eqb (at + 8) (at + 8) refl) refl

pub cross_taken : (image : Image) → IsLaid image → (op at taken other : ℕ) → Contains image.map.rows (rows.Branch at taken other) → (r : Regs) (es : List Entry)
    → eqb (r.x 9) 0 ≡ false → Runs image.code op (moved_to r at) es
    → Crossed image op es (calling at (svc.Bit (r.x 9)) ∷ plain (at + 4) ∷ []) (edges.Branch at true taken ∷ []) taken
cross_taken image laid op at taken other has r es set runs =
    let (call, (offset, jump, leads), (offset', jump', leads')) = laid.group (rows.Branch at taken other) has in
    let (fits, short, ends) = laid.low (rows.Branch at taken other) has in
    let over = laid.over (rows.Branch at taken other) (at + 4) has (omega arith, omega arith) in
    let low : at + 4 < 2 ^ 64 = omega arith in
    let a = lead image op (Svc 3) r at (at + 4) (λ _. r) es call refl (λ o h. cc) (λ _. ap (moved_to r) (next_at at (at + 4) refl low)) runs in
    let b = lead image op (Cbnz 9 offset) r (at + 4) taken (λ _. r) a.rest jump refl (λ o h. cc) (λ _. rw set (ap (moved_to r) leads)) a.runs in
    crossed_cons image op (Svc 3) (moved_to r at) a.memory a.rest es (plain (at + 4) ∷ []) None (edges.Branch at true taken ∷ []) taken a.whole refl (λ c v u. cc)
    (crossed_cons image op (Cbnz 9 offset) (moved_to r (at + 4)) b.memory b.rest a.rest [] (Some (edges.Branch at true taken)) [] taken b.whole
    (rw set (edge_is image.map _ _ (at + 4) _ _ (Some (edges.Branch at true taken)) over leads (taken_edge image.map at taken other))) (λ c v u. cc)
    (arrives image op r b.rest taken taken refl b.runs))

pub cross_other : (image : Image) → IsLaid image → (op at taken other : ℕ) → Contains image.map.rows (rows.Branch at taken other) → (r : Regs) (es : List Entry)
    → eqb (r.x 9) 0 ≡ true → at + 8 ≢ taken → Runs image.code op (moved_to r at) es
    → Crossed image op es (calling at (svc.Bit (r.x 9)) ∷ plain (at + 4) ∷ plain (at + 8) ∷ []) (edges.Branch at false other ∷ []) other
cross_other image laid op at taken other has r es unset differ runs =
    let (call, (offset, jump, leads), (offset', jump', leads')) = laid.group (rows.Branch at taken other) has in
    let (fits, short, ends) = laid.low (rows.Branch at taken other) has in
    let over = laid.over (rows.Branch at taken other) (at + 4) has (omega arith, omega arith) in
    let over' = laid.over (rows.Branch at taken other) (at + 8) has (omega arith, omega arith) in
    let low : at + 4 < 2 ^ 64 = omega arith in
    let low' : at + 8 < 2 ^ 64 = omega arith in
    let on : next_pc (at + 4) ≡ at + 8 = next_at (at + 4) (at + 8) (omega arith) low' in
    let a = lead image op (Svc 3) r at (at + 4) (λ _. r) es call refl (λ o h. cc) (λ _. ap (moved_to r) (next_at at (at + 4) refl low)) runs in
    let b = lead image op (Cbnz 9 offset) r (at + 4) (at + 8) (λ _. r) a.rest jump refl (λ o h. cc) (λ _. rw unset (ap (moved_to r) on)) a.runs in
    let c = lead image op (B offset') r (at + 8) other (λ _. r) b.rest jump' refl (λ o h. cc) (λ _. ap (moved_to r) leads') b.runs in
    crossed_cons image op (Svc 3) (moved_to r at) a.memory a.rest es (plain (at + 4) ∷ plain (at + 8) ∷ []) None (edges.Branch at false other ∷ []) other a.whole refl (λ c v u. cc)
    (crossed_cons image op (Cbnz 9 offset) (moved_to r (at + 4)) b.memory b.rest a.rest (plain (at + 8) ∷ []) None (edges.Branch at false other ∷ []) other b.whole
    (rw unset (edge_is image.map _ _ (at + 4) _ _ None over on (passed_edge image.map at taken other differ))) (λ c v u. cc)
    (crossed_cons image op (B offset') (moved_to r (at + 8)) c.memory c.rest b.rest [] (Some (edges.Branch at false other)) [] other c.whole
    (edge_is image.map _ _ (at + 8) _ _ (Some (edges.Branch at false other)) over' leads' (other_edge image.map at taken other)) (λ c v u. cc)
    (arrives image op r c.rest other other refl c.runs)))

-- ---- checks

both_same : (t : Bool) (a b : Effect) (r : Regs) → a.machine.regs ≡ r → b.machine.regs ≡ r → (cond t a b).machine.regs ≡ r
both_same true a b r p q = p
both_same false a b r p q = q

traps_stay : (number : ℕ) (r : Regs) (p : ℕ) (memory : ℕ → ℕ) → (act (Brk number) (machine (moved_to r p) memory)).machine.regs ≡ moved_to r p
traps_stay number r p memory = both_same (leb 1 number && leb number 4) _ _ (moved_to r p) refl refl

-- a run never leaves a trap
stuck : (code : List ℕ) (op : ℕ) (r : Regs) (p number : ℕ) → Stands code p (Brk number) → (es : List Entry) → Runs code op (moved_to r p) es → ⊥
stuck code op r p number stands [] runs = no_runs code op (moved_to r p) runs
stuck code op r p number stands (e ∷ es) runs =
    let a = pop code op (Brk number) (moved_to r p) (e ∷ es) stands refl (λ o h. cc) runs in
    let rest : a.rest ≡ es = cc (a.whole) in
    stuck code op r p number stands es
    (subst (λ (xs : List Entry). Runs code op (moved_to r p) xs) rest
    (subst (λ (q : Regs). Runs code op q a.rest) (traps_stay number r p a.memory) a.runs))

-- A test that skips a trap holds, since the run goes on: it leads behind the trap.
pub skips : (image : Image) (op p q to number : ℕ) → q ≡ p + 4 → to ≡ p + 8 → to < 2 ^ 64 → (r : Regs) (es : List Entry)
    → (i : Inst) → Stands image.code p i → Stands image.code q (Brk number) → takes_input i ≡ false → monitor_call i (moved_to r p) ≡ None
    → (test : Bool) → ((memory : ℕ → ℕ) → (act i (machine (moved_to r p) memory)).machine.regs ≡ moved_to r (cond test (branch_target p (pos 2)) (next_pc p)))
    → Runs image.code op (moved_to r p) es → (test ≡ true) × Led image op i r p to (λ _. r) es
skips image op p q to number q_is to_is low r es i stands trap dry none true leaves runs =
    let small : p + 8 < 2 ^ 64 = omega arith in
    let on : branch_target p (pos 2) ≡ to = mod-eq_of_lt small ∙ sym to_is in
    (refl, lead image op i r p to (λ _. r) es stands dry (λ o h. let both : None ≡ Some (svc.End o) = sym none ∙ h in cc) (λ m. leaves m ∙ ap (moved_to r) on) runs)
skips image op p q to number q_is to_is low r es i stands trap dry none false leaves runs =
    let a = lead image op i r p q (λ _. r) es stands dry (λ o h. let both : None ≡ Some (svc.End o) = sym none ∙ h in cc)
    (λ m. leaves m ∙ ap (moved_to r) (next_at p q q_is (omega arith))) runs in
    absurd (stuck image.code op r q number trap a.rest a.runs)

pub if_leads : (t : Bool) (a b : Effect) (r : Regs) (p q : ℕ) → a.machine.regs ≡ moved_to r p → b.machine.regs ≡ moved_to r q → (cond t a b).machine.regs ≡ moved_to r (cond t p q)
if_leads true a b r p q x y = x
if_leads false a b r p q x y = y

pub cross_check : (image : Image) → IsLaid image → (op at : ℕ) → Contains image.map.rows (rows.Check at) → (r : Regs) (es : List Entry)
    → Runs image.code op (moved_to r at) es → Crossed image op es (plain at ∷ []) [] (at + 8)
cross_check image laid op at has r es runs =
    let (fits, short, ends) = laid.low (rows.Check at) has in
    let over = laid.over (rows.Check at) at has (omega arith, omega arith) in
    let group = laid.group (rows.Check at) has in
    elim group.0 [
      | inl (rt, stands) ↦
          let a = skips image op at (at + 4) (at + 8) group.1.0 refl refl (omega arith) r es (Cbnz rt (pos 2)) stands group.1.1 refl refl (not (eqb (reg r rt) 0))
          (λ memory. if_leads (not (eqb (reg r rt) 0)) _ _ r (branch_target at (pos 2)) (next_pc at) refl refl) runs in
          silent image op a.1 [] (at + 8) (edge_is image.map _ _ at _ _ None over refl refl) refl (arrives image op r a.1.rest (at + 8) (at + 8) refl a.1.runs)
      | inr (c, stands) ↦
          let a = skips image op at (at + 4) (at + 8) group.1.0 refl refl (omega arith) r es (BCond c (pos 2)) stands group.1.1 refl refl (holds c (moved_to r at))
          (λ memory. if_leads (holds c (moved_to r at)) _ _ r (branch_target at (pos 2)) (next_pc at) refl refl) runs in
          silent image op a.1 [] (at + 8) (edge_is image.map _ _ at _ _ None over refl refl) refl (arrives image op r a.1.rest (at + 8) (at + 8) refl a.1.runs)
    ]
