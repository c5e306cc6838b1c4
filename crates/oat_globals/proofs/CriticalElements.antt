-- The lines on critical arrays, by the groups of a use and of a define of an element.
use Rattle.std.proofs.Common.{◌≡◌, ◌+◌, ◌*◌, ◌^◌, ◌<◌, ◌≤◌, ℕ, Bool, cond, List, [], ◌∷◌, ◌++◌, None, refl, sym, ap, subst, ◌∙◌, arith}
use Rattle.oat_frames.specs.{AddReg, Movz, Svc, LdrReg, StrReg, Item, element_test, Access, Machine, goes_on, fault, loads, stores, with_reg, reg, wrap, shifted_left, Index, Ty, I64, word_in}
use Rattle.oat_frames.specs.{global_address, Stands, Running, makes, Code.CodeStands, Code.home_store, Comes.EndsWithin, MachineEvent, monitors, Frames.World, Frames.IsWorld, Frames.Home}
use Rattle.oat_frames.specs.{Frames.Represents, Frames.home_in, Frames.line_address, Readied.IsReadied, RunsTo, Moments.next_moment}
use Rattle.oat_frames.proofs.{Kit.thence, Kit.with_x, Kit.with_slot, Kit.sets, Kit.quietly, Kit.next-is, Kit.below, FrameLaws.global-opens, FrameLaws.loads-number, FrameLaws.number-small}
use Rattle.oat_frames.proofs.{FrameLaws.by-registers}
use Rattle.oat_globals.specs.{Code.address_code, Code.use_at_code, Code.define_at_code, Elements.CriticalElementLoadsLead, Elements.CriticalElementStoresLead, Elements.CriticalElementLoadsTrap}
use Rattle.oat_globals.specs.{Elements.CriticalElementStoresTrap}
use Rattle.oat_globals.proofs.{Showing.GivesNothing, Showing.gives_nothing, Showing.movz, Showing.svc_shows, Showing.admitted, Showing.admits, Showing.refuses, Showing.ends_behind, Accessing.IsStored}
use Rattle.oat_globals.proofs.{Accessing.stored_by, Accessing.shown_behind, Accessing.small_word, Accessing.addressed, Accessing.addresses, Accessing.number_word, Accessing.ends_in_home}
use Rattle.oat_globals.proofs.{Accessing.ends_in_word, CriticalScalars.own_word}
use Rattle.oat_asm.specs.declared.item.Item.TheVariants as item
use Rattle.oat_frames.specs.rows as rows
use Rattle.oat_frames.specs.svc as svc
use Rattle.oat_frames.specs.ends as ends

-- ---- one access by the address of the first word and the element's number

element_is : (b v x11 x12 : ℕ) → b + v < 65536 → x11 ≡ global_address b → x12 ≡ v → wrap (x11 + 8 * x12) ≡ global_address (b + v)
element_is b v x11 x12 h p q = omega arith

-- the cell's number: its array's first and the element's
cell_is : (cell v : ℕ) → cell < 65536 → v < 65536 → wrap (cell + shifted_left v 0) ≡ cell + v
cell_is cell v h l = omega arith

module _ (w : World) (ok : IsWorld w) where
  loads_element : (k : Running) (b v : ℕ) → k.end ≡ None → Stands w.image.code k.machine.regs.pc (LdrReg 10 11 12) → b + v < w.globals → k.machine.regs.x 11 ≡ global_address b → k.machine.regs.x 12 ≡ v
      → RunsTo w.image 1 k (next_moment k (with_x k.machine 10 (word_in k.machine.memory (global_address (b + v))))) []
  loads_element k b v going at inside base index =
      let a : ℕ = global_address (b + v) in
      let small : b + v < 65536 = small_word (b + v) w.globals inside ok.globals in
      sets w.image ok.low k (LdrReg 10 11 12) 10 (word_in k.machine.memory a) going at (λ r next. refl)
      (ap (loads k.machine 10) (element_is b v (k.machine.regs.x 11) (k.machine.regs.x 12) small base index)
      ∙ ap (λ (t : Bool). cond t (goes_on k.machine (with_reg k.machine.regs 10 (word_in k.machine.memory a))) (fault k.machine (Access a))) (global-opens (b + v) small))

  stores_element : (k : Running) (b v : ℕ) → k.end ≡ None → Stands w.image.code k.machine.regs.pc (StrReg 10 11 12) → b + v < w.globals → k.machine.regs.x 11 ≡ global_address b → k.machine.regs.x 12 ≡ v
      → IsStored w.image 1 (b + v) (reg k.machine.regs 10) [] k (next_moment k (with_slot k.machine (global_address (b + v)) (reg k.machine.regs 10)))
  stores_element k b v going at inside base index =
      let a : ℕ = global_address (b + v) in
      let small : b + v < 65536 = small_word (b + v) w.globals inside ok.globals in
      let l = below w.image ok.low k (StrReg 10 11 12) at in
      let next : Machine = with_slot k.machine a (reg k.machine.regs 10) in
      stored_by w.image (b + v) (reg k.machine.regs 10) k going
      (quietly w.image ok.low k (next_moment k next) (StrReg 10 11 12) going at
      (ap (λ (b : ℕ). makes k (stores k.machine 10 b)) (element_is b v (k.machine.regs.x 11) (k.machine.regs.x 12) small base index)
      ∙ ap (λ (t : Bool). makes k (cond t (goes_on next next.regs) (fault k.machine (Access a)))) (global-opens (b + v) small)
      ∙ next-is k next (omega arith)) going refl)

-- ---- the test of a group

-- what stands behind the address in each line
abbrev behind_use : (x : Home) (cell : ℕ) → List Item
behind_use x cell = item.Inst (LdrReg 10 11 12) ∷ item.Inst (Movz 9 0 cell) ∷ item.Inst (AddReg 9 9 12 0) ∷ item.Inst (Svc 7) ∷ home_store 10 x ∷ []

abbrev behind_define : ℕ → List Item
behind_define cell = item.Inst (Movz 9 0 cell) ∷ item.Inst (AddReg 9 9 12 0) ∷ item.Inst (StrReg 10 11 12) ∷ item.Inst (Svc 6) ∷ []

-- the moment behind the test, with the address of the first word in register 11
abbrev located : Running → (len base : ℕ) → Running
located k len base = addressed (admitted (next_moment k (with_x k.machine 11 len))) base

module _ (w : World) (ok : IsWorld w) (k : Running) (len base : ℕ) (is : List Item) (going : k.end ≡ None) (at : CodeStands w k.machine.regs.pc (element_test len ++ address_code base ++ is)) (short : len < 2 ^ 16) (test : GivesNothing w.image (k.machine.regs.pc + 4 + 4)) where
  locates : base < w.globals → k.machine.regs.x 12 < len → RunsTo w.image 5 k (located k len base) []
  locates first less =
      let k1 : Running = next_moment k (with_x k.machine 11 len) in
      let k2 : Running = admitted k1 in
      let one : RunsTo w.image 1 k k1 [] = movz w.image ok.low k 11 len going short at.0 in
      let two : RunsTo w.image 2 k1 k2 [] = admits w.image ok.low k1 going at.1.0 at.1.1.0 test less in
      let three : IsReadied w.image 2 8 [] k2.inputs k2 (addressed k2 base) = addresses w ok k2 base going first at.1.1.1.1.0 at.1.1.1.1.1.0 in
      thence w.image 1 4 k k1 (located k len base) [] [] one (thence w.image 2 2 k1 k2 (located k len base) [] [] two three.runs)

  refuses_element : len ≤ k.machine.regs.x 12 → EndsWithin w 4 (ends.Trap Index) k
  refuses_element more =
      let k1 : Running = next_moment k (with_x k.machine 11 len) in
      ends_behind w ok.low 1 3 (ends.Trap Index) k k1 (movz w.image ok.low k 11 len going short at.0) refl (refuses w ok.low k1 going at.1.0 at.1.1.0 test at.1.1.1.0 more)

-- ---- a use

pub critical_element_loads_lead : CriticalElementLoadsLead
critical_element_loads_lead w ok f callers globals x base cell len i m r line this less =
    let v : ℕ = f.locals i in
    let g : ℕ = base + v in
    let value : ℕ = globals g in
    let few : len ≤ 4096 = this.few in
    let cells : cell + len ≤ 65536 = this.cells in
    let last : base + len ≤ w.globals = this.line.array.inside in
    let inside : g < w.globals = omega arith in
    let first : base < w.globals = omega arith in
    let word : Represents w I64 value (word_in m.machine.memory (global_address g)) = number_word w ok f callers globals m r g inside (this.line.array.numbers v less) in
    let at : CodeStands w m.machine.regs.pc (use_at_code (home_in w f x) base cell len (home_in w f i)) = subst (λ (q : ℕ). CodeStands w q (use_at_code (home_in w f x) base cell len (home_in w f i))) (sym r.pc) line.code in
    let m1 : Running = next_moment m (with_x m.machine 12 v) in
    let m2 : Running = located m1 len base in
    let m3 : Running = next_moment m2 (with_x m2.machine 10 value) in
    let m4 : Running = next_moment m3 (with_x m3.machine 9 cell) in
    let m5 : Running = next_moment m4 (with_x m4.machine 9 (cell + v)) in
    let m6 : Running = next_moment m5 m5.machine in
    let es : List MachineEvent = monitors (svc.Use (cell + v) value) ∷ [] in
    let r1 : RunsTo w.image 1 m m1 [] = loads-number w ok f callers globals m r m 12 i r.going refl refl (refl, refl, refl, refl, refl, refl, refl, refl) at.0 this.line.index in
    let test : GivesNothing w.image (m1.machine.regs.pc + 4 + 4) = gives_nothing w.image (m1.machine.regs.pc + 4 + 4) (rows.UseAt m1.machine.regs.pc cell len) (at.1.0 (m1.machine.regs.pc + 4 + 4) (omega arith) (omega arith)) (λ next. refl) in
    let r2 : RunsTo w.image 5 m1 m2 [] = locates w ok m1 len base (behind_use (home_in w f x) cell) r.going at.1.1 (omega arith) test first less in
    let r3 : RunsTo w.image 1 m2 m3 [] = subst (λ (u : ℕ). RunsTo w.image 1 m2 (next_moment m2 (with_x m2.machine 10 u)) []) word.is (loads_element w ok m2 base v r.going at.1.1.1.1.1.1.1.1.0 inside refl refl) in
    let r4 : RunsTo w.image 1 m3 m4 [] = movz w.image ok.low m3 9 cell r.going (omega arith) at.1.1.1.1.1.1.1.1.1.0 in
    let r5 : RunsTo w.image 1 m4 m5 [] = sets w.image ok.low m4 (AddReg 9 9 12 0) 9 (cell + v) r.going at.1.1.1.1.1.1.1.1.1.1.0 (λ r next. refl)
    (ap (λ (s : ℕ). goes_on m4.machine (with_reg m4.machine.regs 9 s)) (cell_is cell v (omega arith) (omega arith))) in
    let r6 : RunsTo w.image 1 m5 m6 es = svc_shows w.image ok.low m5 7 (svc.Use (cell + v) value) r.going at.1.1.1.1.1.1.1.1.1.1.1.0 refl refl in
    let ready : IsReadied w.image 10 44 es m.inputs m m6 =
    by-registers w.image 10 44 es m m6 (thence w.image 1 9 m m1 m6 [] es r1 (thence w.image 5 4 m1 m2 m6 [] es r2
    (thence w.image 1 3 m2 m3 m6 [] es r3 (thence w.image 1 2 m3 m4 m6 [] es r4 (thence w.image 1 1 m4 m5 m6 [] es r5 r6))))) r.going refl refl refl (refl, refl, refl, refl, refl, refl, refl, refl) (eleven m.machine.regs.pc) in
    ends_in_home w ok f callers globals m r 10 44 10 x value es m6 ready this.line.local.local (line.next ∙ plus (line_address w f)) at.1.1.1.1.1.1.1.1.1.1.1.1.0 (own_word w (w.ty f.func x) value _ this.line.local.ty word) where
      eleven : (p : ℕ) → p + 4 + 4 + 4 + 4 + 4 + 4 + 4 + 4 + 4 + 4 + 4 ≡ p + 44
      eleven p = omega arith

      plus : (p : ℕ) → p + 48 ≡ p + 44 + 4
      plus p = omega arith

pub critical_element_loads_trap : CriticalElementLoadsTrap
critical_element_loads_trap w ok f callers globals x base cell len i m r line this more =
    let few : len ≤ 4096 = this.few in
    let at : CodeStands w m.machine.regs.pc (use_at_code (home_in w f x) base cell len (home_in w f i)) = subst (λ (q : ℕ). CodeStands w q (use_at_code (home_in w f x) base cell len (home_in w f i))) (sym r.pc) line.code in
    let m1 : Running = next_moment m (with_x m.machine 12 (f.locals i)) in
    let r1 : RunsTo w.image 1 m m1 [] = loads-number w ok f callers globals m r m 12 i r.going refl refl (refl, refl, refl, refl, refl, refl, refl, refl) at.0 this.line.index in
    let test : GivesNothing w.image (m1.machine.regs.pc + 4 + 4) = gives_nothing w.image (m1.machine.regs.pc + 4 + 4) (rows.UseAt m1.machine.regs.pc cell len) (at.1.0 (m1.machine.regs.pc + 4 + 4) (omega arith) (omega arith)) (λ next. refl) in
    ends_behind w ok.low 1 4 (ends.Trap Index) m m1 r1 refl (refuses_element w ok m1 len base (behind_use (home_in w f x) cell) r.going at.1.1 (omega arith) test more)

-- ---- a define

pub critical_element_stores_lead : CriticalElementStoresLead
critical_element_stores_lead w ok f callers globals base cell len i x m r line this less =
    let v : ℕ = f.locals i in
    let g : ℕ = base + v in
    let value : ℕ = f.locals x in
    let few : len ≤ 4096 = this.few in
    let cells : cell + len ≤ 65536 = this.cells in
    let last : base + len ≤ w.globals = this.line.array.inside in
    let inside : g < w.globals = omega arith in
    let first : base < w.globals = omega arith in
    let at : CodeStands w m.machine.regs.pc (define_at_code base cell len (home_in w f i) (home_in w f x)) = subst (λ (q : ℕ). CodeStands w q (define_at_code base cell len (home_in w f i) (home_in w f x))) (sym r.pc) line.code in
    let m1 : Running = next_moment m (with_x m.machine 12 v) in
    let m2 : Running = next_moment m1 (with_x m1.machine 10 value) in
    let m3 : Running = located m2 len base in
    let m4 : Running = next_moment m3 (with_x m3.machine 9 cell) in
    let m5 : Running = next_moment m4 (with_x m4.machine 9 (cell + v)) in
    let m6 : Running = next_moment m5 (with_slot m5.machine (global_address g) value) in
    let m7 : Running = next_moment m6 m6.machine in
    let es : List MachineEvent = monitors (svc.Define (cell + v) value) ∷ [] in
    let r1 : RunsTo w.image 1 m m1 [] = loads-number w ok f callers globals m r m 12 i r.going refl refl (refl, refl, refl, refl, refl, refl, refl, refl) at.0 this.line.index in
    let r2 : RunsTo w.image 1 m1 m2 [] = loads-number w ok f callers globals m r m1 10 x r.going refl refl (refl, refl, refl, refl, refl, refl, refl, refl) at.1.0 this.line.local in
    let test : GivesNothing w.image (m2.machine.regs.pc + 4 + 4) = gives_nothing w.image (m2.machine.regs.pc + 4 + 4) (rows.DefAt m2.machine.regs.pc cell len) (at.1.1.0 (m2.machine.regs.pc + 4 + 4) (omega arith) (omega arith)) (λ next. refl) in
    let r3 : RunsTo w.image 5 m2 m3 [] = locates w ok m2 len base (behind_define cell) r.going at.1.1.1 (omega arith) test first less in
    let r4 : RunsTo w.image 1 m3 m4 [] = movz w.image ok.low m3 9 cell r.going (omega arith) at.1.1.1.1.1.1.1.1.1.0 in
    let r5 : RunsTo w.image 1 m4 m5 [] = sets w.image ok.low m4 (AddReg 9 9 12 0) 9 (cell + v) r.going at.1.1.1.1.1.1.1.1.1.1.0 (λ r next. refl)
    (ap (λ (s : ℕ). goes_on m4.machine (with_reg m4.machine.regs 9 s)) (cell_is cell v (omega arith) (omega arith))) in
    let ready : IsReadied w.image 9 40 [] m.inputs m m5 =
    by-registers w.image 9 40 [] m m5 (thence w.image 1 8 m m1 m5 [] [] r1 (thence w.image 1 7 m1 m2 m5 [] [] r2 (thence w.image 5 2 m2 m3 m5 [] [] r3 (thence w.image 1 1 m3 m4 m5 [] [] r4 r5)))) r.going refl refl refl (refl, refl, refl, refl, refl, refl, refl, refl) (ten m.machine.regs.pc) in
    let r6 : IsStored w.image 1 g value [] m5 m6 = stores_element w ok m5 base v r.going at.1.1.1.1.1.1.1.1.1.1.1.0 inside refl refl in
    let r7 : RunsTo w.image 1 m6 m7 es = svc_shows w.image ok.low m6 6 (svc.Define (cell + v) value) r.going at.1.1.1.1.1.1.1.1.1.1.1.1.0 refl refl in
    let both : IsStored w.image 2 g value es m5 m7 = shown_behind w.image g value m5 m6 es r6 r7 in
    ends_in_word w ok f callers globals m r 9 40 2 g value value [] es m5 m7 ready both (omega arith) inside (line.next ∙ plus (line_address w f))
    (subst (λ (ty : Ty). Represents w ty value value) (sym (this.line.array.numbers v less)) (record { known = number-small w ok f callers globals m r x this.line.local; is = refl })) where
      ten : (p : ℕ) → p + 4 + 4 + 4 + 4 + 4 + 4 + 4 + 4 + 4 + 4 ≡ p + 40
      ten p = omega arith

      plus : (p : ℕ) → p + 48 ≡ p + 40 + 4 * 2
      plus p = omega arith

pub critical_element_stores_trap : CriticalElementStoresTrap
critical_element_stores_trap w ok f callers globals base cell len i x m r line this more =
    let few : len ≤ 4096 = this.few in
    let at : CodeStands w m.machine.regs.pc (define_at_code base cell len (home_in w f i) (home_in w f x)) = subst (λ (q : ℕ). CodeStands w q (define_at_code base cell len (home_in w f i) (home_in w f x))) (sym r.pc) line.code in
    let m1 : Running = next_moment m (with_x m.machine 12 (f.locals i)) in
    let m2 : Running = next_moment m1 (with_x m1.machine 10 (f.locals x)) in
    let r1 : RunsTo w.image 1 m m1 [] = loads-number w ok f callers globals m r m 12 i r.going refl refl (refl, refl, refl, refl, refl, refl, refl, refl) at.0 this.line.index in
    let r2 : RunsTo w.image 1 m1 m2 [] = loads-number w ok f callers globals m r m1 10 x r.going refl refl (refl, refl, refl, refl, refl, refl, refl, refl) at.1.0 this.line.local in
    let test : GivesNothing w.image (m2.machine.regs.pc + 4 + 4) = gives_nothing w.image (m2.machine.regs.pc + 4 + 4) (rows.DefAt m2.machine.regs.pc cell len) (at.1.1.0 (m2.machine.regs.pc + 4 + 4) (omega arith) (omega arith)) (λ next. refl) in
    ends_behind w ok.low 2 4 (ends.Trap Index) m m2 (thence w.image 1 1 m m1 m2 [] [] r1 r2) refl (refuses_element w ok m2 len base (behind_define cell) r.going at.1.1.1 (omega arith) test more)
