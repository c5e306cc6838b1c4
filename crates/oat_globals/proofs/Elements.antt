-- An element's address in register 11, or the trap Index; and the two lines on elements.
use Rattle.std.proofs.Common.{◌≡◌, ◌+◌, ◌<◌, ◌≤◌, ℕ, List, [], ◌∷◌, ◌++◌, refl, sym, ap, subst, ◌∙◌, arith}
use Rattle.oat_frames.specs.{AddReg, Ldr, Str, goes_on, with_reg, wrap, shifted_left, Item, Index, global_address, Frame, Running, Code.CodeStands, Code.home_load, Code.home_store, Frames.World}
use Rattle.oat_frames.specs.{Frames.IsWorld, Frames.IsAt, Frames.home_in, Frames.line_address, Lines.IsNumberLocal, Readied.IsReadied, RunsTo, Moments.next_moment}
use Rattle.oat_frames.proofs.{Kit.thence, Kit.with_x, Kit.sets, Kit.moves-number, FrameLaws.loads-number, FrameLaws.by-registers}
use Rattle.oat_globals.specs.{Code.element_code, Elements.IsArrayAt, Elements.ElementLoadsLead, Elements.ElementStoresLead, Elements.ElementsTrap}
use Rattle.oat_globals.proofs.{Showing.GivesNothing, Showing.gives_nothing, Showing.admits, Showing.admitted, Showing.refuses, Showing.ends_behind, Accessing.loads_word, Accessing.stores_word}
use Rattle.oat_asm.specs.declared.item.Item.TheVariants as item
use Rattle.oat_frames.specs.rows as rows
use Rattle.oat_frames.specs.ends as ends

-- ---- the element's address

-- the address of word g stands in register 11, and these items behind
record ElementAt (w : World) (m k : Running) (g : ℕ) (is : List Item) : Type 0 where
  pub ready : IsReadied w.image 8 36 [] m.inputs m k
  pub address : k.machine.regs.x 11 ≡ global_address g
  pub behind : CodeStands w k.machine.regs.pc is

scaled : (b v : ℕ) → b < 65536 → v < 65536 → wrap (global_address b + shifted_left v 3) ≡ global_address (b + v)
scaled b v h l = omega arith

module _ (w : World) (ok : IsWorld w) (f : Frame) (callers : List Frame) (globals : ℕ → ℕ) (m : Running) (r : IsAt w f callers globals m) where
  element : (base len i : ℕ) (is : List Item) → CodeStands w (line_address w f) (element_code base len (home_in w f i) ++ is) → IsArrayAt w base len → IsNumberLocal w f i → f.locals i < len
      → (k : Running) × ElementAt w m k (base + f.locals i) is
  element base len i is code array local less =
      let v : ℕ = f.locals i in
      let few : w.globals ≤ 65536 = ok.globals in
      let inside : base + len ≤ w.globals = array.inside in
      let at : CodeStands w m.machine.regs.pc (element_code base len (home_in w f i) ++ is) = subst (λ (q : ℕ). CodeStands w q (element_code base len (home_in w f i) ++ is)) (sym r.pc) code in
      let m1 : Running = next_moment m (with_x m.machine 12 v) in
      let m2 : Running = next_moment m1 m1.machine in
      let m3 : Running = next_moment m2 (with_x m2.machine 11 len) in
      let m4 : Running = admitted m3 in
      let m5 : Running = next_moment m4 m4.machine in
      let m6 : Running = next_moment m5 (with_x m5.machine 11 (global_address base)) in
      let m7 : Running = next_moment m6 (with_x m6.machine 11 (global_address (base + v))) in
      let one : RunsTo w.image 1 m m1 [] = loads-number w ok f callers globals m r m 12 i r.going refl refl (refl, refl, refl, refl, refl, refl, refl, refl) at.0 local in
      let two : RunsTo w.image 2 m1 m3 [] = moves-number w.image ok.low m1 11 len (omega arith) r.going (omega arith) at.1.0 at.1.1.0 in
      let test : GivesNothing w.image (m3.machine.regs.pc + 4) = gives_nothing w.image (m3.machine.regs.pc + 4) (rows.Check (m3.machine.regs.pc + 4)) (at.1.1.1.1.0 (m3.machine.regs.pc + 4) (omega arith) (omega arith)) (λ next. refl) in
      let three : RunsTo w.image 2 m3 m4 [] = admits w.image ok.low m3 r.going at.1.1.1.0 at.1.1.1.1.1.0 test less in
      let four : RunsTo w.image 2 m4 m6 [] = moves-number w.image ok.low m4 11 (global_address base) (omega arith) r.going (omega arith) at.1.1.1.1.1.1.1.0 at.1.1.1.1.1.1.1.1.0 in
      let five : RunsTo w.image 1 m6 m7 [] = sets w.image ok.low m6 (AddReg 11 11 12 3) 11 (global_address (base + v)) r.going at.1.1.1.1.1.1.1.1.1.0 (λ r next. refl)
      (ap (λ (s : ℕ). goes_on m6.machine (with_reg m6.machine.regs 11 s)) (scaled base v (omega arith) (omega arith))) in (
        m7,
        record {
          ready = by-registers w.image 8 36 [] m m7 (thence w.image 1 7 m m1 m7 [] [] one (thence w.image 2 5 m1 m3 m7 [] [] two (thence w.image 2 3 m3 m4 m7 [] [] three (thence w.image 2 1 m4 m6 m7 [] [] four five))))
              r.going refl refl refl (refl, refl, refl, refl, refl, refl, refl, refl) (plus m.machine.regs.pc);
          address = refl;
          behind = at.1.1.1.1.1.1.1.1.1.1;
        },
      ) where
        plus : (p : ℕ) → p + 4 + 4 + 4 + 4 + 4 + 4 + 4 + 4 + 4 ≡ p + 36
        plus p = omega arith

pub elements_trap : ElementsTrap
elements_trap w ok f callers globals base len i is m r code local small more =
    let at : CodeStands w m.machine.regs.pc (element_code base len (home_in w f i) ++ is) = subst (λ (q : ℕ). CodeStands w q (element_code base len (home_in w f i) ++ is)) (sym r.pc) code in
    let m1 : Running = next_moment m (with_x m.machine 12 (f.locals i)) in
    let m2 : Running = next_moment m1 m1.machine in
    let m3 : Running = next_moment m2 (with_x m2.machine 11 len) in
    let one : RunsTo w.image 1 m m1 [] = loads-number w ok f callers globals m r m 12 i r.going refl refl (refl, refl, refl, refl, refl, refl, refl, refl) at.0 local in
    let two : RunsTo w.image 2 m1 m3 [] = moves-number w.image ok.low m1 11 len (omega arith) r.going small at.1.0 at.1.1.0 in
    let test : GivesNothing w.image (m3.machine.regs.pc + 4) = gives_nothing w.image (m3.machine.regs.pc + 4) (rows.Check (m3.machine.regs.pc + 4)) (at.1.1.1.1.0 (m3.machine.regs.pc + 4) (omega arith) (omega arith)) (λ next. refl) in
    ends_behind w ok.low 3 3 (ends.Trap Index) m m3 (thence w.image 1 2 m m1 m3 [] [] one two) refl (refuses w ok.low m3 r.going at.1.1.1.0 at.1.1.1.1.1.0 test at.1.1.1.1.1.1.0 more)

-- ---- the two lines

pub element_loads_lead : ElementLoadsLead
element_loads_lead w ok f callers globals x base len i m r line this less =
    let inside : base + len ≤ w.globals = this.array.inside in
    let e = element w ok f callers globals m r base len i (item.Inst (Ldr 9 11 0) ∷ home_store 9 (home_in w f x) ∷ []) line.code this.array this.index less in
    loads_word w ok f callers globals m r 8 36 x (base + f.locals i) e.0 e.1.ready e.1.address
    (record { global = omega arith; local = this.local.local; types = this.local.ty ∙ sym (this.array.numbers (f.locals i) less) }) e.1.behind (line.next ∙ plus (line_address w f)) where
      plus : (p : ℕ) → p + 44 ≡ p + 36 + 8
      plus p = omega arith

pub element_stores_lead : ElementStoresLead
element_stores_lead w ok f callers globals base len i x m r line this less =
    let inside : base + len ≤ w.globals = this.array.inside in
    let e = element w ok f callers globals m r base len i (home_load 9 (home_in w f x) ∷ item.Inst (Str 9 11 0) ∷ []) line.code this.array this.index less in
    stores_word w ok f callers globals m r 8 36 (base + f.locals i) x e.0 e.1.ready e.1.address
    (record { global = omega arith; local = this.local.local; types = this.local.ty ∙ sym (this.array.numbers (f.locals i) less) }) e.1.behind (line.next ∙ plus (line_address w f)) where
      plus : (p : ℕ) → p + 44 ≡ p + 36 + 8
      plus p = omega arith
