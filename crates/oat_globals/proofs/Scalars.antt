-- The lines on scalars, and a reference.
use Rattle.std.proofs.Common.{◌≡◌, ◌+◌, ◌-◌, inr, ℕ, Bool, true, cond, [], refl, sym, ap, subst, ◌∙◌, arith, ne_eqb}
use Rattle.oat_frames.specs.{Ty, Fn, Running, Frames.World, Frames.Represents, Frames.home_in, Frames.line_address, Code.CodeStands, Readied.IsReadied, RunsTo, Moments.next_moment}
use Rattle.oat_frames.proofs.{Kit.with_x, Kit.moves-number, FrameLaws.by-registers}
use Rattle.oat_globals.specs.{Code.load_code, Code.store_code, Code.ref_code, Scalars.LoadsLead, Scalars.StoresLead, Scalars.ReferencesLead}
use Rattle.oat_globals.proofs.Accessing.{twice, addressed, addresses, loads_word, stores_word, ends_in_home}

pub loads_lead : LoadsLead
loads_lead w ok f callers globals x g m r line this =
    let at : CodeStands w m.machine.regs.pc (load_code (home_in w f x) g) = subst (λ (q : ℕ). CodeStands w q (load_code (home_in w f x) g)) (sym r.pc) line.code in
    loads_word w ok f callers globals m r 2 8 x g (addressed m g) (addresses w ok m g r.going this.global at.0 at.1.0) refl this at.1.1 (line.next ∙ plus (line_address w f)) where
      plus : (p : ℕ) → p + 16 ≡ p + 8 + 8
      plus p = omega arith

pub stores_lead : StoresLead
stores_lead w ok f callers globals g x m r line this =
    let at : CodeStands w m.machine.regs.pc (store_code g (home_in w f x)) = subst (λ (q : ℕ). CodeStands w q (store_code g (home_in w f x))) (sym r.pc) line.code in
    stores_word w ok f callers globals m r 2 8 g x (addressed m g) (addresses w ok m g r.going this.global at.0 at.1.0) refl this at.1.1 (line.next ∙ plus (line_address w f)) where
      plus : (p : ℕ) → p + 16 ≡ p + 8 + 8
      plus p = omega arith

-- ---- a reference

one_back : (n : ℕ) → n + 1 - 1 ≡ n
one_back n = omega arith

reference_value : (w : World) (callee params : ℕ) → w.may_name callee params ≡ true → Represents w (Fn params) (callee + 1) (w.label callee)
reference_value w callee params known = record {
  known = inr (ap (λ (n : ℕ). w.may_name n params) (one_back callee) ∙ known);
  is = sym (ap (λ (t : Bool). cond t 0 (w.label (callee + 1 - 1))) (ne_eqb (callee + 1) 0 (λ e. absurd (omega arith))) ∙ ap w.label (one_back callee));
}

pub references_lead : ReferencesLead
references_lead w ok f callers globals x callee params m r line this =
    let at : CodeStands w m.machine.regs.pc (ref_code (home_in w f x) callee) = subst (λ (q : ℕ). CodeStands w q (ref_code (home_in w f x) callee)) (sym r.pc) line.code in
    let m1 : Running = next_moment m m.machine in
    let k : Running = next_moment m1 (with_x m1.machine 9 (w.label callee)) in
    let two : RunsTo w.image 2 m k [] = moves-number w.image ok.low m 9 (w.label callee) (omega arith) r.going (ok.labels callee) at.0.0 at.0.1 in
    let ready : IsReadied w.image 2 8 [] m.inputs m k = by-registers w.image 2 8 [] m k two r.going refl refl refl (refl, refl, refl, refl, refl, refl, refl, refl) (twice m.machine.regs.pc) in
    ends_in_home w ok f callers globals m r 2 8 9 x (callee + 1) [] k ready this.local (line.next ∙ plus (line_address w f)) at.1.0
    (subst (λ (ty : Ty). Represents w ty (callee + 1) (w.label callee)) (sym this.ty) (reference_value w callee params this.known)) where
      plus : (p : ℕ) → p + 12 ≡ p + 8 + 4
      plus p = omega arith
