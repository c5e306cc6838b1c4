-- The lines on critical scalars, by the groups of a use and of a define.
use Rattle.std.proofs.Common.{◌≡◌, ◌+◌, ◌*◌, ℕ, List, [], ◌∷◌, refl, sym, subst, ◌∙◌, arith}
use Rattle.oat_frames.specs.{Ty, I64, word_in, global_address, Running, Code.CodeStands, MachineEvent, monitors, Frames.World, Frames.Represents, Frames.home_in, Frames.line_address}
use Rattle.oat_frames.specs.{Readied.IsReadied, RunsTo, Moments.next_moment}
use Rattle.oat_frames.proofs.{Kit.thence, Kit.with_x, Kit.with_slot, FrameLaws.loads-number, FrameLaws.number-small, FrameLaws.by-registers}
use Rattle.oat_globals.specs.{Code.use_code, Code.define_code, Scalars.CriticalLoadsLead, Scalars.CriticalStoresLead}
use Rattle.oat_globals.proofs.{Showing.movz, Showing.svc_shows, Accessing.IsStored, Accessing.shown_behind, Accessing.addressed, Accessing.addresses, Accessing.fetches, Accessing.puts_word}
use Rattle.oat_globals.proofs.{Accessing.number_word, Accessing.ends_in_home, Accessing.ends_in_word}
use Rattle.oat_frames.specs.svc as svc

-- a number is its own word
pub own_word : (w : World) (ty : Ty) (v word : ℕ) → ty ≡ I64 → Represents w I64 v word → Represents w ty v v
own_word w ty v word e h = subst (λ (t : Ty). Represents w t v v) (sym e) (record { known = h.known; is = refl })

pub critical_loads_lead : CriticalLoadsLead
critical_loads_lead w ok f callers globals x g cell m r line this =
    let v : ℕ = globals g in
    let word : Represents w I64 v (word_in m.machine.memory (global_address g)) = number_word w ok f callers globals m r g this.global this.ty in
    let at : CodeStands w m.machine.regs.pc (use_code (home_in w f x) g cell) = subst (λ (q : ℕ). CodeStands w q (use_code (home_in w f x) g cell)) (sym r.pc) line.code in
    let m2 : Running = addressed m g in
    let m3 : Running = next_moment m2 (with_x m2.machine 10 v) in
    let m4 : Running = next_moment m3 (with_x m3.machine 9 cell) in
    let m5 : Running = next_moment m4 m4.machine in
    let es : List MachineEvent = monitors (svc.Use cell v) ∷ [] in
    let two : IsReadied w.image 2 8 [] m.inputs m m2 = addresses w ok m g r.going this.global at.1.0 at.1.1.0 in
    let three : RunsTo w.image 1 m2 m3 [] = subst (λ (u : ℕ). RunsTo w.image 1 m2 (next_moment m2 (with_x m2.machine 10 u)) []) word.is (fetches w ok m2 10 g r.going this.global refl at.1.1.1.0) in
    let four : RunsTo w.image 1 m3 m4 [] = movz w.image ok.low m3 9 cell r.going this.few at.1.1.1.1.0 in
    let five : RunsTo w.image 1 m4 m5 es = svc_shows w.image ok.low m4 7 (svc.Use cell v) r.going at.1.1.1.1.1.0 refl refl in
    let ready : IsReadied w.image 5 20 es m.inputs m m5 =
    by-registers w.image 5 20 es m m5 (thence w.image 2 3 m m2 m5 [] es two.runs (thence w.image 1 2 m2 m3 m5 [] es three (thence w.image 1 1 m3 m4 m5 [] es four five))) r.going refl refl refl (refl, refl, refl, refl, refl, refl, refl, refl) (five_words m.machine.regs.pc) in
    ends_in_home w ok f callers globals m r 5 20 10 x v es m5 ready this.local.local (line.next ∙ plus (line_address w f)) at.1.1.1.1.1.1.0 (own_word w (w.ty f.func x) v _ this.local.ty word) where
      five_words : (p : ℕ) → p + 4 + 4 + 4 + 4 + 4 ≡ p + 20
      five_words p = omega arith

      plus : (p : ℕ) → p + 24 ≡ p + 20 + 4
      plus p = omega arith

pub critical_stores_lead : CriticalStoresLead
critical_stores_lead w ok f callers globals g cell x m r line this =
    let v : ℕ = f.locals x in
    let at : CodeStands w m.machine.regs.pc (define_code g cell (home_in w f x)) = subst (λ (q : ℕ). CodeStands w q (define_code g cell (home_in w f x))) (sym r.pc) line.code in
    let m1 : Running = next_moment m (with_x m.machine 10 v) in
    let m3 : Running = addressed m1 g in
    let m4 : Running = next_moment m3 (with_x m3.machine 9 cell) in
    let m5 : Running = next_moment m4 (with_slot m4.machine (global_address g) v) in
    let m6 : Running = next_moment m5 m5.machine in
    let es : List MachineEvent = monitors (svc.Define cell v) ∷ [] in
    let one : RunsTo w.image 1 m m1 [] = loads-number w ok f callers globals m r m 10 x r.going refl refl (refl, refl, refl, refl, refl, refl, refl, refl) at.0 this.local in
    let three : IsReadied w.image 2 8 [] m1.inputs m1 m3 = addresses w ok m1 g r.going this.global at.1.1.0 at.1.1.1.0 in
    let four : RunsTo w.image 1 m3 m4 [] = movz w.image ok.low m3 9 cell r.going this.few at.1.1.1.1.0 in
    let ready : IsReadied w.image 4 16 [] m.inputs m m4 =
    by-registers w.image 4 16 [] m m4 (thence w.image 1 3 m m1 m4 [] [] one (thence w.image 2 1 m1 m3 m4 [] [] three.runs four)) r.going refl refl refl (refl, refl, refl, refl, refl, refl, refl, refl) (four_words m.machine.regs.pc) in
    let five : IsStored w.image 1 g v [] m4 m5 = puts_word w ok m4 10 g r.going this.global refl at.1.1.1.1.1.0 in
    let six : RunsTo w.image 1 m5 m6 es = svc_shows w.image ok.low m5 6 (svc.Define cell v) r.going at.1.1.1.1.1.1.0 refl refl in
    let both : IsStored w.image 2 g v es m4 m6 = shown_behind w.image g v m4 m5 es five six in
    ends_in_word w ok f callers globals m r 4 16 2 g v v [] es m4 m6 ready both (omega arith) this.global (line.next ∙ plus (line_address w f))
    (subst (λ (ty : Ty). Represents w ty v v) (sym this.ty) (record { known = number-small w ok f callers globals m r x this.local; is = refl })) where
      four_words : (p : ℕ) → p + 4 + 4 + 4 + 4 ≡ p + 16
      four_words p = omega arith

      plus : (p : ℕ) → p + 24 ≡ p + 16 + 4 * 2
      plus p = omega arith
