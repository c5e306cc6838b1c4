-- The lines const, copy, in and out.
use Rattle.std.proofs.Common.{◌≡◌, ◌+◌, ◌*◌, ◌/◌, ◌%◌, ◌^◌, ◌<◌, ℕ, ℤ, FitsSigned, [], ◌∷◌, refl, sym, ap, subst, ◌∙◌, arith}
use Rattle.std.specs.Int.{w64}
use Rattle.std.proofs.lemmas.Int.{ints}
use Rattle.oat_asm.specs.{signed}
use Rattle.oat_check.proofs.Bounds.{number_small}
use Rattle.oat_frames.specs.{Movz, Movk, Svc, goes_on, reg, with_reg, unsigned, shifted_left, with_bits, Running, Stands, Ty, I64, Code.CodeStands, Code.store_inst, prints, Frames.World}
use Rattle.oat_frames.specs.{Frames.Represents, Frames.home_word, Frames.home_in, Frames.line_address, Readied.IsReadied, RunsTo, inst_makes, Moments.next_moment}
use Rattle.oat_frames.proofs.{Kit.thence, Kit.with_x, Kit.sets, Kit.input_next, Kit.outputs_next, Kit.svc-in, Kit.svc-in-end, Kit.svc-out, FrameLaws.by-registers, FrameLaws.assigns}
use Rattle.oat_frames.proofs.{FrameLaws.keeps-eight, FrameLaws.local-word, FrameLaws.loads-local, FrameLaws.loads-number, FrameLaws.scratched}
use Rattle.oat_locals.specs.{Code.const_code, Code.copy_code, Code.input_code, Code.output_code, Lines.ConstsLead, Lines.CopiesLead, Lines.InputsLead, Lines.InputEndsTrap, Lines.OutputsLead}
use Rattle.oat_check.specs.Operators as words

-- ---- where the store stands

four : (p q n : ℕ) → q ≡ p + 4 * n → n ≡ 2 → q ≡ p + 4 + 4
four p q n a b = omega arith

sixteen : (p q n : ℕ) → q ≡ p + 4 * n → n ≡ 5 → q ≡ p + 16 + 4
sixteen p q n a b = omega arith

plus-16 : (p : ℕ) → p + 4 + 4 + 4 + 4 ≡ p + 16
plus-16 p = omega arith

number-is : (w : World) (ty : Ty) (c word : ℕ) → ty ≡ I64 → c < 2 ^ 64 → word ≡ c → Represents w ty c word
number-is w ty c word is small same = subst (λ (k : Ty). Represents w k c word) (sym is) (record { known = small; is = same })

-- ---- const: the quarters of a number

quarter-0 : (n : ℕ) → shifted_left (n % 2 ^ 16) (16 * 0) ≡ n % 2 ^ 16
quarter-0 n = omega arith

quarter-1 : (n : ℕ) → with_bits (n % 2 ^ 16) (16 * 1) (n / 2 ^ 16 % 2 ^ 16) ≡ n % 2 ^ 32
quarter-1 n = omega arith

quarter-2 : (n : ℕ) → with_bits (n % 2 ^ 32) (16 * 2) (n / 2 ^ 32 % 2 ^ 16) ≡ n % 2 ^ 48
quarter-2 n = omega arith

quarter-3 : (n : ℕ) → n < 2 ^ 64 → with_bits (n % 2 ^ 48) (16 * 3) (n / 2 ^ 48) ≡ n
quarter-3 n h = omega arith

pub consts-lead : ConstsLead
consts-lead w ok f callers globals x value m r this =
    let n : ℕ = words.number value in
    let small : n < 2 ^ 64 = number_small value in
    let here : CodeStands w m.machine.regs.pc (const_code (home_in w f x) value) = subst (λ (p : ℕ). CodeStands w p (const_code (home_in w f x) value)) (sym r.pc) this.line.code in
    let m1 : Running = next_moment m (with_x m.machine 9 (n % 2 ^ 16)) in
    let m2 : Running = next_moment m1 (with_x m1.machine 9 (n % 2 ^ 32)) in
    let m3 : Running = next_moment m2 (with_x m2.machine 9 (n % 2 ^ 48)) in
    let m4 : Running = next_moment m3 (with_x m3.machine 9 n) in
    let one : RunsTo w.image 1 m m1 [] = sets w.image ok.low m (Movz 9 0 (n % 2 ^ 16)) 9 (n % 2 ^ 16) r.going here.0 (λ r next. refl) (ap (λ (v : ℕ). goes_on m.machine (with_reg m.machine.regs 9 v)) (quarter-0 n)) in
    let two : RunsTo w.image 1 m1 m2 [] = sets w.image ok.low m1 (Movk 9 1 (n / 2 ^ 16 % 2 ^ 16)) 9 (n % 2 ^ 32) r.going here.1.0 (λ r next. refl) (ap (λ (v : ℕ). goes_on m1.machine (with_reg m1.machine.regs 9 v)) (quarter-1 n)) in
    let three : RunsTo w.image 1 m2 m3 [] = sets w.image ok.low m2 (Movk 9 2 (n / 2 ^ 32 % 2 ^ 16)) 9 (n % 2 ^ 48) r.going here.1.1.0 (λ r next. refl) (ap (λ (v : ℕ). goes_on m2.machine (with_reg m2.machine.regs 9 v)) (quarter-2 n)) in
    let last : RunsTo w.image 1 m3 m4 [] = sets w.image ok.low m3 (Movk 9 3 (n / 2 ^ 48)) 9 n r.going here.1.1.1.0 (λ r next. refl) (ap (λ (v : ℕ). goes_on m3.machine (with_reg m3.machine.regs 9 v)) (quarter-3 n small)) in
    let ready : IsReadied w.image 4 16 [] m.inputs m m4 = by-registers w.image 4 16 [] m m4 (thence w.image 1 3 m m1 m4 [] [] one (thence w.image 1 2 m1 m2 m4 [] [] two (thence w.image 1 1 m2 m3 m4 [] [] three last))) r.going refl refl refl (refl, refl, refl, refl, refl, refl, refl, refl) (plus-16 m.machine.regs.pc) in
    assigns w ok f callers globals m r 4 16 9 x n [] m.inputs m4 ready
    (subst (λ (p : ℕ). Stands w.image.code p (store_inst 9 (home_in w f x))) (plus-16 (line_address w f)) this.line.code.1.1.1.1.0)
    (sixteen (line_address w f) (w.place f.func f.block (f.line + 1)) _ this.line.next refl) this.to.local (number-is w (w.ty f.func x) n (reg m4.machine.regs 9) this.to.ty small refl)

-- ---- copy

pub copies-lead : CopiesLead
copies-lead w ok f callers globals x y m r this =
    let word : ℕ = home_word m.machine.regs.x m.machine.memory m.machine.regs.sp (home_in w f y) in
    let here : CodeStands w m.machine.regs.pc (copy_code (home_in w f x) (home_in w f y)) = subst (λ (p : ℕ). CodeStands w p (copy_code (home_in w f x) (home_in w f y))) (sym r.pc) this.line.code in
    let m1 : Running = next_moment m (with_x m.machine 9 word) in
    let ready : IsReadied w.image 1 4 [] m.inputs m m1 =
    by-registers w.image 1 4 [] m m1 (loads-local w ok f callers globals m r m 9 y r.going refl refl (λ i h. refl) here.0 this.from_local) r.going refl refl refl (refl, refl, refl, refl, refl, refl, refl, refl) refl in
    assigns w ok f callers globals m r 1 4 9 x (f.locals y) [] m.inputs m1 ready this.line.code.1.0
    (four (line_address w f) (w.place f.func f.block (f.line + 1)) _ this.line.next refl) this.to_local
    (subst (λ (ty : Ty). Represents w ty (f.locals y) word) this.types (local-word w ok f callers globals m r y this.from_local))

-- ---- in

-- an input that fits is its word
pub input-is : (value : ℤ) → FitsSigned w64 value → unsigned value ≡ words.number value
input-is value fits = sym (whole (unsigned value) (bits value fits)) where
  whole : (n : ℕ) → n < 2 ^ 64 → n % 2 ^ 64 ≡ n
  whole n l = omega arith

  bits : (z : ℤ) → FitsSigned w64 z → unsigned z < 2 ^ 64
  bits z h = omega (arith, ints, h)

pub inputs-lead : InputsLead
inputs-lead w ok f callers globals x value rest m r this is fits =
    let n : ℕ = words.number value in
    let here : CodeStands w m.machine.regs.pc (input_code (home_in w f x)) = subst (λ (p : ℕ). CodeStands w p (input_code (home_in w f x))) (sym r.pc) this.line.code in
    let m1 : Running = input_next m value rest in
    let ready : IsReadied w.image 1 4 [] rest m m1 = record {
      runs = svc-in w.image ok.low m value rest r.going here.0 is;
      going = r.going;
      inputs = refl;
      outputs = refl;
      memory = refl;
      sp = refl;
      pc = refl;
      depth = refl;
      homes = keeps-eight m.machine.regs.x m1.machine.regs.x (refl, refl, refl, refl, refl, refl, refl, refl);
    } in
    assigns w ok f callers globals m r 1 4 0 x n [] rest m1 ready this.line.code.1.0
    (four (line_address w f) (w.place f.func f.block (f.line + 1)) _ this.line.next refl) this.to.local (number-is w (w.ty f.func x) n (reg m1.machine.regs 0) this.to.ty (number_small value) (input-is value fits))

pub input-ends-trap : InputEndsTrap
input-ends-trap w ok f callers globals x m r this is =
    let here : CodeStands w m.machine.regs.pc (input_code (home_in w f x)) = subst (λ (p : ℕ). CodeStands w p (input_code (home_in w f x))) (sym r.pc) this.line.code in
    let s = svc-in-end w.image ok.low m r.going here.0 is in
    record { to = inst_makes m (Svc 8); count = 1; some = omega arith; few = omega arith; runs = s.0; end = s.1; outputs = s.2 }

-- ---- out

pub outputs-lead : OutputsLead
outputs-lead w ok f callers globals x m r this =
    let v : ℕ = f.locals x in
    let here : CodeStands w m.machine.regs.pc (output_code (home_in w f x)) = subst (λ (p : ℕ). CodeStands w p (output_code (home_in w f x))) (sym r.pc) this.line.code in
    let m1 : Running = next_moment m (with_x m.machine 0 v) in
    let m2 : Running = outputs_next m1 in
    let one : RunsTo w.image 1 m m1 [] = loads-number w ok f callers globals m r m 0 x r.going refl refl (refl, refl, refl, refl, refl, refl, refl, refl) here.0 this.from in
    let two : RunsTo w.image 1 m1 m2 (prints (signed v) ∷ []) = svc-out w.image ok.low m1 r.going here.1.0 in
    record {
      to = m2;
      count = 2;
      some = omega arith;
      few = omega arith;
      runs = thence w.image 1 1 m m1 m2 [] (prints (signed v) ∷ []) one two;
      inputs = refl;
      outputs = refl;
      is_at = record {
        going = r.going;
        pc = ap (λ (p : ℕ). p + 4 + 4) r.pc ∙ sym (four (line_address w f) (w.place f.func f.block (f.line + 1)) _ this.line.next refl);
        holds = scratched w f.func f.locals callers globals m.machine.regs.x m2.machine.regs.x m.machine.regs.sp m.machine.memory r.holds refl (keeps-eight m.machine.regs.x m2.machine.regs.x (refl, refl, refl, refl, refl, refl, refl, refl));
      };
    }
