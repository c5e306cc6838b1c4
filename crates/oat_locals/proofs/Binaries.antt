-- The nineteen lines X = Y op Z, each a row: its result as the machine makes it, joined to the source's.
use Rattle.std.proofs.Common.{◌≡◌, ◌+◌, ◌*◌, ◌%◌, ◌^◌, ◌<◌, ◌≤◌, inl, inr, ℕ, Bool, true, false, cond, not, eqb, leb, ltb, List, [], ◌∷◌, ◌++◌, Some, None, refl, sym, ap, ◌∙◌, arith, eqb-true}
use Rattle.std.proofs.Common.{bit_and, bit_or, bit_xor}
use Rattle.std.proofs.lemmas.Bool.{eqb-false}
use Rattle.oat_bits.proofs.WordLemmas.{remainders_are_left}
use Rattle.oat_check.proofs.Bounds.{result_small}
use Rattle.oat_frames.specs.{unsigned_remainder, signed_remainder, Inst, Csinc, Msub, Regs, Machine, act, goes_on, reg, set, with_reg, with_flags, holds, wrap, difference, shifted_left, shifted_right}
use Rattle.oat_frames.specs.{shifted_right_signed, unsigned_quotient, signed_quotient, Item, BinOp, Add, Sub, Mul, And, Or, Xor, Shl, Shr, Sar, Eq, Ne, Lt, Le, Ltu, Leu, Div, Rem, Divu, Remu, DivZero}
use Rattle.oat_frames.specs.{Running, truth, divided, result_of, Frame, Comes.StepsTo, Comes.EndsWithin, Comes.with_result, Frames.World, Frames.IsWorld, Frames.IsAt, Frames.home_of, Frames.home_in}
use Rattle.oat_frames.specs.{Lines.IsLineAt, Lines.IsNumberLocal, Moments.next_moment, Moments.jumped}
use Rattle.oat_frames.proofs.{Kit.set-same, Kit.set-other, Kit.with_x, Kit.compared, Kit.IsQuiet, FrameLaws.home-cases, FrameLaws.number-small}
use Rattle.oat_locals.specs.{Code.operand_in, Code.operand_load, Code.operand_store, Code.binary_code, Code.operation_code, Code.one_inst, Code.compared_by, Code.divisor_tested, Lines.BinariesLead}
use Rattle.oat_locals.specs.{Lines.DivisionsTrap}
use Rattle.oat_locals.proofs.{Flags.n-is-v, Flags.z-n-v, Flags.z-is, Flags.c-z, Reached.Reached, Reached.begun, Reached.gives, Reached.flags, Reached.skips, Reached.traps, Reached.loaded}
use Rattle.oat_locals.proofs.{Reached.ends-with}
use Rattle.oat_asm.specs.declared.item.Item.TheVariants as item
use Rattle.oat_frames.specs.ends as ends

-- ---- results

got : (a b : ℕ) → Some a ≡ Some b → a ≡ b
got a b e = cc

pub added : (u v : ℕ) → wrap (u + shifted_left v 0) ≡ wrap (u + v)
added u v = omega arith

pub multiplied : (u v : ℕ) → wrap (0 + u * v) ≡ wrap (u * v)
multiplied u v = ap wrap (none (u * v)) where
  none : (n : ℕ) → 0 + n ≡ n
  none n = omega arith

twice : (t : Bool) → t ≡ not (not t)
twice true = refl
twice false = refl

not-below : (u v : ℕ) → leb v u ≡ not (ltb u v)
not-below u v = grind arith

record Divides (v q c : ℕ) : Type 0 where
  some : v ≡ 0 → ⊥
  is : q ≡ c

divides : (v q c : ℕ) → divided v q ≡ Some c → Divides v q c
divides v q c = by (eqb v 0) refl where
  by : (t : Bool) → eqb v 0 ≡ t → cond t None (Some q) ≡ Some c → Divides v q c
  by true is e = absurd (cc)
  by false is e = record { some = eqb-false v 0 is; is = got q c e }

undivided : (v q : ℕ) → divided v q ≡ None → v ≡ 0
undivided v q = by (eqb v 0) refl where
  by : (t : Bool) → eqb v 0 ≡ t → cond t None (Some q) ≡ None → v ≡ 0
  by true is e = eqb-true v 0 is
  by false is e = absurd (cc)

pub quotient-of : (g : ℕ → ℕ → ℕ) (a b u v c : ℕ) → a ≡ u → b ≡ v → g u v ≡ c → g a b ≡ c
quotient-of g a b u v c e h is = ap (λ (n : ℕ). g n b) e ∙ ap (g u) h ∙ is

-- ---- the shapes, behind the operands

-- CSET under the flipped condition
chosen : (h t : Bool) → h ≡ not t → cond h 0 (wrap (0 + 1)) ≡ truth t
chosen h true e = rw e refl
chosen h false e = rw e refl

-- no operand stands in a higher scratch register
not-at : (n : ℕ) (leaf : Bool) (r y : ℕ) → r < n → n < 19 → operand_in r (home_of leaf y) ≡ n → ⊥
not-at n leaf r y low high e = elim (home-cases leaf y) [
  | inl at ↦ scratch (sym (ap (operand_in r) at) ∙ e)
  | inr at ↦ own (sym (ap (operand_in r) at.0) ∙ e)
] where
  scratch : r ≡ n → ⊥
  scratch e = absurd (omega arith)

  own : 19 + y ≡ n → ⊥
  own e = absurd (omega arith)

module _ (w : World) (ok : IsWorld w) (f : Frame) (callers : List Frame) (globals : ℕ → ℕ) (x y z : ℕ) (m : Running) (r : IsAt w f callers globals m)
    (to : IsNumberLocal w f x) (left : IsNumberLocal w f y) (right : IsNumberLocal w f z) where
  -- both operands stand in their registers, before these items and the store of the result
  record Ready (is : List Item) (k : Running) : Type 0 where
    steps : ℕ
    few : steps ≤ 2
    reached : Reached w ok f callers globals m r steps (is ++ operand_store 9 (home_in w f x)) k
    first : reg k.machine.regs (operand_in 9 (home_in w f y)) ≡ f.locals y
    second : reg k.machine.regs (operand_in 10 (home_in w f z)) ≡ f.locals z

  ready : (op : BinOp) → IsLineAt w f (binary_code op (home_in w f x) (home_in w f y) (home_in w f z)) → (k : Running) × Ready (operation_code op (operand_in 9 (home_in w f x)) (operand_in 9 (home_in w f y)) (operand_in 10 (home_in w f z))) k
  ready op line =
      let is : List Item = operation_code op (operand_in 9 (home_in w f x)) (operand_in 9 (home_in w f y)) (operand_in 10 (home_in w f z)) ++ operand_store 9 (home_in w f x) in
      let one = loaded w ok f callers globals m r 0 9 y (operand_load 10 (home_in w f z) ++ is) m (begun w ok f callers globals m r (binary_code op (home_in w f x) (home_in w f y) (home_in w f z)) line) (omega arith) left in
      let two = loaded w ok f callers globals m r one.1.steps 10 z is one.0 one.1.reached (omega arith) right in (
        two.0,
        record {
          steps = two.1.steps;
          few = let e = one.1.few in let h = two.1.few in omega arith;
          reached = two.1.reached;
          first = two.1.others (operand_in 9 (home_in w f y)) (not-at 10 (w.is_leaf f.func) 9 y (omega arith) (omega arith)) ∙ one.1.value;
          second = two.1.value;
        },
      )

  -- one instruction, whose result is this function of the operands
  by-plain : (i : Inst) (g : ℕ → ℕ → ℕ) (c : ℕ) (k : Running) → Ready (one_inst i) k → c < 2 ^ 64 → IsQuiet w.image i → g (f.locals y) (f.locals z) ≡ c
      → ((k : Machine) → act i k ≡ goes_on k (with_reg k.regs (operand_in 9 (home_in w f x)) (g (reg k.regs (operand_in 9 (home_in w f y))) (reg k.regs (operand_in 10 (home_in w f z))))))
      → StepsTo w 6 (with_result f x c) callers globals [] m
  by-plain i g c k h small quiet result does =
      ends-with w ok f callers globals m r h.steps x c i k h.reached (omega (arith, h.few)) to small quiet
      (does k.machine ∙ ap (λ (v : ℕ). goes_on k.machine (with_reg k.machine.regs (operand_in 9 (home_in w f x)) v)) (quotient-of g _ _ (f.locals y) (f.locals z) c h.first h.second result))

  by-compare : (flipped : ℕ) (t : Bool) (c : ℕ) (k : Running) → Ready (compared_by flipped (operand_in 9 (home_in w f x)) (operand_in 9 (home_in w f y)) (operand_in 10 (home_in w f z))) k → c < 2 ^ 64
      → ((regs : Regs) → holds flipped (with_flags regs (f.locals y) (f.locals z)) ≡ not t) → truth t ≡ c → StepsTo w 6 (with_result f x c) callers globals [] m
  by-compare flipped t c k h small flagged result =
      let l : Running = next_moment k (compared k.machine (reg k.machine.regs (operand_in 9 (home_in w f y))) (reg k.machine.regs (operand_in 10 (home_in w f z)))) in
      let behind = flags w ok f callers globals m r h.steps (operand_in 9 (home_in w f y)) (operand_in 10 (home_in w f z)) (item.Inst (Csinc (operand_in 9 (home_in w f x)) 31 31 flipped) ∷ operand_store 9 (home_in w f x)) k h.reached in
      let met : holds flipped l.machine.regs ≡ not t =
      ap (λ (u : ℕ). holds flipped (with_flags k.machine.regs u (reg k.machine.regs (operand_in 10 (home_in w f z))))) h.first
      ∙ ap (λ (v : ℕ). holds flipped (with_flags k.machine.regs (f.locals y) v)) h.second ∙ flagged k.machine.regs in
      ends-with w ok f callers globals m r (h.steps + 1) x c (Csinc (operand_in 9 (home_in w f x)) 31 31 flipped) l behind (omega (arith, h.few)) to small (λ r next. refl)
      (ap (λ (n : ℕ). goes_on l.machine (with_reg l.machine.regs (operand_in 9 (home_in w f x)) n)) (chosen (holds flipped l.machine.regs) t met ∙ result))

  nonzero : (k : Running) (is : List Item) → Ready is k → (f.locals z ≡ 0 → ⊥) → reg k.machine.regs (operand_in 10 (home_in w f z)) ≡ 0 → ⊥
  nonzero k is h some none = some (sym h.second ∙ none)

  by-quotient : (i : Inst) (g : ℕ → ℕ → ℕ) (c : ℕ) (k : Running) → Ready (divisor_tested (operand_in 10 (home_in w f z)) (one_inst i)) k → c < 2 ^ 64 → (f.locals z ≡ 0 → ⊥) → IsQuiet w.image i → g (f.locals y) (f.locals z) ≡ c
      → ((k : Machine) → act i k ≡ goes_on k (with_reg k.regs (operand_in 9 (home_in w f x)) (g (reg k.regs (operand_in 9 (home_in w f y))) (reg k.regs (operand_in 10 (home_in w f z))))))
      → StepsTo w 6 (with_result f x c) callers globals [] m
  by-quotient i g c k h small some quiet result does =
      let l : Running = jumped k k.machine.regs (k.machine.regs.pc + 4 + 4) in
      let behind = skips w ok f callers globals m r h.steps (operand_in 10 (home_in w f z)) (item.Inst i ∷ operand_store 9 (home_in w f x)) k h.reached (nonzero k _ h some) in
      ends-with w ok f callers globals m r (h.steps + 1) x c i l behind (omega (arith, h.few)) to small quiet
      (does l.machine ∙ ap (λ (v : ℕ). goes_on l.machine (with_reg l.machine.regs (operand_in 9 (home_in w f x)) v)) (quotient-of g _ _ (f.locals y) (f.locals z) c h.first h.second result))

  by-remainder : (i : Inst) (g : ℕ → ℕ → ℕ) (c : ℕ) (k : Running)
      → Ready (divisor_tested (operand_in 10 (home_in w f z)) (item.Inst i ∷ one_inst (Msub (operand_in 9 (home_in w f x)) 11 (operand_in 10 (home_in w f z)) (operand_in 9 (home_in w f y))))) k → c < 2 ^ 64 → (f.locals z ≡ 0 → ⊥) → IsQuiet w.image i
      → difference (f.locals y) (wrap (g (f.locals y) (f.locals z) * f.locals z)) ≡ c
      → ((k : Machine) → act i k ≡ goes_on k (with_reg k.regs 11 (g (reg k.regs (operand_in 9 (home_in w f y))) (reg k.regs (operand_in 10 (home_in w f z))))))
      → StepsTo w 6 (with_result f x c) callers globals [] m
  by-remainder i g c k h small some quiet result does =
      let last : Inst = Msub (operand_in 9 (home_in w f x)) 11 (operand_in 10 (home_in w f z)) (operand_in 9 (home_in w f y)) in
      let q : ℕ = g (f.locals y) (f.locals z) in
      let l : Running = jumped k k.machine.regs (k.machine.regs.pc + 4 + 4) in
      let n : Running = next_moment l (with_x l.machine 11 q) in
      let tested = skips w ok f callers globals m r h.steps (operand_in 10 (home_in w f z)) (item.Inst i ∷ item.Inst last ∷ operand_store 9 (home_in w f x)) k h.reached (nonzero k _ h some) in
      let divided_there = gives w ok f callers globals m r (h.steps + 1) 11 q i (item.Inst last ∷ operand_store 9 (home_in w f x)) l tested (omega arith) quiet
      (does l.machine ∙ ap (λ (v : ℕ). goes_on l.machine (with_reg l.machine.regs 11 v)) (quotient-of g _ _ (f.locals y) (f.locals z) q h.first h.second refl)) in
      let first : reg n.machine.regs (operand_in 9 (home_in w f y)) ≡ f.locals y = kept k.machine.regs.x (operand_in 9 (home_in w f y)) q (not-at 11 (w.is_leaf f.func) 9 y (omega arith) (omega arith)) ∙ h.first in
      let second : reg n.machine.regs (operand_in 10 (home_in w f z)) ≡ f.locals z = kept k.machine.regs.x (operand_in 10 (home_in w f z)) q (not-at 11 (w.is_leaf f.func) 10 z (omega arith) (omega arith)) ∙ h.second in
      let third : reg n.machine.regs 11 ≡ q = set-same k.machine.regs.x 11 q (omega arith) in
      ends-with w ok f callers globals m r (h.steps + 1 + 1) x c last n divided_there (omega (arith, h.few)) to small (λ r next. refl)
      (ap (λ (v : ℕ). goes_on n.machine (with_reg n.machine.regs (operand_in 9 (home_in w f x)) (difference v (wrap (reg n.machine.regs 11 * reg n.machine.regs (operand_in 10 (home_in w f z))))))) first
      ∙ ap (λ (v : ℕ). goes_on n.machine (with_reg n.machine.regs (operand_in 9 (home_in w f x)) (difference (f.locals y) (wrap (v * reg n.machine.regs (operand_in 10 (home_in w f z))))))) third
      ∙ ap (λ (v : ℕ). goes_on n.machine (with_reg n.machine.regs (operand_in 9 (home_in w f x)) (difference (f.locals y) (wrap (q * v))))) second
      ∙ ap (λ (v : ℕ). goes_on n.machine (with_reg n.machine.regs (operand_in 9 (home_in w f x)) v)) result) where
        kept : (x : ℕ → ℕ) (j q : ℕ) → (j ≡ 11 → ⊥) → cond (ltb j 31) (set x 11 q j) 0 ≡ cond (ltb j 31) (x j) 0
        kept x j q apart = ap (λ (v : ℕ). cond (ltb j 31) v 0) (set-other x 11 q j apart)

  by-zero : (is : List Item) (k : Running) → Ready (divisor_tested (operand_in 10 (home_in w f z)) is) k → f.locals z ≡ 0 → EndsWithin w 4 (ends.Trap DivZero) m
  by-zero is k h none = traps w ok f callers globals m r h.steps (operand_in 10 (home_in w f z)) (is ++ operand_store 9 (home_in w f x)) k h.reached h.few (h.second ∙ none)

  -- ---- one row for each

  row : (op : BinOp) (c : ℕ) (k : Running) → f.locals y < 2 ^ 64 → f.locals z < 2 ^ 64 → c < 2 ^ 64 → Ready (operation_code op (operand_in 9 (home_in w f x)) (operand_in 9 (home_in w f y)) (operand_in 10 (home_in w f z))) k
      → result_of op (f.locals y) (f.locals z) ≡ Some c → StepsTo w 6 (with_result f x c) callers globals [] m
  row Add c k h l small at e = by-plain _ (λ u v. wrap (u + shifted_left v 0)) c k at small (λ r n. refl) (added (f.locals y) (f.locals z) ∙ got _ c e) (λ k. refl)
  row Sub c k h l small at e = by-plain _ difference c k at small (λ r n. refl) (got _ c e) (λ k. refl)
  row Mul c k h l small at e = by-plain _ (λ u v. wrap (0 + u * v)) c k at small (λ r n. refl) (multiplied (f.locals y) (f.locals z) ∙ got _ c e) (λ k. refl)
  row And c k h l small at e = by-plain _ bit_and c k at small (λ r n. refl) (got _ c e) (λ k. refl)
  row Or c k h l small at e = by-plain _ bit_or c k at small (λ r n. refl) (got _ c e) (λ k. refl)
  row Xor c k h l small at e = by-plain _ bit_xor c k at small (λ r n. refl) (got _ c e) (λ k. refl)
  row Shl c k h l small at e = by-plain _ (λ u v. shifted_left u (v % 64)) c k at small (λ r n. refl) (got _ c e) (λ k. refl)
  row Shr c k h l small at e = by-plain _ (λ u v. shifted_right u (v % 64)) c k at small (λ r n. refl) (got _ c e) (λ k. refl)
  row Sar c k h l small at e = by-plain _ (λ u v. shifted_right_signed u (v % 64)) c k at small (λ r n. refl) (got _ c e) (λ k. refl)
  row Eq c k h l small at e = by-compare 1 _ c k at small (λ regs. ap not (z-is (f.locals y) (f.locals z) h l)) (got _ c e)
  row Ne c k h l small at e = by-compare 0 _ c k at small (λ regs. z-is (f.locals y) (f.locals z) h l ∙ twice (eqb (f.locals y) (f.locals z))) (got _ c e)
  row Lt c k h l small at e = by-compare 10 _ c k at small (λ regs. n-is-v (f.locals y) (f.locals z) h l) (got _ c e)
  row Le c k h l small at e = by-compare 12 _ c k at small (λ regs. z-n-v (f.locals y) (f.locals z) h l) (got _ c e)
  row Ltu c k h l small at e = by-compare 2 _ c k at small (λ regs. not-below (f.locals y) (f.locals z)) (got _ c e)
  row Leu c k h l small at e = by-compare 8 _ c k at small (λ regs. c-z (f.locals y) (f.locals z) h l) (got _ c e)
  row Div c k h l small at e =
      let d = divides (f.locals z) (signed_quotient (f.locals y) (f.locals z)) c e in
      by-quotient _ signed_quotient c k at small d.some (λ r n. refl) d.is (λ k. refl)
  row Rem c k h l small at e =
      let d = divides (f.locals z) (signed_remainder (f.locals y) (f.locals z)) c e in
      by-remainder _ signed_quotient c k at small d.some (λ r n. refl) ((remainders_are_left (f.locals y) (f.locals z) h l).1 ∙ d.is) (λ k. refl)
  row Divu c k h l small at e =
      let d = divides (f.locals z) (unsigned_quotient (f.locals y) (f.locals z)) c e in
      by-quotient _ unsigned_quotient c k at small d.some (λ r n. refl) d.is (λ k. refl)
  row Remu c k h l small at e =
      let d = divides (f.locals z) (unsigned_remainder (f.locals y) (f.locals z)) c e in
      by-remainder _ unsigned_quotient c k at small d.some (λ r n. refl) ((remainders_are_left (f.locals y) (f.locals z) h l).0 ∙ d.is) (λ k. refl)

  -- only a quotient or a remainder traps
  zero-row : (op : BinOp) (k : Running) → Ready (operation_code op (operand_in 9 (home_in w f x)) (operand_in 9 (home_in w f y)) (operand_in 10 (home_in w f z))) k → result_of op (f.locals y) (f.locals z) ≡ None → EndsWithin w 4 (ends.Trap DivZero) m
  zero-row Div k at e = by-zero _ k at (undivided (f.locals z) _ e)
  zero-row Rem k at e = by-zero _ k at (undivided (f.locals z) _ e)
  zero-row Divu k at e = by-zero _ k at (undivided (f.locals z) _ e)
  zero-row Remu k at e = by-zero _ k at (undivided (f.locals z) _ e)
  zero-row Add k at e = absurd (cc)
  zero-row Sub k at e = absurd (cc)
  zero-row Mul k at e = absurd (cc)
  zero-row And k at e = absurd (cc)
  zero-row Or k at e = absurd (cc)
  zero-row Xor k at e = absurd (cc)
  zero-row Shl k at e = absurd (cc)
  zero-row Shr k at e = absurd (cc)
  zero-row Sar k at e = absurd (cc)
  zero-row Eq k at e = absurd (cc)
  zero-row Ne k at e = absurd (cc)
  zero-row Lt k at e = absurd (cc)
  zero-row Le k at e = absurd (cc)
  zero-row Ltu k at e = absurd (cc)
  zero-row Leu k at e = absurd (cc)

pub binaries-lead : BinariesLead
binaries-lead w ok f callers globals op x y z value m r this is =
    let h : f.locals y < 2 ^ 64 = number-small w ok f callers globals m r y this.left in
    let l : f.locals z < 2 ^ 64 = number-small w ok f callers globals m r z this.right in
    let there = ready w ok f callers globals x y z m r this.to this.left this.right op this.line in
    row w ok f callers globals x y z m r this.to this.left this.right op value there.0 h l (result_small op (f.locals y) (f.locals z) value h l is) there.1 is

pub divisions-trap : DivisionsTrap
divisions-trap w ok f callers globals op x y z m r this is =
    let there = ready w ok f callers globals x y z m r this.to this.left this.right op this.line in
    zero-row w ok f callers globals x y z m r this.to this.left this.right op there.0 there.1 is
