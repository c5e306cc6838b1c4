-- A run of loads, and a run of stores: each by induction.
use Rattle.std.proofs.Common.{◌≡◌, ◌+◌, ◌*◌, ◌^◌, ◌<◌, ◌≤◌, inl, inr, ℕ, zero, suc, Bool, true, false, cond, ltb, List, [], ◌∷◌, length, get_or, None, refl, sym, ap, subst, ◌∙◌, arith}
use Rattle.std.proofs.lemmas.Bool.{lt-ltb, ltb-true, cases_lt}
use Rattle.oat_asm.specs.{Regs, reg, word_in}
use Rattle.oat_follow.specs.{Running}
use Rattle.oat_frames.specs.{Code.CodeStands, Code.argument_loads, Code.local_stores, Frames.World, Frames.IsLow, Frames.home_of, Frames.home_word, Phases.HasSlots, Phases.ArgumentsLoaded}
use Rattle.oat_frames.specs.{Phases.LocalsStored, Phases.first_value, Moments.next_moment}
use Rattle.oat_frames.proofs.{Reaching.still, Reaching.thence, Reaching.counted, Reaching.kept-on, Slots.slot-opens, Slots.slot-small, Registers.with_x, Registers.set-same, Registers.set-other}
use Rattle.oat_frames.proofs.{Steps.ldr, Homes.home-cases, Homes.reg-low, Homes.HomeWritten, Homes.writes-home}

reg-filler : (r : Regs) (params i : ℕ) (t : Bool) → ltb i params ≡ t → params ≤ 31 → reg r (cond (ltb i params) i 31) ≡ first_value r.x params i
reg-filler r params i true is few =
    let l : i < params = ltb-true i params is in
    ap (λ (b : Bool). reg r (cond b i 31)) is ∙ reg-low r i (omega arith) ∙ sym (ap (λ (b : Bool). cond b (r.x i) 0) is)
reg-filler r params i false is few =
    ap (λ (b : Bool). reg r (cond b i 31)) is ∙ sym (ap (λ (b : Bool). cond b (r.x i) 0) is)

filler-small : (x : ℕ → ℕ) (params i : ℕ) → ((j : ℕ) → j < params → x j < 2 ^ 64) → (t : Bool) → ltb i params ≡ t → first_value x params i < 2 ^ 64
filler-small x params i small true is = subst (λ (b : Bool). cond b (x i) 0 < 2 ^ 64) (sym is) (small i (ltb-true i params is))
filler-small x params i small false is = subst (λ (b : Bool). cond b (x i) 0 < 2 ^ 64) (sym is) (omega arith)

-- where the parameters' registers stay, so do the values that locals begin with
first-same : (x y : ℕ → ℕ) (params i : ℕ) → ((j : ℕ) → j < params → y j ≡ x j) → first_value y params i ≡ first_value x params i
first-same x y params i same = by (ltb i params) refl where
  by : (t : Bool) → ltb i params ≡ t → first_value y params i ≡ first_value x params i
  by true is = ap (λ (t : Bool). cond t (y i) 0) is ∙ same i (ltb-true i params is) ∙ sym (ap (λ (t : Bool). cond t (x i) 0) is)
  by false is = ap (λ (t : Bool). cond t (y i) 0) is ∙ sym (ap (λ (t : Bool). cond t (x i) 0) is)

module _ (w : World) (low : IsLow w.image) where
  pub loaded : (ks : List ℕ) (n r : ℕ) (m : Running) → m.end ≡ None → CodeStands w m.machine.regs.pc (argument_loads r ks) → r + length ks ≤ 28 → HasSlots m.machine.regs.sp n
      → ((i : ℕ) → i < length ks → get_or ks i 0 + 1 < n) → (k : Running) × ArgumentsLoaded w.image r ks m k
  loaded [] n r m going at few open_ within = (
    m,
    record {
      runs = still w.image m;
      kept = record { going = going; inputs = refl; outputs = refl };
      memory = refl;
      sp = refl;
      pc = omega arith;
      values = λ i h. absurd (omega arith);
      others = λ j h. refl;
    },
  )
  loaded (c ∷ cs) n r m going at few open_ within =
      let here : c + 1 < n = within 0 (omega arith) in
      let v : ℕ = word_in m.machine.memory (m.machine.regs.sp + 8 * (c + 1)) in
      let m1 : Running = next_moment m (with_x m.machine r v) in
      let rest = loaded cs n (r + 1) m1 going at.1 (omega arith) open_ (λ i l. within (suc i) (omega arith)) in
      let k : Running = rest.0 in
      let l : ArgumentsLoaded w.image (r + 1) cs m1 k = rest.1 in
      let values : (i : ℕ) → i < suc (length cs) → k.machine.regs.x (r + i) ≡ word_in m.machine.memory (m.machine.regs.sp + 8 * (get_or (c ∷ cs) i 0 + 1)) = by c cs r m k l (omega arith) in (
        k,
        record {
          runs = counted w.image (1 + length cs) (suc (length cs)) m k [] (omega arith)
              (thence w.image 1 (length cs) m m1 k [] [] (ldr w.image low m r (c + 1) going at.0 (slot-small m.machine.regs.sp n (c + 1) open_ here) (slot-opens m.machine.regs.sp n (c + 1) open_ here)) l.runs);
          kept = kept-on m m1 k (record { going = going; inputs = refl; outputs = refl }) l.kept;
          memory = l.memory;
          sp = l.sp;
          pc = l.pc ∙ plus m.machine.regs.pc (length cs);
          values = values;
          others = λ j h. elim h [
            | inl a ↦ l.others j (inl (omega arith)) ∙ set-other m.machine.regs.x r v j (λ e. absurd (omega arith))
            | inr a ↦ l.others j (inr (omega arith)) ∙ set-other m.machine.regs.x r v j (λ e. absurd (omega arith))
          ];
        },
      ) where
        plus : (p n : ℕ) → p + 4 + 4 * n ≡ p + 4 * suc n
        plus p n = omega arith

        by : (c : ℕ) (cs : List ℕ) (r : ℕ) (m k : Running) → ArgumentsLoaded w.image (r + 1) cs (next_moment m (with_x m.machine r (word_in m.machine.memory (m.machine.regs.sp + 8 * (c + 1))))) k → r < 31
            → (i : ℕ) → i < suc (length cs) → k.machine.regs.x (r + i) ≡ word_in m.machine.memory (m.machine.regs.sp + 8 * (get_or (c ∷ cs) i 0 + 1))
        by c cs r m k l few zero h =
            let e : r + 0 ≡ r = omega arith in
            ap k.machine.regs.x e ∙ l.others r (inl (omega arith)) ∙ set-same m.machine.regs.x r (word_in m.machine.memory (m.machine.regs.sp + 8 * (c + 1))) few
        by c cs r m k l few (suc i) h =
            let e : r + suc i ≡ r + 1 + i = omega arith in
            ap k.machine.regs.x e ∙ l.values i (omega arith)

  pub filled : (leaf : Bool) (n params from room : ℕ) (m : Running) → m.end ≡ None → CodeStands w m.machine.regs.pc (local_stores leaf params from n) → params ≤ 19
      → HasSlots m.machine.regs.sp room → from + n < room → ((j : ℕ) → j < params → m.machine.regs.x j < 2 ^ 64) → (k : Running) × LocalsStored w.image leaf params from n m k
  filled leaf zero params from room m going at few open_ fit small = (
    m,
    record {
      runs = still w.image m;
      kept = record { going = going; inputs = refl; outputs = refl };
      sp = refl;
      pc = omega arith;
      homes = λ i a b. absurd (omega arith);
      registers = λ j h. refl;
      others = λ a h. refl;
    },
  )
  filled leaf (suc n) params from room m going at few open_ fit small =
      let sp : ℕ = m.machine.regs.sp in
      let v : ℕ = reg m.machine.regs (cond (ltb from params) from 31) in
      let is : v ≡ first_value m.machine.regs.x params from = reg-filler m.machine.regs params from (ltb from params) refl (omega arith) in
      let fine : v < 2 ^ 64 = subst (λ (u : ℕ). u < 2 ^ 64) (sym is) (filler-small m.machine.regs.x params from small (ltb from params) refl) in
      let first = writes-home w.image low leaf m (cond (ltb from params) from 31) from room going at.0 open_ (omega arith) fine in
      let m1 : Running = first.0 in
      let put : HomeWritten w.image leaf from v m m1 = first.1 in
      let same : (j : ℕ) → j < params → m1.machine.regs.x j ≡ m.machine.regs.x j = λ j l. put.registers j (λ e. absurd (omega arith)) in
      let rest = filled leaf n params (from + 1) room m1 put.kept.going (subst (λ (p : ℕ). CodeStands w p (local_stores leaf params (from + 1) n)) (sym put.pc) at.1) few
      (subst (λ (s : ℕ). HasSlots s room) (sym put.sp) open_) (omega arith) (λ j l. subst (λ (u : ℕ). u < 2 ^ 64) (sym (same j l)) (small j l)) in
      let k : Running = rest.0 in
      let f : LocalsStored w.image leaf params (from + 1) n m1 k = rest.1 in (
        k,
        record {
          runs = counted w.image (1 + n) (suc n) m k [] (omega arith) (thence w.image 1 n m m1 k [] [] put.runs f.runs);
          kept = kept-on m m1 k put.kept f.kept;
          sp = f.sp ∙ put.sp;
          pc = f.pc ∙ ap (λ (p : ℕ). p + 4 * n) put.pc ∙ plus m.machine.regs.pc n;
          homes = homes m m1 k put f is same;
          registers = λ j h. elim h [
            | inl a ↦ f.registers j (inl (omega arith)) ∙ put.registers j (λ e. absurd (omega arith))
            | inr a ↦ f.registers j (inr a) ∙ put.registers j (λ e. a)
          ];
          others = λ a h. elim h [
            | inl b ↦ f.others a (inl (subst (λ (s : ℕ). a + 8 ≤ s + 8 * (from + 1 + 1)) (sym put.sp) (omega arith))) ∙ put.others a (inr (omega arith))
            | inr b ↦ f.others a (inr (subst (λ (s : ℕ). s + 8 * (from + 1 + n + 1) ≤ a) (sym put.sp) (omega arith))) ∙ put.others a (inl (omega arith))
          ];
        },
      ) where
        plus : (p n : ℕ) → p + 4 + 4 * n ≡ p + 4 * suc n
        plus p n = omega arith

        -- a home that was written first stays
        kept-home : (m m1 k : Running) (v : ℕ) → HomeWritten w.image leaf from v m m1 → LocalsStored w.image leaf params (from + 1) n m1 k
            → home_word k.machine.regs.x k.machine.memory m.machine.regs.sp (home_of leaf from) ≡ home_word m1.machine.regs.x m1.machine.memory m.machine.regs.sp (home_of leaf from)
        kept-home m m1 k v put f = elim (home-cases leaf from) [
          | inl h ↦ ap (home_word k.machine.regs.x k.machine.memory m.machine.regs.sp) h
              ∙ f.others (m.machine.regs.sp + 8 * (from + 1)) (inl (subst (λ (s : ℕ). m.machine.regs.sp + 8 * (from + 1) + 8 ≤ s + 8 * (from + 1 + 1)) (sym put.sp) (omega arith)))
              ∙ sym (ap (home_word m1.machine.regs.x m1.machine.memory m.machine.regs.sp) h)
          | inr h ↦ ap (home_word k.machine.regs.x k.machine.memory m.machine.regs.sp) h.0 ∙ f.registers (19 + from) (inl (omega arith)) ∙ sym (ap (home_word m1.machine.regs.x m1.machine.memory m.machine.regs.sp) h.0)
        ]

        homes : (m m1 k : Running) → HomeWritten w.image leaf from (reg m.machine.regs (cond (ltb from params) from 31)) m m1 → LocalsStored w.image leaf params (from + 1) n m1 k
            → reg m.machine.regs (cond (ltb from params) from 31) ≡ first_value m.machine.regs.x params from → ((j : ℕ) → j < params → m1.machine.regs.x j ≡ m.machine.regs.x j)
            → (i : ℕ) → from ≤ i → i < from + suc n → home_word k.machine.regs.x k.machine.memory m.machine.regs.sp (home_of leaf i) ≡ first_value m.machine.regs.x params i
        homes m m1 k put f is same i a b = elim (cases_lt from i) [
          | inl more ↦ subst (λ (s : ℕ). home_word k.machine.regs.x k.machine.memory s (home_of leaf i) ≡ first_value m1.machine.regs.x params i) put.sp (f.homes i (omega arith) (omega arith))
              ∙ first-same m.machine.regs.x m1.machine.regs.x params i same
          | inr less ↦
              let e : from ≡ i = omega arith in
              subst (λ (j : ℕ). home_word k.machine.regs.x k.machine.memory m.machine.regs.sp (home_of leaf j) ≡ first_value m.machine.regs.x params j) e
              (kept-home m m1 k (reg m.machine.regs (cond (ltb from params) from 31)) put f ∙ put.here ∙ is)
        ]
