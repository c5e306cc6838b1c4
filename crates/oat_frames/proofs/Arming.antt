-- The depth test, the count and the arguments of a call; and the trap where it is too deep.
use Rattle.std.proofs.Common.{◌≡◌, ◌+◌, ◌*◌, ◌<◌, ◌≤◌, inr, ℕ, suc, not, List, [], ◌∷◌, ◌++◌, length, get_or, Some, None, refl, ap, subst, ◌∙◌, arith}
use Rattle.std.proofs.lemmas.Bool.{lt-leb, le-leb}
use Rattle.oat_asm.specs.{AddImm, SubsImm, Brk, goes_on, with_reg, declared.item.Item.Item, Depth, row_over}
use Rattle.oat_follow.specs.{Running, Reaching.RunsTo, Reaching.inst_makes}
use Rattle.oat_frames.specs.{Code.CodeStands, Code.argument_loads, Code.depth_tested, Frames.World, Frames.IsLow, Comes.EndsWithin, Phases.HasSlots, Phases.ArgumentsLoaded, Phases.CallCounted}
use Rattle.oat_frames.specs.{Moments.next_moment, Moments.jumped}
use Rattle.oat_frames.proofs.{Reaching.thence, Reaching.counted, Reaching.kept-on, Runs.loaded, Registers.with_x, Registers.compared, Registers.wrap-is, Steps.compares, Steps.sets}
use Rattle.oat_frames.proofs.{Transfers.bcond-skips, Transfers.bcond-passes, MonitorCalls.brk-depth}
use Rattle.oat_follow.specs.rows as rows
use Rattle.oat_follow.specs.ends as ends

-- the loads, and what is behind them
pub behind-loads : (w : World) (ks : List ℕ) (r p : ℕ) (is : List Item) → CodeStands w p (argument_loads r ks ++ is) → CodeStands w p (argument_loads r ks) × CodeStands w (p + 4 * length ks) is
behind-loads w [] r p is h = let e : p ≡ p + 4 * 0 = omega arith in (tt, subst (λ (q : ℕ). CodeStands w q is) e h)
behind-loads w (k ∷ ks) r p is h =
    let rest = behind-loads w ks (r + 1) (p + 4) is h.1 in
    let e : p + 4 + 4 * length ks ≡ p + 4 * suc (length ks) = omega arith in
    ((h.0, rest.0), subst (λ (q : ℕ). CodeStands w q is) e rest.1)

module _ (w : World) (low : IsLow w.image) where
  pub armed : (args : List ℕ) (is : List Item) (n : ℕ) (m : Running) → m.end ≡ None → CodeStands w m.machine.regs.pc (depth_tested args is) → m.machine.regs.x 28 < 256
      → length args ≤ 4 → HasSlots m.machine.regs.sp n → ((i : ℕ) → i < length args → get_or args i 0 + 1 < n) → (k : Running) × CallCounted w.image args m k
  armed args is n m going at few four open_ within =
      let count : ℕ = m.machine.regs.x 28 in
      let m1 : Running = next_moment m (compared m.machine count 256) in
      let m2 : Running = jumped m1 m1.machine.regs (m1.machine.regs.pc + 4 + 4) in
      let m3 : Running = next_moment m2 (with_x m2.machine 28 (count + 1)) in
      let one : RunsTo w.image 1 m m1 [] = compares w.image low m (SubsImm 31 28 256) count 256 going at.0 (λ r next. refl) refl in
      let row : row_over w.image.map.rows m1.machine.regs.pc ≡ Some (rows.Check m1.machine.regs.pc) = at.1.0 m1.machine.regs.pc (omega arith) (omega arith) in
      let two : RunsTo w.image 1 m1 m2 [] = bcond-skips w.image low m1 3 m1.machine.regs.pc going at.1.1.0 row (ap not (lt-leb 256 count few)) in
      let three : RunsTo w.image 1 m2 m3 [] = sets w.image low m2 (AddImm 28 28 1) 28 (count + 1) going at.1.1.1.1.0 (λ r next. refl)
      (ap (λ (v : ℕ). goes_on m2.machine (with_reg m2.machine.regs 28 v)) (wrap-is (count + 1) (omega arith))) in
      let parts = behind-loads w args 0 m3.machine.regs.pc is at.1.1.1.1.1 in
      let rest = loaded w low args n 0 m3 going parts.0 (omega arith) open_ within in
      let k : Running = rest.0 in
      let l : ArgumentsLoaded w.image 0 args m3 k = rest.1 in (
        k,
        record {
          runs = counted w.image (1 + (1 + (1 + length args))) (3 + length args) m k [] (omega arith)
              (thence w.image 1 (1 + (1 + length args)) m m1 k [] [] one
              (thence w.image 1 (1 + length args) m1 m2 k [] [] two
              (thence w.image 1 (length args) m2 m3 k [] [] three l.runs)));
          kept = kept-on m m3 k (record { going = going; inputs = refl; outputs = refl }) l.kept;
          memory = l.memory;
          sp = l.sp;
          pc = l.pc ∙ plus m.machine.regs.pc (length args);
          depth = l.others 28 (inr (omega arith));
          nine = l.others 9 (inr (omega arith));
          values = λ i h. ap k.machine.regs.x (zero-plus i) ∙ l.values i h;
        },
      ) where
        plus : (p n : ℕ) → p + 4 + 4 + 4 + 4 + 4 * n ≡ p + 16 + 4 * n
        plus p n = omega arith

        zero-plus : (i : ℕ) → i ≡ 0 + i
        zero-plus i = omega arith

  -- with 256 callers the call traps, and shows nothing
  pub too-deep : (args : List ℕ) (is : List Item) (m : Running) → m.end ≡ None → CodeStands w m.machine.regs.pc (depth_tested args is) → m.machine.regs.x 28 ≡ 256
      → EndsWithin w 3 (ends.Trap Depth) m
  too-deep args is m going at full =
      let count : ℕ = m.machine.regs.x 28 in
      let m1 : Running = next_moment m (compared m.machine count 256) in
      let m2 : Running = next_moment m1 m1.machine in
      let k : Running = inst_makes m2 (Brk 4) in
      let one : RunsTo w.image 1 m m1 [] = compares w.image low m (SubsImm 31 28 256) count 256 going at.0 (λ r next. refl) refl in
      let row : row_over w.image.map.rows m1.machine.regs.pc ≡ Some (rows.Check m1.machine.regs.pc) = at.1.0 m1.machine.regs.pc (omega arith) (omega arith) in
      let two : RunsTo w.image 1 m1 m2 [] = bcond-passes w.image low m1 3 m1.machine.regs.pc going at.1.1.0 row (ap not (le-leb 256 count (omega arith))) in
      record {
        to = k;
        count = 3;
        some = omega arith;
        few = omega arith;
        runs = thence w.image 1 2 m m1 k [] [] one (thence w.image 1 1 m1 m2 k [] [] two (brk-depth w.image low m2 going at.1.1.1.0));
        end = refl;
        outputs = refl;
      }
