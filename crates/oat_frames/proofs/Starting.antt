-- The start of a run leads to the start of main.
use Rattle.std.proofs.Common.{◌≡◌, ◌+◌, ◌*◌, ◌≤◌, ◌-◌, inl, inr, ℕ, Bool, true, false, cond, ltb, refl, sym, ap, ◌∙◌, arith}
use Rattle.oat_follow.specs.{Running, started, start_memory}
use Rattle.oat_frames.specs.{Frames.frame_size, Returns.StartLeads, Phases.FrameLaid}
use Rattle.oat_frames.proofs.{Holding.globals-stay, Holding.word-is, Holding.zero-value, Opening.HasRoom, Opening.has-room, Opening.opened}

pub start-leads : StartLeads
start-leads w ok main inputs globals label code first words =
    let m : Running = started w.image inputs in
    let size : ℕ = frame_size (w.locals main) in
    let room : HasRoom 0x8000_0000 size (w.locals main) = has-room 0x8000_0000 0 (w.locals main) (record { aligned = omega arith; below = omega arith; near = omega arith }) (omega arith) (ok.few main) in
    let o = opened w ok.low (w.is_leaf main) 0 (w.locals main) m refl code (omega arith) room (omega arith) (λ j h. absurd (omega arith)) in
    let k : Running = o.0 in
    let o1 : FrameLaid w.image (w.is_leaf main) 0 (w.locals main) size m k = o.1 in
    record {
      to = k;
      count = 2 + w.locals main;
      some = omega arith;
      few = let l : w.locals main ≤ 255 = ok.few main in omega arith;
      runs = o1.runs;
      inputs = o1.kept.inputs;
      outputs = o1.kept.outputs;
      is_at = record {
        going = o1.kept.going;
        pc = o1.pc ∙ ap (λ (p : ℕ). p + 8 + 4 * w.locals main) (sym label) ∙ sym first;
        holds = record {
          depth = o1.registers 28 (inr (omega arith));
          few = omega arith;
          frame = λ i l. word-is w (w.ty main i) 0 _ _ (o1.homes i l ∙ neither (ltb i 0) 0) (zero-value w (w.ty main i));
          back = tt;
          above = o1.sp;
          words = globals-stay w ok (start_memory w.image.words) k.machine.memory k.machine.regs.sp globals (lowest size k.machine.regs.sp room.open_.low room.fits o1.sp) (λ b l. o1.others b (inl l)) words;
        };
      };
    } where
      neither : (t : Bool) (u : ℕ) → cond t u u ≡ u
      neither true u = refl
      neither false u = refl

      lowest : (size s : ℕ) → 0x7FF0_0000 ≤ 0x8000_0000 - size → size ≤ 0x8000_0000 → s + size ≡ 0x8000_0000 → 0x7FF0_0000 ≤ s
      lowest size s low fits top = omega arith
