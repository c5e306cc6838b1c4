-- Calls of the monitor, and traps: each from where it stands to the explicit next moment.
use Rattle.std.proofs.Common.{◌≡◌, ◌+◌, ◌^◌, ◌<◌, ℕ, ℤ, List, [], ◌∷◌, ◌++◌, Some, None, refl, ap, ◌∙◌, arith}
use Rattle.oat_asm.specs.{Svc, Brk, Machine, with_reg, wrap, Image, Depth, NullCall, Stands, signed, unsigned, DivZero, InputEnd}
use Rattle.oat_follow.specs.{Running, Events.prints, Reaching.RunsTo, Reaching.inst_makes, with_input, with_output}
use Rattle.oat_frames.specs.{Frames.IsLow, Moments.next_moment}
use Rattle.oat_frames.proofs.{Reaching.goes-as, Reaching.stops, Registers.wrap-is, Registers.next-is, Steps.below, Steps.quietly}
use Rattle.oat_follow.specs.ends as ends

-- ---- the moments that are left

-- the next input stands in X0
abbrev pub input_next : Running → ℤ → List ℤ → Running
input_next m value rest =
    record m { machine = record m.machine { regs = record (with_reg m.machine.regs 0 (unsigned value)) { pc = m.machine.regs.pc + 4 } }; made = m.made + 1; inputs = rest }

-- what X0 has was put
abbrev pub outputs_next : Running → Running
outputs_next m = record (next_moment m m.machine) { outputs = m.outputs ++ signed (m.machine.regs.x 0) ∷ [] }

abbrev with_pc : Machine → ℕ → Machine
with_pc k address = record k { regs = record k.regs { pc = address } }

module _ (image : Image) (low : IsLow image) where
  pc-next : (m : Running) → m.machine.regs.pc < 2 ^ 32 → wrap (m.machine.regs.pc + 4) ≡ m.machine.regs.pc + 4
  pc-next m l = wrap-is (m.machine.regs.pc + 4) (omega arith)

  -- the call of the monitor in the group of an indirect call, and in that of a return
  pub svc-target : (m : Running) → m.end ≡ None → Stands image.code m.machine.regs.pc (Svc 4) → RunsTo image 1 m (next_moment m m.machine) []
  svc-target m going at =
      let l = below image low m (Svc 4) at in
      quietly image low m (next_moment m m.machine) (Svc 4) going at (next-is m m.machine (omega arith)) going refl

  pub svc-return : (m : Running) → m.end ≡ None → Stands image.code m.machine.regs.pc (Svc 5) → RunsTo image 1 m (next_moment m m.machine) []
  svc-return m going at =
      let l = below image low m (Svc 5) at in
      quietly image low m (next_moment m m.machine) (Svc 5) going at (next-is m m.machine (omega arith)) going refl

  pub svc-bit : (m : Running) → m.end ≡ None → Stands image.code m.machine.regs.pc (Svc 3) → RunsTo image 1 m (next_moment m m.machine) []
  svc-bit m going at =
      let l = low m.machine.regs.pc (Svc 3) at in
      let r = goes-as image m (next_moment m m.machine) (Svc 3) going at (ap (λ (a : ℕ). record m { machine = with_pc m.machine a; made = m.made + 1 }) (pc-next m l)) going in
      record { run = r.run; told = r.told }

  pub svc-in : (m : Running) (value : ℤ) (rest : List ℤ) → m.end ≡ None → Stands image.code m.machine.regs.pc (Svc 8) → m.inputs ≡ value ∷ rest → RunsTo image 1 m (input_next m value rest) []
  svc-in m value rest going at is =
      let l = low m.machine.regs.pc (Svc 8) at in
      let r = goes-as image m (input_next m value rest) (Svc 8) going at
      (ap (λ (xs : List ℤ). with_input m (with_pc m.machine (wrap (m.machine.regs.pc + 4))) xs) is
      ∙ ap (λ (a : ℕ). with_input m (with_pc m.machine a) (value ∷ rest)) (pc-next m l)) going in
      record { run = r.run; told = r.told }

  pub svc-out : (m : Running) → m.end ≡ None → Stands image.code m.machine.regs.pc (Svc 9) → RunsTo image 1 m (outputs_next m) (prints (signed (m.machine.regs.x 0)) ∷ [])
  svc-out m going at =
      let l = low m.machine.regs.pc (Svc 9) at in
      let r = goes-as image m (outputs_next m) (Svc 9) going at (ap (λ (a : ℕ). with_output m (with_pc m.machine a)) (pc-next m l)) going in
      record { run = r.run; told = r.told }

  -- ---- ends

  pub svc-halt : (m : Running) → m.end ≡ None → Stands image.code m.machine.regs.pc (Svc 0) → RunsTo image 1 m (inst_makes m (Svc 0)) []
  svc-halt m going at = stops image m (Svc 0) ends.Halted going at refl

  input-end : (m : Running) → m.inputs ≡ [] → (inst_makes m (Svc 8)).end ≡ Some (ends.Trap InputEnd)
  input-end m is = ap (λ (xs : List ℤ). (with_input m (with_pc m.machine (wrap (m.machine.regs.pc + 4))) xs).end) is

  input-outputs : (m : Running) → m.inputs ≡ [] → (inst_makes m (Svc 8)).outputs ≡ m.outputs
  input-outputs m is = ap (λ (xs : List ℤ). (with_input m (with_pc m.machine (wrap (m.machine.regs.pc + 4))) xs).outputs) is

  pub svc-in-end : (m : Running) → m.end ≡ None → Stands image.code m.machine.regs.pc (Svc 8) → m.inputs ≡ []
      → RunsTo image 1 m (inst_makes m (Svc 8)) [] × ((inst_makes m (Svc 8)).end ≡ Some (ends.Trap InputEnd)) × ((inst_makes m (Svc 8)).outputs ≡ m.outputs)
  svc-in-end m going at is = (stops image m (Svc 8) (ends.Trap InputEnd) going at (input-end m is), input-end m is, input-outputs m is)

  pub brk-zero : (m : Running) → m.end ≡ None → Stands image.code m.machine.regs.pc (Brk 1) → RunsTo image 1 m (inst_makes m (Brk 1)) []
  brk-zero m going at = stops image m (Brk 1) (ends.Trap DivZero) going at refl

  pub brk-null : (m : Running) → m.end ≡ None → Stands image.code m.machine.regs.pc (Brk 3) → RunsTo image 1 m (inst_makes m (Brk 3)) []
  brk-null m going at = stops image m (Brk 3) (ends.Trap NullCall) going at refl

  pub brk-depth : (m : Running) → m.end ≡ None → Stands image.code m.machine.regs.pc (Brk 4) → RunsTo image 1 m (inst_makes m (Brk 4)) []
  brk-depth m going at = stops image m (Brk 4) (ends.Trap Depth) going at refl
