-- Transfers: tests that skip a trap, calls, returns and branches, each from where it stands to the explicit next moment.
use Rattle.std.proofs.Common.{◌≡◌, ◌+◌, ◌^◌, ◌<◌, ℕ, ℤ, pos, Bool, true, false, cond, not, eqb, [], ◌∷◌, Option, Some, None, ap, ◌∙◌, arith}
use Rattle.std.specs.{List.cons_option, List.list_any, Option.option_map}
use Rattle.oat_asm.specs.{BCond, Cbnz, Bl, Blr, Ret, jumps, jumps_if, links, branch_target, holds, reg, with_reg, Image, Row, Stands, row_over, is_returned_to, is_called_at, Edge, B}
use Rattle.oat_follow.specs.{Running, makes, edge_over, Events.moves, Reaching.RunsTo}
use Rattle.oat_frames.specs.{Frames.IsLow, Moments.next_moment, Moments.jumped}
use Rattle.oat_frames.proofs.{Reaching.goes-as, Registers.wrap-is, Registers.next-is, Steps.below, Steps.quietly}
use Rattle.oat_follow.specs.rows as rows
use Rattle.oat_asm.specs.edges as edges

module _ (image : Image) (low : IsLow image) where
  -- ---- a test over a BRK

  check-quiet : (m : Running) (at next : ℕ) → row_over image.map.rows m.machine.regs.pc ≡ Some (rows.Check at)
      → option_map moves (edge_over image.map (row_over image.map.rows m.machine.regs.pc) m.machine.regs.pc next) ≡ None
  check-quiet m at next row = ap (λ (o : Option Row). option_map moves (edge_over image.map o m.machine.regs.pc next)) row

  pub skip-is : (m : Running) (t : Bool) → t ≡ true → m.machine.regs.pc < 2 ^ 32
      → makes m (jumps_if t m.machine (branch_target m.machine.regs.pc (pos 2))) ≡ jumped m m.machine.regs (m.machine.regs.pc + 4 + 4)
  skip-is m t so l =
      let e : branch_target m.machine.regs.pc (pos 2) ≡ m.machine.regs.pc + 4 + 4 = omega arith in
      ap (λ (b : Bool). makes m (jumps_if b m.machine (branch_target m.machine.regs.pc (pos 2)))) so ∙ ap (jumped m m.machine.regs) e

  pub pass-is : (m : Running) (t : Bool) → t ≡ false → m.machine.regs.pc < 2 ^ 32
      → makes m (jumps_if t m.machine (branch_target m.machine.regs.pc (pos 2))) ≡ next_moment m m.machine
  pass-is m t so l =
      ap (λ (b : Bool). makes m (jumps_if b m.machine (branch_target m.machine.regs.pc (pos 2)))) so ∙ next-is m m.machine (omega arith)

  pub bcond-skips : (m : Running) (c at : ℕ) → m.end ≡ None → Stands image.code m.machine.regs.pc (BCond c (pos 2)) → row_over image.map.rows m.machine.regs.pc ≡ Some (rows.Check at)
      → holds c m.machine.regs ≡ true → RunsTo image 1 m (jumped m m.machine.regs (m.machine.regs.pc + 4 + 4)) []
  bcond-skips m c p going at row so =
      quietly image low m (jumped m m.machine.regs (m.machine.regs.pc + 4 + 4)) (BCond c (pos 2)) going at
      (skip-is m (holds c m.machine.regs) so (below image low m (BCond c (pos 2)) at)) going (check-quiet m p _ row)

  pub bcond-passes : (m : Running) (c at : ℕ) → m.end ≡ None → Stands image.code m.machine.regs.pc (BCond c (pos 2)) → row_over image.map.rows m.machine.regs.pc ≡ Some (rows.Check at)
      → holds c m.machine.regs ≡ false → RunsTo image 1 m (next_moment m m.machine) []
  bcond-passes m c p going at row so =
      quietly image low m (next_moment m m.machine) (BCond c (pos 2)) going at
      (pass-is m (holds c m.machine.regs) so (below image low m (BCond c (pos 2)) at)) going (check-quiet m p _ row)

  pub cbnz-skips : (m : Running) (rt at : ℕ) → m.end ≡ None → Stands image.code m.machine.regs.pc (Cbnz rt (pos 2)) → row_over image.map.rows m.machine.regs.pc ≡ Some (rows.Check at)
      → not (eqb (reg m.machine.regs rt) 0) ≡ true → RunsTo image 1 m (jumped m m.machine.regs (m.machine.regs.pc + 4 + 4)) []
  cbnz-skips m rt p going at row so =
      quietly image low m (jumped m m.machine.regs (m.machine.regs.pc + 4 + 4)) (Cbnz rt (pos 2)) going at
      (skip-is m (not (eqb (reg m.machine.regs rt) 0)) so (below image low m (Cbnz rt (pos 2)) at)) going (check-quiet m p _ row)

  pub cbnz-passes : (m : Running) (rt at : ℕ) → m.end ≡ None → Stands image.code m.machine.regs.pc (Cbnz rt (pos 2)) → row_over image.map.rows m.machine.regs.pc ≡ Some (rows.Check at)
      → not (eqb (reg m.machine.regs rt) 0) ≡ false → RunsTo image 1 m (next_moment m m.machine) []
  cbnz-passes m rt p going at row so =
      quietly image low m (next_moment m m.machine) (Cbnz rt (pos 2)) going at
      (pass-is m (not (eqb (reg m.machine.regs rt) 0)) so (below image low m (Cbnz rt (pos 2)) at)) going (check-quiet m p _ row)

  -- ---- calls and returns

  pub edge-shown : (m : Running) (o : Option Row) (next : ℕ) → row_over image.map.rows m.machine.regs.pc ≡ o
      → cons_option (option_map moves (edge_over image.map (row_over image.map.rows m.machine.regs.pc) m.machine.regs.pc next)) [] ≡ cons_option (option_map moves (edge_over image.map o m.machine.regs.pc next)) []
  edge-shown m o next row = ap (λ (p : Option Row). cons_option (option_map moves (edge_over image.map p m.machine.regs.pc next)) []) row

  pub bl : (m : Running) (offset : ℤ) (at to : ℕ) → m.end ≡ None → Stands image.code m.machine.regs.pc (Bl offset) → branch_target m.machine.regs.pc offset ≡ to
      → row_over image.map.rows m.machine.regs.pc ≡ Some (rows.Call at to)
      → RunsTo image 1 m (jumped m (with_reg m.machine.regs 30 (m.machine.regs.pc + 4)) to) (moves (edges.Call at to) ∷ [])
  bl m offset at to going stands leads row =
      let l = below image low m (Bl offset) stands in
      let k : Running = jumped m (with_reg m.machine.regs 30 (m.machine.regs.pc + 4)) to in
      let r = goes-as image m k (Bl offset) going stands
      (ap (λ (a : ℕ). makes m (links m.machine a)) leads
      ∙ ap (λ (v : ℕ). makes m (jumps m.machine (with_reg m.machine.regs 30 v) to)) (wrap-is (m.machine.regs.pc + 4) (omega arith))) going in
      record { run = r.run; told = r.told ∙ edge-shown m (Some (rows.Call at to)) to row }

  pub blr : (m : Running) (rn at params to : ℕ) → m.end ≡ None → Stands image.code m.machine.regs.pc (Blr rn) → reg m.machine.regs rn ≡ to
      → row_over image.map.rows m.machine.regs.pc ≡ Some (rows.ICall at params) → list_any (is_called_at params to) image.map.functions ≡ true
      → RunsTo image 1 m (jumped m (with_reg m.machine.regs 30 (m.machine.regs.pc + 4)) to) (moves (edges.ICall at to) ∷ [])
  blr m rn at params to going stands leads row known =
      let l = below image low m (Blr rn) stands in
      let k : Running = jumped m (with_reg m.machine.regs 30 (m.machine.regs.pc + 4)) to in
      let r = goes-as image m k (Blr rn) going stands
      (ap (λ (a : ℕ). makes m (links m.machine a)) leads
      ∙ ap (λ (v : ℕ). makes m (jumps m.machine (with_reg m.machine.regs 30 v) to)) (wrap-is (m.machine.regs.pc + 4) (omega arith))) going in
      record {
        run = r.run;
        told = r.told ∙ edge-shown m (Some (rows.ICall at params)) to row
            ∙ ap (λ (t : Bool). cons_option (option_map moves (cond t (Some (edges.ICall at to)) (Some (edges.Stray m.machine.regs.pc to)))) []) known;
      }

  pub ret : (m : Running) (at to : ℕ) → m.end ≡ None → Stands image.code m.machine.regs.pc (Ret 30) → m.machine.regs.x 30 ≡ to
      → row_over image.map.rows m.machine.regs.pc ≡ Some (rows.Ret at) → list_any (is_returned_to to) image.map.rows ≡ true
      → RunsTo image 1 m (jumped m m.machine.regs to) (moves (edges.Ret at to) ∷ [])
  ret m at to going stands leads row site =
      let k : Running = jumped m m.machine.regs to in
      let r = goes-as image m k (Ret 30) going stands (ap (jumped m m.machine.regs) leads) going in
      record {
        run = r.run;
        told = r.told ∙ edge-shown m (Some (rows.Ret at)) to row
            ∙ ap (λ (t : Bool). cons_option (option_map moves (cond t (Some (edges.Ret at to)) (Some (edges.Stray m.machine.regs.pc to)))) []) site;
      }

  -- ---- branches to places

  pub edge-is : (e o : Option Edge) → e ≡ o → cons_option (option_map moves e) [] ≡ cons_option (option_map moves o) []
  edge-is e o is = ap (λ (x : Option Edge). cons_option (option_map moves x) []) is

  -- any B
  pub b : (m : Running) (offset : ℤ) (to : ℕ) (row : Row) (e : Edge) → m.end ≡ None → Stands image.code m.machine.regs.pc (B offset) → branch_target m.machine.regs.pc offset ≡ to
      → row_over image.map.rows m.machine.regs.pc ≡ Some row → edge_over image.map (Some row) m.machine.regs.pc to ≡ Some e
      → RunsTo image 1 m (jumped m m.machine.regs to) (moves e ∷ [])
  b m offset to row e going at leads over is =
      let r = goes-as image m (jumped m m.machine.regs to) (B offset) going at (ap (jumped m m.machine.regs) leads) going in
      record { run = r.run; told = r.told ∙ edge-shown m (Some row) to over ∙ edge-is _ (Some e) is }

  -- CBNZ of a register that isn't 0, and of one that is
  pub cbnz-leads : (m : Running) (rt : ℕ) (offset : ℤ) (to : ℕ) (row : Row) (e : Edge) → m.end ≡ None → Stands image.code m.machine.regs.pc (Cbnz rt offset) → branch_target m.machine.regs.pc offset ≡ to
      → row_over image.map.rows m.machine.regs.pc ≡ Some row → edge_over image.map (Some row) m.machine.regs.pc to ≡ Some e → not (eqb (reg m.machine.regs rt) 0) ≡ true
      → RunsTo image 1 m (jumped m m.machine.regs to) (moves e ∷ [])
  cbnz-leads m rt offset to row e going at leads over is so =
      let r = goes-as image m (jumped m m.machine.regs to) (Cbnz rt offset) going at
      (ap (λ (t : Bool). makes m (jumps_if t m.machine (branch_target m.machine.regs.pc offset))) so ∙ ap (jumped m m.machine.regs) leads) going in
      record { run = r.run; told = r.told ∙ edge-shown m (Some row) to over ∙ edge-is _ (Some e) is }

  pub cbnz-falls : (m : Running) (rt : ℕ) (offset : ℤ) (row : Row) → m.end ≡ None → Stands image.code m.machine.regs.pc (Cbnz rt offset)
      → row_over image.map.rows m.machine.regs.pc ≡ Some row → edge_over image.map (Some row) m.machine.regs.pc (m.machine.regs.pc + 4) ≡ None → not (eqb (reg m.machine.regs rt) 0) ≡ false
      → RunsTo image 1 m (next_moment m m.machine) []
  cbnz-falls m rt offset row going at over is so =
      let l = low m.machine.regs.pc (Cbnz rt offset) at in
      let r = goes-as image m (next_moment m m.machine) (Cbnz rt offset) going at
      (ap (λ (t : Bool). makes m (jumps_if t m.machine (branch_target m.machine.regs.pc offset))) so ∙ next-is m m.machine (omega arith)) going in
      record { run = r.run; told = r.told ∙ edge-shown m (Some row) (m.machine.regs.pc + 4) over ∙ edge-is _ None is }
