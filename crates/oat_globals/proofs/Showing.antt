-- Instructions beyond the kit of frames: monitor calls that show something, small numbers, and the test of an element's number.
use Rattle.std.proofs.Common.{◌≡◌, ◌+◌, ◌*◌, ◌^◌, ◌<◌, ◌≤◌, ℕ, pos, not, [], ◌∷◌, Option, Some, None, refl, ap, ◌∙◌, arith}
use Rattle.std.specs.{List.cons_option, Option.option_map}
use Rattle.std.proofs.lemmas.Bool.{lt-leb, le-leb}
use Rattle.oat_frames.specs.{SubsReg, BCond, Svc, Brk, Movz, goes_on, holds, shifted_left, with_reg, Image, Row, Index, row_over, MonitorCall, Stands, DeviceEnd, Running, makes, edge_over}
use Rattle.oat_frames.specs.{MachineEvent, moves, monitors, told_by, Frames.World, Frames.IsLow, Comes.EndsWithin, RunsTo, inst_makes, Moments.next_moment, Moments.jumped}
use Rattle.oat_frames.proofs.Kit.{goes-as, stops, thence, quietly, next-is, below, with_x, compared, compares, sets, skip-is, pass-is}
use Rattle.oat_frames.specs.ends as ends

-- A transfer at an address gives no edge, whatever follows: in the group of a row that only tests.
abbrev pub GivesNothing : Image → ℕ → Type 0
GivesNothing image p = (next : ℕ) → option_map moves (edge_over image.map (row_over image.map.rows p) p next) ≡ None

pub gives_nothing : (image : Image) (p : ℕ) (row : Row) → row_over image.map.rows p ≡ Some row → ((next : ℕ) → edge_over image.map (Some row) p next ≡ None) → GivesNothing image p
gives_nothing image p row over none next = ap (λ (o : Option Row). option_map moves (edge_over image.map o p next)) over ∙ ap (option_map moves) (none next)

-- the number in register 12 and the bound in register 11 are compared, and both are kept
abbrev pub bounded : Running → Running
bounded m = next_moment m (compared m.machine (m.machine.regs.x 12) (m.machine.regs.x 11))

abbrev pub admitted : Running → Running
admitted m = jumped (bounded m) (bounded m).machine.regs (m.machine.regs.pc + 4 + 4 + 4)

module _ (image : Image) (low : IsLow image) where
  -- a monitor call that only shows
  pub svc_shows : (m : Running) (number : ℕ) (c : MonitorCall) → m.end ≡ None → Stands image.code m.machine.regs.pc (Svc number) → inst_makes m (Svc number) ≡ makes m (goes_on m.machine m.machine.regs)
      → told_by image.map (Svc number) m.machine.regs (m.machine.regs.pc + 4) ≡ Some (monitors c) → RunsTo image 1 m (next_moment m m.machine) (monitors c ∷ [])
  svc_shows m number c going at made tells =
      let l = below image low m (Svc number) at in
      let r = goes-as image m (next_moment m m.machine) (Svc number) going at (made ∙ next-is m m.machine (omega arith)) going in
      record { run = r.run; told = r.told ∙ ap (λ (o : Option MachineEvent). cons_option o []) tells }

  -- a small number into a register
  pub movz : (m : Running) (rd value : ℕ) → m.end ≡ None → value < 2 ^ 16 → Stands image.code m.machine.regs.pc (Movz rd 0 value) → RunsTo image 1 m (next_moment m (with_x m.machine rd value)) []
  movz m rd value going small at =
      let low_is : shifted_left value (16 * 0) ≡ value = omega arith in
      sets image low m (Movz rd 0 value) rd value going at (λ r next. refl) (ap (λ (v : ℕ). goes_on m.machine (with_reg m.machine.regs rd v)) low_is)

  bounds : (m : Running) → m.end ≡ None → Stands image.code m.machine.regs.pc (SubsReg 31 12 11) → RunsTo image 1 m (bounded m) []
  bounds m going at = compares image low m (SubsReg 31 12 11) (m.machine.regs.x 12) (m.machine.regs.x 11) going at (λ r next. refl) refl

  -- the number is lower, and the trap is skipped
  pub admits : (m : Running) → m.end ≡ None → Stands image.code m.machine.regs.pc (SubsReg 31 12 11) → Stands image.code (m.machine.regs.pc + 4) (BCond 3 (pos 2)) → GivesNothing image (m.machine.regs.pc + 4)
      → m.machine.regs.x 12 < m.machine.regs.x 11 → RunsTo image 2 m (admitted m) []
  admits m going at next quiet less =
      let k : Running = bounded m in
      let two : RunsTo image 1 k (admitted m) [] = quietly image low k (admitted m) (BCond 3 (pos 2)) going next
      (skip-is image low k (holds 3 k.machine.regs) (ap not (lt-leb (m.machine.regs.x 11) (m.machine.regs.x 12) less)) (below image low k (BCond 3 (pos 2)) next)) going (quiet _) in
      thence image 1 1 m k (admitted m) [] [] (bounds m going at) two

module _ (w : World) (low : IsLow w.image) where
  -- it isn't lower, and the run ends
  pub refuses : (m : Running) → m.end ≡ None → Stands w.image.code m.machine.regs.pc (SubsReg 31 12 11) → Stands w.image.code (m.machine.regs.pc + 4) (BCond 3 (pos 2)) → GivesNothing w.image (m.machine.regs.pc + 4)
      → Stands w.image.code (m.machine.regs.pc + 4 + 4) (Brk 2) → m.machine.regs.x 11 ≤ m.machine.regs.x 12 → EndsWithin w 3 (ends.Trap Index) m
  refuses m going at next quiet last more =
      let k : Running = bounded m in
      let l : Running = next_moment k k.machine in
      let two : RunsTo w.image 1 k l [] = quietly w.image low k l (BCond 3 (pos 2)) going next
      (pass-is w.image low k (holds 3 k.machine.regs) (ap not (le-leb (m.machine.regs.x 11) (m.machine.regs.x 12) more)) (below w.image low k (BCond 3 (pos 2)) next)) going (quiet _) in
      let three : RunsTo w.image 1 l (inst_makes l (Brk 2)) [] = stops w.image l (Brk 2) (ends.Trap Index) going last refl in
      record {
        to = inst_makes l (Brk 2);
        count = 3;
        some = omega arith;
        few = omega arith;
        runs = thence w.image 1 2 m k (inst_makes l (Brk 2)) [] [] (bounds w.image low m going at) (thence w.image 1 1 k l (inst_makes l (Brk 2)) [] [] two three);
        end = refl;
        outputs = refl;
      }

  -- so does a run that comes there
  pub ends_behind : (count most : ℕ) (why : DeviceEnd) (m k : Running) → RunsTo w.image count m k [] → k.outputs ≡ m.outputs → EndsWithin w most why k → EndsWithin w (count + most) why m
  ends_behind count most why m k front outputs e = record {
    to = e.to;
    count = count + e.count;
    some = omega (arith, e.some);
    few = omega (arith, e.few);
    runs = thence w.image count e.count m k e.to [] [] front e.runs;
    end = e.end;
    outputs = e.outputs ∙ outputs;
  }
