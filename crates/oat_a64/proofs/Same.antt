-- No word is that of two instructions.
use Rattle.std.proofs.Common.{◌≡◌, ℕ, refl, arith}
use Rattle.std.specs.Prelude.{Some, slice_get}
use Rattle.oat_a64.specs.{declared.inst.Inst.Inst, declared.inst.Inst.TheVariants.AddImm, declared.inst.Inst.TheVariants.SubImm, declared.inst.Inst.TheVariants.SubsImm}
use Rattle.oat_a64.specs.{declared.inst.Inst.TheVariants.AddReg, declared.inst.Inst.TheVariants.SubReg, declared.inst.Inst.TheVariants.SubsReg, declared.inst.Inst.TheVariants.AndReg}
use Rattle.oat_a64.specs.{declared.inst.Inst.TheVariants.OrrReg, declared.inst.Inst.TheVariants.EorReg, declared.inst.Inst.TheVariants.Madd, declared.inst.Inst.TheVariants.Msub}
use Rattle.oat_a64.specs.{declared.inst.Inst.TheVariants.Udiv, declared.inst.Inst.TheVariants.Sdiv, declared.inst.Inst.TheVariants.Lslv, declared.inst.Inst.TheVariants.Lsrv}
use Rattle.oat_a64.specs.{declared.inst.Inst.TheVariants.Asrv, declared.inst.Inst.TheVariants.Movz, declared.inst.Inst.TheVariants.Movk, declared.inst.Inst.TheVariants.Csinc}
use Rattle.oat_a64.specs.{declared.inst.Inst.TheVariants.Ldr, declared.inst.Inst.TheVariants.Str, declared.inst.Inst.TheVariants.LdrReg, declared.inst.Inst.TheVariants.StrReg}
use Rattle.oat_a64.specs.{declared.inst.Inst.TheVariants.B, declared.inst.Inst.TheVariants.Bl, declared.inst.Inst.TheVariants.BCond, declared.inst.Inst.TheVariants.Cbz}
use Rattle.oat_a64.specs.{declared.inst.Inst.TheVariants.Cbnz, declared.inst.Inst.TheVariants.Blr, declared.inst.Inst.TheVariants.Ret, declared.inst.Inst.TheVariants.Svc}
use Rattle.oat_a64.specs.{declared.inst.Inst.TheVariants.Brk, declared.inst.Inst.TheVariants.Nop, Table.Word, Fetch.candidates}
use Rattle.oat_a64.proofs.{Offsets.below, Offsets.condition_below, Candidates.place, Candidates.is_candidate}

same_place : (i j : Inst) (w : ℕ) → Word i w → Word j w → place i ≡ place j
same_place (AddImm _ _ _) (AddImm _ _ _) w h k = refl
same_place (SubImm _ _ _) (SubImm _ _ _) w h k = refl
same_place (SubsImm _ _ _) (SubsImm _ _ _) w h k = refl
same_place (AddReg _ _ _ _) (AddReg _ _ _ _) w h k = refl
same_place (SubReg _ _ _) (SubReg _ _ _) w h k = refl
same_place (SubsReg _ _ _) (SubsReg _ _ _) w h k = refl
same_place (AndReg _ _ _) (AndReg _ _ _) w h k = refl
same_place (OrrReg _ _ _) (OrrReg _ _ _) w h k = refl
same_place (EorReg _ _ _) (EorReg _ _ _) w h k = refl
same_place (Madd _ _ _ _) (Madd _ _ _ _) w h k = refl
same_place (Msub _ _ _ _) (Msub _ _ _ _) w h k = refl
same_place (Udiv _ _ _) (Udiv _ _ _) w h k = refl
same_place (Sdiv _ _ _) (Sdiv _ _ _) w h k = refl
same_place (Lslv _ _ _) (Lslv _ _ _) w h k = refl
same_place (Lsrv _ _ _) (Lsrv _ _ _) w h k = refl
same_place (Asrv _ _ _) (Asrv _ _ _) w h k = refl
same_place (Movz _ _ _) (Movz _ _ _) w h k = refl
same_place (Movk _ _ _) (Movk _ _ _) w h k = refl
same_place (Csinc _ _ _ _) (Csinc _ _ _ _) w h k = refl
same_place (Ldr _ _ _) (Ldr _ _ _) w h k = refl
same_place (Str _ _ _) (Str _ _ _) w h k = refl
same_place (LdrReg _ _ _) (LdrReg _ _ _) w h k = refl
same_place (StrReg _ _ _) (StrReg _ _ _) w h k = refl
same_place (B _) (B _) w h k = refl
same_place (Bl _) (Bl _) w h k = refl
same_place (BCond _ _) (BCond _ _) w h k = refl
same_place (Cbz _ _) (Cbz _ _) w h k = refl
same_place (Cbnz _ _) (Cbnz _ _) w h k = refl
same_place (Blr _) (Blr _) w h k = refl
same_place (Ret _) (Ret _) w h k = refl
same_place (Svc _) (Svc _) w h k = refl
same_place (Brk _) (Brk _) w h k = refl
same_place Nop Nop w h k = refl
same_place i j w h k = omega (arith, below, condition_below)

pub same : (i j : Inst) (w : ℕ) → Word i w → Word j w → i ≡ j
same i j w h k =
    let one : slice_get (candidates w) (place i) ≡ Some i = is_candidate i w h in
    let other : slice_get (candidates w) (place j) ≡ Some j = is_candidate j w k in
    let places : place i ≡ place j = same_place i j w h k in
    cc
