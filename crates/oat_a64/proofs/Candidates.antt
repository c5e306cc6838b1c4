-- An instruction stands among the candidates of its word, at the place of its form, and no word has two forms.
use Rattle.std.proofs.Common.{◌≡◌, ℕ, refl, sym, ap, arith}
use Rattle.std.specs.Prelude.{Some, slice_get}
use Rattle.oat_bits.specs.Field.{field}
use Rattle.oat_a64.specs.{declared.inst.Inst.Inst, declared.inst.Inst.TheVariants.AddImm, declared.inst.Inst.TheVariants.SubImm, declared.inst.Inst.TheVariants.SubsImm}
use Rattle.oat_a64.specs.{declared.inst.Inst.TheVariants.AddReg, declared.inst.Inst.TheVariants.SubReg, declared.inst.Inst.TheVariants.SubsReg, declared.inst.Inst.TheVariants.AndReg}
use Rattle.oat_a64.specs.{declared.inst.Inst.TheVariants.OrrReg, declared.inst.Inst.TheVariants.EorReg, declared.inst.Inst.TheVariants.Madd, declared.inst.Inst.TheVariants.Msub}
use Rattle.oat_a64.specs.{declared.inst.Inst.TheVariants.Udiv, declared.inst.Inst.TheVariants.Sdiv, declared.inst.Inst.TheVariants.Lslv, declared.inst.Inst.TheVariants.Lsrv}
use Rattle.oat_a64.specs.{declared.inst.Inst.TheVariants.Asrv, declared.inst.Inst.TheVariants.Movz, declared.inst.Inst.TheVariants.Movk, declared.inst.Inst.TheVariants.Csinc}
use Rattle.oat_a64.specs.{declared.inst.Inst.TheVariants.Ldr, declared.inst.Inst.TheVariants.Str, declared.inst.Inst.TheVariants.LdrReg, declared.inst.Inst.TheVariants.StrReg}
use Rattle.oat_a64.specs.{declared.inst.Inst.TheVariants.B, declared.inst.Inst.TheVariants.Bl, declared.inst.Inst.TheVariants.BCond, declared.inst.Inst.TheVariants.Cbz}
use Rattle.oat_a64.specs.{declared.inst.Inst.TheVariants.Cbnz, declared.inst.Inst.TheVariants.Blr, declared.inst.Inst.TheVariants.Ret, declared.inst.Inst.TheVariants.Svc}
use Rattle.oat_a64.specs.{declared.inst.Inst.TheVariants.Brk, declared.inst.Inst.TheVariants.Nop, Table.Word, Fetch.candidates}
use Rattle.oat_a64.proofs.Offsets.{below, signed_back, condition_below}

ap2 : {A B C : Type 0} (f : A → B → C) {a a' : A} {b b' : B} → a ≡ a' → b ≡ b' → f a b ≡ f a' b'
ap2 f p q = cc

ap3 : {A B C D : Type 0} (f : A → B → C → D) {a a' : A} {b b' : B} {c c' : C} → a ≡ a' → b ≡ b' → c ≡ c' → f a b c ≡ f a' b' c'
ap3 f p q r = cc

ap4 : {A B C D E : Type 0} (f : A → B → C → D → E) {a a' : A} {b b' : B} {c c' : C} {d d' : D} → a ≡ a' → b ≡ b' → c ≡ c' → d ≡ d' → f a b c d ≡ f a' b' c' d'
ap4 f p q r s = cc

abbrev pub place : Inst → ℕ
place (AddImm _ _ _) = 0
place (SubImm _ _ _) = 1
place (SubsImm _ _ _) = 2
place (AddReg _ _ _ _) = 3
place (SubReg _ _ _) = 4
place (SubsReg _ _ _) = 5
place (AndReg _ _ _) = 6
place (OrrReg _ _ _) = 7
place (EorReg _ _ _) = 8
place (Madd _ _ _ _) = 9
place (Msub _ _ _ _) = 10
place (Udiv _ _ _) = 11
place (Sdiv _ _ _) = 12
place (Lslv _ _ _) = 13
place (Lsrv _ _ _) = 14
place (Asrv _ _ _) = 15
place (Movz _ _ _) = 16
place (Movk _ _ _) = 17
place (Csinc _ _ _ _) = 18
place (Ldr _ _ _) = 19
place (Str _ _ _) = 20
place (LdrReg _ _ _) = 21
place (StrReg _ _ _) = 22
place (B _) = 23
place (Bl _) = 24
place (BCond _ _) = 25
place (Cbz _ _) = 26
place (Cbnz _ _) = 27
place (Blr _) = 28
place (Ret _) = 29
place (Svc _) = 30
place (Brk _) = 31
place Nop = 32

pub is_candidate : (i : Inst) (w : ℕ) → Word i w → slice_get (candidates w) (place i) ≡ Some i
unfolding candidates
is_candidate (AddImm rd rn imm) w h = ap Some (ap3 AddImm (omega arith) (omega arith) (omega arith))
is_candidate (SubImm rd rn imm) w h = ap Some (ap3 SubImm (omega arith) (omega arith) (omega arith))
is_candidate (SubsImm rd rn imm) w h = ap Some (ap3 SubsImm (omega arith) (omega arith) (omega arith))
is_candidate (AddReg rd rn rm amount) w h = ap Some (ap4 AddReg (omega arith) (omega arith) (omega arith) (omega arith))
is_candidate (SubReg rd rn rm) w h = ap Some (ap3 SubReg (omega arith) (omega arith) (omega arith))
is_candidate (SubsReg rd rn rm) w h = ap Some (ap3 SubsReg (omega arith) (omega arith) (omega arith))
is_candidate (AndReg rd rn rm) w h = ap Some (ap3 AndReg (omega arith) (omega arith) (omega arith))
is_candidate (OrrReg rd rn rm) w h = ap Some (ap3 OrrReg (omega arith) (omega arith) (omega arith))
is_candidate (EorReg rd rn rm) w h = ap Some (ap3 EorReg (omega arith) (omega arith) (omega arith))
is_candidate (Madd rd rn rm ra) w h = ap Some (ap4 Madd (omega arith) (omega arith) (omega arith) (omega arith))
is_candidate (Msub rd rn rm ra) w h = ap Some (ap4 Msub (omega arith) (omega arith) (omega arith) (omega arith))
is_candidate (Udiv rd rn rm) w h = ap Some (ap3 Udiv (omega arith) (omega arith) (omega arith))
is_candidate (Sdiv rd rn rm) w h = ap Some (ap3 Sdiv (omega arith) (omega arith) (omega arith))
is_candidate (Lslv rd rn rm) w h = ap Some (ap3 Lslv (omega arith) (omega arith) (omega arith))
is_candidate (Lsrv rd rn rm) w h = ap Some (ap3 Lsrv (omega arith) (omega arith) (omega arith))
is_candidate (Asrv rd rn rm) w h = ap Some (ap3 Asrv (omega arith) (omega arith) (omega arith))
is_candidate (Movz rd hw imm) w h = ap Some (ap3 Movz (omega arith) (omega arith) (omega arith))
is_candidate (Movk rd hw imm) w h = ap Some (ap3 Movk (omega arith) (omega arith) (omega arith))
is_candidate (Csinc rd rn rm cond) w h = ap Some (ap4 Csinc (omega (arith, condition_below)) (omega (arith, condition_below)) (omega (arith, condition_below)) (omega (arith, condition_below)))
is_candidate (Ldr rt rn imm) w h = ap Some (ap3 Ldr (omega arith) (omega arith) (omega arith))
is_candidate (Str rt rn imm) w h = ap Some (ap3 Str (omega arith) (omega arith) (omega arith))
is_candidate (LdrReg rt rn rm) w h = ap Some (ap3 LdrReg (omega arith) (omega arith) (omega arith))
is_candidate (StrReg rt rn rm) w h = ap Some (ap3 StrReg (omega arith) (omega arith) (omega arith))
is_candidate (B offset) w h = ap Some (ap B (sym (signed_back 26 33554432 (field 0 26 w) offset refl h.0.0 (omega (arith, below)))))
is_candidate (Bl offset) w h = ap Some (ap Bl (sym (signed_back 26 33554432 (field 0 26 w) offset refl h.0.0 (omega (arith, below)))))
is_candidate (BCond cond offset) w h = ap Some (ap2 BCond (omega (arith, below, condition_below)) (sym (signed_back 19 262144 (field 5 19 w) offset refl h.0.1.0 (omega (arith, below, condition_below)))))
is_candidate (Cbz rt offset) w h = ap Some (ap2 Cbz (omega (arith, below)) (sym (signed_back 19 262144 (field 5 19 w) offset refl h.0.1.0 (omega (arith, below)))))
is_candidate (Cbnz rt offset) w h = ap Some (ap2 Cbnz (omega (arith, below)) (sym (signed_back 19 262144 (field 5 19 w) offset refl h.0.1.0 (omega (arith, below)))))
is_candidate (Blr rn) w h = ap Some (ap Blr (omega arith))
is_candidate (Ret rn) w h = ap Some (ap Ret (omega arith))
is_candidate (Svc imm) w h = ap Some (ap Svc (omega arith))
is_candidate (Brk imm) w h = ap Some (ap Brk (omega arith))
is_candidate Nop w h = refl
