-- The instruction of a word: the one of the A64 base instructions of the device, if any, that the word encodes by the instruction table (Arm A64 manual).
use Rattle.std.specs.{Prelude.ℕ, Prelude.suc, Prelude.◌-◌, Prelude.◌*◌, Prelude.◌^◌, Prelude.◌&&◌, Prelude.nat_eq, Prelude.nat_lt, Prelude.Bool, Prelude.if◌then◌else◌, Prelude.Option, Prelude.List}
use Rattle.std.specs.{Prelude.[], Prelude.◌∷◌, Prelude.find, Prelude.ℤ, Prelude.pos, Prelude.negsuc, List.list_all}
use Rattle.oat_bits.specs.Field.{field}
use Rattle.oat_a64.specs.{declared.inst.Inst.Inst, declared.inst.Inst.TheVariants.AddImm, declared.inst.Inst.TheVariants.SubImm, declared.inst.Inst.TheVariants.SubsImm}
use Rattle.oat_a64.specs.{declared.inst.Inst.TheVariants.AddReg, declared.inst.Inst.TheVariants.SubReg, declared.inst.Inst.TheVariants.SubsReg, declared.inst.Inst.TheVariants.AndReg}
use Rattle.oat_a64.specs.{declared.inst.Inst.TheVariants.OrrReg, declared.inst.Inst.TheVariants.EorReg, declared.inst.Inst.TheVariants.Madd, declared.inst.Inst.TheVariants.Msub}
use Rattle.oat_a64.specs.{declared.inst.Inst.TheVariants.Udiv, declared.inst.Inst.TheVariants.Sdiv, declared.inst.Inst.TheVariants.Lslv, declared.inst.Inst.TheVariants.Lsrv}
use Rattle.oat_a64.specs.{declared.inst.Inst.TheVariants.Asrv, declared.inst.Inst.TheVariants.Movz, declared.inst.Inst.TheVariants.Movk, declared.inst.Inst.TheVariants.Csinc}
use Rattle.oat_a64.specs.{declared.inst.Inst.TheVariants.Ldr, declared.inst.Inst.TheVariants.Str, declared.inst.Inst.TheVariants.LdrReg, declared.inst.Inst.TheVariants.StrReg}
use Rattle.oat_a64.specs.{declared.inst.Inst.TheVariants.B, declared.inst.Inst.TheVariants.Bl, declared.inst.Inst.TheVariants.BCond, declared.inst.Inst.TheVariants.Cbz}
use Rattle.oat_a64.specs.{declared.inst.Inst.TheVariants.Cbnz, declared.inst.Inst.TheVariants.Blr, declared.inst.Inst.TheVariants.Ret, declared.inst.Inst.TheVariants.Svc}
use Rattle.oat_a64.specs.{declared.inst.Inst.TheVariants.Brk, declared.inst.Inst.TheVariants.Nop, Table.Part, Table.unsigned, Table.signed, Table.condition, Table.is_condition, Table.form_of}
use Rattle.oat_a64.specs.{Table.word_of}

-- the number that stands as n in two's complement
abbrev pub from_twos_complement : ℕ → ℕ → ℤ
from_twos_complement width n = if nat_lt (2 * n) (2 ^ width) then pos n else negsuc (2 ^ width - suc n)

abbrev pub signed_field : ℕ → ℕ → ℕ → ℤ
signed_field low width w = from_twos_complement width (field low width w)

-- each form with the fields that a word has in its places
unfoldable pub candidates : ℕ → List Inst
candidates w =
    AddImm (field 0 5 w) (field 5 5 w) (field 10 12 w) ∷
    SubImm (field 0 5 w) (field 5 5 w) (field 10 12 w) ∷
    SubsImm (field 0 5 w) (field 5 5 w) (field 10 12 w) ∷
    AddReg (field 0 5 w) (field 5 5 w) (field 16 5 w) (field 10 6 w) ∷
    SubReg (field 0 5 w) (field 5 5 w) (field 16 5 w) ∷
    SubsReg (field 0 5 w) (field 5 5 w) (field 16 5 w) ∷
    AndReg (field 0 5 w) (field 5 5 w) (field 16 5 w) ∷
    OrrReg (field 0 5 w) (field 5 5 w) (field 16 5 w) ∷
    EorReg (field 0 5 w) (field 5 5 w) (field 16 5 w) ∷
    Madd (field 0 5 w) (field 5 5 w) (field 16 5 w) (field 10 5 w) ∷
    Msub (field 0 5 w) (field 5 5 w) (field 16 5 w) (field 10 5 w) ∷
    Udiv (field 0 5 w) (field 5 5 w) (field 16 5 w) ∷
    Sdiv (field 0 5 w) (field 5 5 w) (field 16 5 w) ∷
    Lslv (field 0 5 w) (field 5 5 w) (field 16 5 w) ∷
    Lsrv (field 0 5 w) (field 5 5 w) (field 16 5 w) ∷
    Asrv (field 0 5 w) (field 5 5 w) (field 16 5 w) ∷
    Movz (field 0 5 w) (field 21 2 w) (field 5 16 w) ∷
    Movk (field 0 5 w) (field 21 2 w) (field 5 16 w) ∷
    Csinc (field 0 5 w) (field 5 5 w) (field 16 5 w) (field 12 4 w) ∷
    Ldr (field 0 5 w) (field 5 5 w) (field 10 12 w) ∷
    Str (field 0 5 w) (field 5 5 w) (field 10 12 w) ∷
    LdrReg (field 0 5 w) (field 5 5 w) (field 16 5 w) ∷
    StrReg (field 0 5 w) (field 5 5 w) (field 16 5 w) ∷
    B (signed_field 0 26 w) ∷
    Bl (signed_field 0 26 w) ∷
    BCond (field 0 4 w) (signed_field 5 19 w) ∷
    Cbz (field 0 5 w) (signed_field 5 19 w) ∷
    Cbnz (field 0 5 w) (signed_field 5 19 w) ∷
    Blr (field 5 5 w) ∷
    Ret (field 5 5 w) ∷
    Svc (field 5 16 w) ∷
    Brk (field 5 16 w) ∷
    Nop ∷
    []

abbrev pub fits_signed : ℕ → ℤ → Bool
fits_signed width (pos n) = nat_lt (2 * n) (2 ^ width)
fits_signed width (negsuc n) = nat_lt (2 * n) (2 ^ width)

abbrev pub is_part_in_range : Part → Bool
is_part_in_range (unsigned low width n) = nat_lt n (2 ^ width)
is_part_in_range (signed low width z) = fits_signed width z
is_part_in_range (condition low c) = is_condition c

-- The test of `Word i w`.
unfoldable pub is_word : Inst → ℕ → Bool
is_word i w = list_all is_part_in_range (form_of i).parts && nat_eq w (word_of i)

-- The instruction that a word encodes: no word encodes two.
unfoldable pub inst_of : ℕ → Option Inst
inst_of w = find (λ i. is_word i w) (candidates w)
