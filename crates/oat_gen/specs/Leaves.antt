-- A leaf with few locals has them in registers: its items leave the stack alone, but for its frame and X30.
use Rattle.std.specs.{Prelude.◌≡◌, Prelude.◌≤◌, Prelude.◌||◌, Prelude.ℕ, Prelude.Bool, Prelude.true, Prelude.false, Prelude.not, Prelude.nat_eq, Prelude.nat_lt, Prelude.List, Prelude.◌∷◌}
use Rattle.std.specs.{Prelude.◌++◌, Prelude.length, Prelude.slice_get, Prelude.Some, List.list_all, List.list_any}
use Rattle.oat_globals.specs.{AddImm, SubImm, SubsImm, Ldr, Str, LdrReg, StrReg, Item, Program, Func, IsChecked, is_leaf}
use Rattle.oat_gen.specs.Code.{program_items}
use Rattle.oat_asm.specs.declared.item.Item.TheVariants as item

-- a load or store off SP is that of X30, and a sum or difference of SP goes into SP
abbrev pub spares_stack : Item → Bool
spares_stack (item.Inst (Ldr rt rn imm)) = not (nat_eq rn 31) || nat_eq rt 30
spares_stack (item.Inst (Str rt rn imm)) = not (nat_eq rn 31) || nat_eq rt 30
spares_stack (item.Inst (LdrReg rt rn rm)) = not (nat_eq rn 31) || nat_eq rt 30
spares_stack (item.Inst (StrReg rt rn rm)) = not (nat_eq rn 31) || nat_eq rt 30
spares_stack (item.Inst (AddImm rd rn imm)) = not (nat_eq rn 31) || nat_eq rd 31
spares_stack (item.Inst (SubImm rd rn imm)) = not (nat_eq rn 31) || nat_eq rd 31
spares_stack (item.Inst (SubsImm rd rn imm)) = not (nat_eq rn 31) || nat_eq rd 31
spares_stack _ = true

-- function f has label f, and blocks have the labels behind those of all functions
abbrev pub is_function_label : Program → Item → Bool
is_function_label p (item.Label l) = nat_lt l (length p.funcs)
is_function_label p _ = false

-- some items from the label of function f on, without the label of another function
pub record AreItemsOf (p : Program) (f : ℕ) (all code : List Item) : Type 0 where
  pub before : List Item
  pub after : List Item
  pub are : all ≡ before ++ item.Label f ∷ (code ++ after)
  pub own : list_any (is_function_label p) code ≡ false

-- so do all items of a leaf with at most eight locals
abbrev pub LeavesSpareStack : Program → List Item → Type 0
LeavesSpareStack p items =
    (f : ℕ) (func : Func) (code : List Item) → slice_get p.funcs f ≡ Some func → is_leaf func ≡ true → length func.locals ≤ 8 → AreItemsOf p f items code
    → list_all spares_stack code ≡ true

abbrev pub ProgramsSpareStack : Type 0
ProgramsSpareStack = (p : Program) → IsChecked p → LeavesSpareStack p (program_items p)
