-- What the steps of the generator need of what they are given: locals that have slots, globals that have places, and labels that are numbers of 32 bits.
use Rattle.std.specs.{Prelude.◌≡◌, Prelude.◌+◌, Prelude.◌<◌, Prelude.◌≤◌, Prelude.ℕ, Prelude.nat_eq, Prelude.if◌then◌else◌, Prelude.List, Prelude.[], Prelude.◌∷◌, Prelude.◌++◌, Prelude.length}
use Rattle.std.specs.{Prelude.map, Prelude.All, List.flat_map}
use Rattle.oat_globals.specs.{Item, Program, Func, BlockIr, Instr, IsInstr, IsBlockIr, IsFunc, operation_number, is_leaf}
use Rattle.oat_symbols.specs.{blocks_code, Programs.block_names}
use Rattle.oat_gen.specs.{declared.globals.GlobalPlace.GlobalPlace, declared.globals.GlobalPlace.TheVariants.Ordinary, declared.globals.GlobalPlace.TheVariants.Critical, Marked.marked_start}
use Rattle.oat_gen.specs.{Code.block_code}
use Rattle.oat_asm.specs.declared.item.Item.TheVariants as item

-- a global's first word is one of the first 65,536, or none is left for an empty one
abbrev pub HasLowWord : GlobalPlace → Type 0
HasLowWord (Ordinary word len) = word ≤ 65536
HasLowWord (Critical word cell len) = word ≤ 65536

-- at most four arguments, each a local with a slot
abbrev pub AreInSlots : List ℕ → Type 0
AreInSlots args = (length args ≤ 4) × All (λ x. x < 255) args

-- a function with slots for its locals, in a program with as many globals as there are places
pub record HasSlotsAndPlaces (program : Program) (func : Func) (places : List GlobalPlace) : Type 0 where
  pub slots : length func.locals ≤ 255
  pub count : length program.globals ≡ length places
  pub low : All HasLowWord places

-- an instruction, a block, and all blocks of such a function
pub record IsInstrAmong (places : List GlobalPlace) (instr : Instr) : Type 0 where
  pub program : Program
  pub func : Func
  pub is : IsInstr program func instr
  pub has : HasSlotsAndPlaces program func places

pub record IsBlockAmong (places : List GlobalPlace) (func : Func) (block : BlockIr) : Type 0 where
  pub program : Program
  pub is : IsBlockIr program func block
  pub has : HasSlotsAndPlaces program func places

pub record IsFuncAmong (places : List GlobalPlace) (func : Func) : Type 0 where
  pub program : Program
  pub is : IsFunc program func
  pub has : HasSlotsAndPlaces program func places

-- ---- functions

-- the items of function f, whose first block has this label
abbrev pub function_items : List GlobalPlace → (f first : ℕ) → Func → List Item
function_items places f first func =
    (item.Label f ∷ marked_start (is_leaf func) func.params (length func.locals) (operation_number func.role)) ++ blocks_code first (map (block_code places first func) func.blocks)

-- those of functions from number f on, but for main; their blocks are labelled one behind the other
abbrev pub others_items : List GlobalPlace → (main f first : ℕ) → List Func → List Item
others_items places main f first [] = []
others_items places main f first (func ∷ funcs) =
    (if nat_eq f main then [] else function_items places f first func) ++ others_items places main (f + 1) (first + length func.blocks) funcs

-- how many blocks there are
abbrev pub block_total : List Func → ℕ
block_total funcs = length (flat_map block_names funcs)
