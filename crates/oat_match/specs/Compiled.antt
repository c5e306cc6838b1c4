-- What the image of a program has that was compiled: all that the laws of its lines ask for.
use Rattle.std.specs.{Prelude.◌≡◌, Prelude.◌+◌, Prelude.◌*◌, Prelude.◌^◌, Prelude.◌<◌, Prelude.◌≤◌, Prelude.ℕ, Prelude.true, Prelude.false, Prelude.List, Prelude.[], Prelude.length, Prelude.slice_get}
use Rattle.std.specs.{Prelude.Option, Prelude.Some, Prelude.None, Option.option_map, Option.option_and_then, Option.unwrap_or, List.sum_by, List.list_any}
use Rattle.oat_globals.specs.{code_base, word_in, global_address, Image, is_called_at, Item, IsShaped, start_memory, Program, Func, BlockIr, Ty, I64, Call, ICall, size_in_words, cell_words}
use Rattle.oat_globals.specs.{first_values, word_values, is_referenced, may_name, word_ty, CodeLine, instruction, line_in, IsChecked, local_ty, main_number, Frame, current_line, operation_number}
use Rattle.oat_globals.specs.{World, IsWorld, IsLow, is_leaf, CodeStands, prologue_end, IsBlockAt, IsLineAt, words_before_line, Operations.start_code, Operations.role_words}
use Rattle.oat_symbols.specs.Programs.{label_of_block}
use Rattle.oat_match.specs.Code.{block_items, line_items}

-- ---- data of a program in its world

-- the local that a call's result goes into, at the line of a call
abbrev pub call_result : Option CodeLine → Option ℕ
call_result (Some (instruction (Call x g args))) = Some x
call_result (Some (instruction (ICall x y args))) = Some x
call_result _ = None

-- Locals, leaves, words, types and results are the program's.
pub record HasDataOf (p : Program) (w : World) : Type 0 where
  pub locals : (f : ℕ) (func : Func) → slice_get p.funcs f ≡ Some func → w.locals f ≡ length func.locals
  pub leaves : (f : ℕ) (func : Func) → slice_get p.funcs f ≡ Some func → w.is_leaf f ≡ is_leaf func
  pub types : (f : ℕ) (func : Func) → slice_get p.funcs f ≡ Some func → (x : ℕ) (ty : Ty) → local_ty func x ≡ Some ty → w.ty f x ≡ ty
  pub globals : w.globals ≡ sum_by size_in_words p.globals
  pub global_types : (n : ℕ) (ty : Ty) → word_ty p.globals n ≡ Some ty → w.global_ty n ≡ ty
  pub references : (g k : ℕ) → w.may_name g k ≡ may_name p g k
  pub results : (f : Frame) → w.result f.func f.block f.line ≡ call_result (current_line p f)

-- ---- code

-- a function's start stands at its label, and behind it its first block
pub record FunctionBegins (p : Program) (w : World) (f : ℕ) (func : Func) : Type 0 where
  pub code : CodeStands w (w.label f) (start_code (is_leaf func) func.params (length func.locals) (operation_number func.role))
  pub first : w.label (label_of_block p f 0) ≡ prologue_end w f + 4 * role_words (operation_number func.role)
  pub entry : code_base ≤ w.label f
  -- where a reference names it, an indirect call finds it among the functions of the map
  pub target : is_referenced p f ≡ true → list_any (is_called_at func.params (w.label f)) w.image.map.functions ≡ true

-- The world of a program's image: the code of each block stands at its label, line by line, and each function begins at its own.
pub record IsCompiled (p : Program) (w : World) : Type 0 where
  pub world : IsWorld w
  pub data_of : HasDataOf p w
  pub shaped : IsShaped w.image
  pub blocks : (f b : ℕ) (func : Func) (block : BlockIr) → slice_get p.funcs f ≡ Some func → slice_get func.blocks b ≡ Some block
      → IsBlockAt w f b (label_of_block p f b) (block_items p f func block)
  pub functions : (f : ℕ) (func : Func) → slice_get p.funcs f ≡ Some func → FunctionBegins p w f func
  -- the machine starts at main
  pub main : w.label (main_number p.funcs) ≡ code_base
  -- the words of the cells, and what each word is at the start
  pub cells : w.image.cells ≡ cell_words p.globals
  pub words : (n value : ℕ) → word_values p.globals (first_values p) n ≡ Some value → word_in (start_memory w.image.words) (global_address n) ≡ value

-- ---- the world of a program, by its image and the addresses of labels

abbrev pub count_of_locals : Option Func → ℕ
count_of_locals (Some func) = length func.locals
count_of_locals None = 0

abbrev pub codes_in : Program → ℕ → ℕ → List (List Item)
codes_in p f b = unwrap_or (option_and_then (λ func. option_map (block_items p f func) (slice_get func.blocks b)) (slice_get p.funcs f)) []

-- each line stands behind the code of the lines before it
abbrev pub world_of : Program → Image → (ℕ → ℕ) → World
world_of p image label = record {
  image = image;
  label = label;
  may_name = may_name p;
  locals = λ f. count_of_locals (slice_get p.funcs f);
  ty = λ f x. unwrap_or (option_and_then (λ func. local_ty func x) (slice_get p.funcs f)) I64;
  is_leaf = λ f. unwrap_or (option_map is_leaf (slice_get p.funcs f)) false;
  place = λ f b l. label (label_of_block p f b) + 4 * words_before_line (codes_in p f b) l;
  result = λ f b l. call_result (current_line p (record { func = f; block = b; line = l; locals = λ i. 0 }));
  globals = sum_by size_in_words p.globals;
  global_ty = λ n. unwrap_or (word_ty p.globals n) I64;
}

-- Of a checked program it has the data, and all places; what is left to show is where code stands.
pub record WorldIsOf (p : Program) (image : Image) (label : ℕ → ℕ) : Type 0 where
  pub world : IsWorld (world_of p image label)
  pub data_of : HasDataOf p (world_of p image label)
  pub places : (f b l : ℕ) (func : Func) (block : BlockIr) → slice_get p.funcs f ≡ Some func → slice_get func.blocks b ≡ Some block
      → (world_of p image label).place f b l ≡ label (label_of_block p f b) + 4 * words_before_line (block_items p f func block) l

abbrev pub ProgramsHaveWorlds : Type 0
ProgramsHaveWorlds =
    (p : Program) → IsChecked p → (image : Image) (label : ℕ → ℕ) → IsLow image → ((l : ℕ) → label l < 2 ^ 32) → WorldIsOf p image label

-- the code of each line stands at its place, with the next line behind it
abbrev pub LinesArePlaced : Type 0
LinesArePlaced =
    (p : Program) (w : World) → IsCompiled p w → (f : Frame) (func : Func) (block : BlockIr) (line : CodeLine)
    → slice_get p.funcs f.func ≡ Some func → slice_get func.blocks f.block ≡ Some block → line_in block f.line ≡ Some line
    → IsLineAt w f (line_items p f.func func (w.is_leaf f.func) line)
