-- The image of a program: its code is that of the program's items. Where these fit, the image has the shape, is compiled, and names the program's edges as the source does.
use Rattle.std.specs.{Prelude.◌≡◌, Prelude.◌≤◌, Prelude.◌↔◌, Prelude.ℕ, Prelude.ℤ, Prelude.FitsSigned, Prelude.true, Prelude.List, Prelude.[], Prelude.length, Prelude.map, Int.w64}
use Rattle.std.specs.{List.AllByRecursion}
use Rattle.oat_match.specs.{words_needed, code_limit, AddressesHaveRegisters, BranchesAreInRange, InstructionsAreInRange, NoMarkIsLeft, UsedLabelsStandOnce, expansion, MarksAreInRange}
use Rattle.oat_match.specs.{LabelsStandOnce, Image, IsWellFormedImage, IsShaped, Program, most_words, Body, BeginsAt, IsOperation, GoesBack, turn_of, HasBody, dev, window_of, executed_path, Opening}
use Rattle.oat_match.specs.{IsChecked, has_operation, source_of, LineEdge, Means, RunsAs, Placement, built_address, built_image, in_map, in_table, symbols_of, HasValidNames, World}
use Rattle.oat_match.specs.{Compiled.IsCompiled, Compiled.world_of, Placed.EdgesAreNamed}
use Rattle.oat_gen.specs.Code.{program_items}

-- the words that the code of a program needs
abbrev pub program_words : Program → ℕ
program_words p = words_needed (expansion (program_items p))

abbrev pub program_image : Program → Image
program_image p = built_image (symbols_of p) (program_items p)

abbrev pub program_label : Program → ℕ → ℕ
program_label p = built_address (program_items p)

abbrev pub program_world : Program → World
program_world p = world_of p (program_image p) (program_label p)

-- the image has all that the laws of lines ask for
abbrev pub BuiltProgramsAreCompiled : Type 0
BuiltProgramsAreCompiled = (p : Program) → IsChecked p → HasValidNames p → program_words p ≤ code_limit → IsCompiled p (program_world p)

-- each edge of the program has in the image the name that it has in the source
abbrev pub BuiltEdgesAreNamed : Type 0
BuiltEdgesAreNamed = (p : Program) → IsChecked p → HasValidNames p → program_words p ≤ code_limit → EdgesAreNamed p (program_world p)

-- ---- what is promised of an image of a program

-- For all inputs the bare run runs as the source, and so does each measured run whose windows open where their operation begins.
pub record RunsAsProgram (p : Program) (image : Image) : Type 0 where
  pub placement : Placement LineEdge
  pub begins : (op begin_at : ℕ) → BeginsAt image.map op begin_at → placement.begin op ≡ begin_at
  pub runs : (inputs : List ℤ) → AllByRecursion (FitsSigned w64) inputs → RunsAs (source_of p inputs) image placement inputs
  pub means : (o : Opening) (inputs : List ℤ) → AllByRecursion (FitsSigned w64) inputs → BeginsAt image.map o.op o.begin_at → Means (source_of p inputs) image placement o inputs
  -- and each window that it seals goes back as it called
  pub goes_back : (o : Opening) (inputs : List ℤ) → AllByRecursion (FitsSigned w64) inputs → BeginsAt image.map o.op o.begin_at → (n s : ℕ) (body : Body) → HasBody o (dev image o inputs [] n) s body
      → GoesBack turn_of [] (executed_path image.map o.op (window_of o s (dev image o inputs [] n)))

-- the map's functions are the program's, main first: with their names and numbers of parameters, and one is referenced just where a `ref` names it
abbrev pub HasFunctionsOf : Program → Image → Type 0
HasFunctionsOf p image = map in_map image.map.functions ≡ map in_table (symbols_of p).functions

-- the map's operations are the program's
abbrev pub HasOperationsOf : Program → Image → Type 0
HasOperationsOf p image = (op : ℕ) → IsOperation image.map op ↔ (has_operation p op ≡ true)

pub record IsImageOf (p : Program) (image : Image) : Type 0 where
  pub well_formed : IsWellFormedImage image
  pub shaped : IsShaped image
  pub functions : HasFunctionsOf p image
  pub operations : HasOperationsOf p image
  pub few : length image.code ≤ most_words p
  pub runs : RunsAsProgram p image

abbrev pub BuiltImagesAreOfPrograms : Type 0
BuiltImagesAreOfPrograms = (p : Program) → IsChecked p → HasValidNames p → program_words p ≤ code_limit → IsImageOf p (program_image p)

-- ---- what the assembler and the expansion ask for

pub record CanBeBuilt (p : Program) : Type 0 where
  pub marks : MarksAreInRange (program_items p)
  pub used : UsedLabelsStandOnce (expansion (program_items p))
  pub unmarked : NoMarkIsLeft (expansion (program_items p))
  pub instructions : InstructionsAreInRange (expansion (program_items p))
  pub branches : BranchesAreInRange (expansion (program_items p))
  pub registers : AddressesHaveRegisters (expansion (program_items p))
  pub once : LabelsStandOnce (expansion (program_items p))

abbrev pub ProgramsCanBeBuilt : Type 0
ProgramsCanBeBuilt = (p : Program) → IsChecked p → HasValidNames p → CanBeBuilt p
