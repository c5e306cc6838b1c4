-- From the code of a checked program's functions to its items, and to the image.
use Rattle.oat_globals.specs.{Program, IsChecked}
use Rattle.oat_symbols.specs.{AreCodes, Programs.symbols_of, Codes.codes_of, Codes.CodesAreOfTheProgram, Codes.ProgramsAreBuilt}
use Rattle.oat_gen.specs.{Code.function_code, Laws.FunctionsHaveTheirCode, Laws.ProgramItemsCanBeExpanded, Laws.FittingProgramsAreBuilt}

module _ (codes : CodesAreOfTheProgram) (functions : FunctionsHaveTheirCode) where
  pub are_codes : (p : Program) → IsChecked p → AreCodes (symbols_of p) (symbols_of p).functions (codes_of (function_code p) p)
  are_codes p ok = codes p (function_code p) (λ f func at. functions p f func ok at)

  pub program_items_can_be_expanded : ProgramsAreBuilt → ProgramItemsCanBeExpanded
  program_items_can_be_expanded built p ok named = (built p (codes_of (function_code p) p) ok named (are_codes p ok)).0

  pub fitting_programs_are_built : ProgramsAreBuilt → FittingProgramsAreBuilt
  fitting_programs_are_built built p ok named = (built p (codes_of (function_code p) p) ok named (are_codes p ok)).1
