-- What the functions of a program are listed by, and the symbols of a run of them.
use Rattle.std.specs.Prelude.{◌≡◌, ◌-◌, ◌<◌, ◌^◌, ℕ, List, false, drop, get_or, length, take}
use Rattle.oat_match.specs.{Func, Program, is_referenced, Block, Function, FunctionSymbol, blocks_of, functions_of, symbol_for, symbols_from}
use Rattle.oat_build.specs.{Addresses.address_in, declared.symbols.Lister.Lister}

-- there is a flag for each function, which says whether a `ref` names it
pub record CanList (lister : Lister) : Type 0 where
  pub few : length lister.program.now.funcs < 2 ^ 32
  pub flags : length lister.references.now ≡ length lister.program.now.funcs
  pub referenced : (f : ℕ) → f < length lister.program.now.funcs → get_or lister.references.now f false ≡ is_referenced lister.program.now f

-- the functions from one number up to another
abbrev pub funcs_between : Program → ℕ → ℕ → List Func
funcs_between p from to = take (to - from) (drop from p.funcs)

-- those functions and their blocks, where the first of the blocks has this label
abbrev pub functions_between : Lister → (from to first : ℕ) → List Function
functions_between lister from to first = functions_of (address_in lister.addresses.now) (symbols_from lister.program.now from first (funcs_between lister.program.now from to))

abbrev pub blocks_between : Lister → (from to first : ℕ) → List Block
blocks_between lister from to first = blocks_of (address_in lister.addresses.now) (symbols_from lister.program.now from first (funcs_between lister.program.now from to))

-- the symbol of one function
abbrev pub symbol_in : Lister → ℕ → ℕ → Func → FunctionSymbol
symbol_in lister number label func = symbol_for lister.program.now number label func
