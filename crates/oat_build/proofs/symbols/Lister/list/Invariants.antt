use Rattle.std.proofs.Common.{◌≡◌, ◌+◌, ◌++◌, length, take}
use Rattle.std.specs.List.{flat_map}
use Rattle.oat_match.specs.{blocks_of, functions_of, block_names, symbols_from}
use Rattle.oat_build.specs.Addresses.{address_in}
use Rattle.oat_build.proofs.symbols.Lister.list.Given as goal

abbrev pub invariant-loop-func : goal.invariant-loop-func
invariant-loop-func l = record {
  functions : l.symbols.functions.items ≡ l.initial.symbols.functions.items ++ functions_of (address_in l.self.addresses.now) (symbols_from l.self.program.now l.from l.first (take l.func-index l.func-items));
  blocks : l.symbols.blocks.items ≡ l.initial.symbols.blocks.items ++ blocks_of (address_in l.self.addresses.now) (symbols_from l.self.program.now l.from l.first (take l.func-index l.func-items));
  number : l.number ≡ l.from + l.func-index;
  label : l.label ≡ l.first + length (flat_map block_names (take l.func-index l.func-items));
}
