-- Functions whose names, and those of whose blocks, are names.
use Rattle.std.specs.Prelude.{Contains}
use Rattle.oat_match.specs.{IsName, Func, BlockIr}

pub record HasNames (func : Func) : Type 0 where
  pub name : IsName func.name
  pub blocks : (block : BlockIr) → Contains func.blocks block → IsName block.label
