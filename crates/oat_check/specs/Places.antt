-- Programs whose functions, blocks and lines have numbers of 32 bits, so that a fault can tell them. Each well-formed program is one.
use Rattle.std.specs.Prelude.{◌<◌, ◌^◌, length, All}
use Rattle.oat_ir.specs.{declared.program.Program.Program, declared.func.Func.Func, declared.func.BlockIr.BlockIr}

abbrev pub HasLines : BlockIr → Type 0
HasLines b = length b.instrs < 2 ^ 32

pub record HasBlocks (f : Func) : Type 0 where
  pub few : length f.blocks < 2 ^ 32
  pub lines : All HasLines f.blocks

pub record HasFuncs (p : Program) : Type 0 where
  pub few : length p.funcs < 2 ^ 32
  pub blocks : All HasBlocks p.funcs
