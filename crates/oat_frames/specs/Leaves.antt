-- Which functions are leaves.
use Rattle.std.specs.{Prelude.Bool, Prelude.not, List.list_any}
use Rattle.oat_check.specs.{Func, Lines.is_calling}

-- a function without call and icall, main included
abbrev pub is_leaf : Func → Bool
is_leaf func = not (list_any (λ block. list_any is_calling block.instrs) func.blocks)
