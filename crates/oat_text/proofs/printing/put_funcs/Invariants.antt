use Rattle.std.proofs.Common.{◌≡◌, ◌++◌, take}
use Rattle.std.specs.List.{flat_map}
use Rattle.oat_text.specs.Grammar.{func_lines, lines_text}
use Rattle.oat_text.proofs.printing.put_funcs.Given as goal

abbrev pub invariant-loop-func : goal.invariant-loop-func
invariant-loop-func l = l.out.items ≡ l.initial.out.items ++ flat_map (λ func. lines_text (func_lines l.program func)) (take l.func-index l.funcs)
