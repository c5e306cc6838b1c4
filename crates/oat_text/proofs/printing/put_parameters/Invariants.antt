use Rattle.std.proofs.Common.{◌≡◌, ◌++◌, take}
use Rattle.oat_text.specs.{Grammar.parameter, Printing.words_behind}
use Rattle.oat_text.proofs.printing.put_parameters.Given as goal

abbrev pub invariant-loop-local : goal.invariant-loop-local
invariant-loop-local l = l.out.items ≡ l.initial.out.items ++ words_behind parameter (take l.local-index l.params)
