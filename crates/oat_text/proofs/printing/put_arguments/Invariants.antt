use Rattle.std.proofs.Common.{◌≡◌, ◌++◌, take}
use Rattle.oat_text.specs.{Grammar.local_at, Printing.words_behind}
use Rattle.oat_text.proofs.printing.put_arguments.Given as goal

abbrev pub invariant-loop-arg : goal.invariant-loop-arg
invariant-loop-arg l = l.out.items ≡ l.initial.out.items ++ words_behind (local_at l.func) (take l.arg-index l.args)
