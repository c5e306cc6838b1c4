use Rattle.std.proofs.Common.{◌≡◌, ◌++◌, take}
use Rattle.std.specs.List.{flat_map}
use Rattle.oat_text.specs.Grammar.{local_line, line_text}
use Rattle.oat_text.proofs.printing.put_locals.Given as goal

abbrev pub invariant-loop-local : goal.invariant-loop-local
invariant-loop-local l = l.out.items ≡ l.initial.out.items ++ flat_map (λ local. line_text (local_line local)) (take l.local-index l.locals)
