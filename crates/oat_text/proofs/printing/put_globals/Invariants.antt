use Rattle.std.proofs.Common.{◌≡◌, ◌++◌, take}
use Rattle.std.specs.List.{flat_map}
use Rattle.oat_text.specs.Grammar.{global_line, line_text}
use Rattle.oat_text.proofs.printing.put_globals.Given as goal

abbrev pub invariant-loop-global : goal.invariant-loop-global
invariant-loop-global l = l.out.items ≡ l.initial.out.items ++ flat_map (λ global. line_text (global_line global)) (take l.global-index l.globals)
