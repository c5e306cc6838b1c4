use Rattle.std.proofs.Common.{◌≡◌, ◌++◌, take}
use Rattle.std.specs.List.{flat_map}
use Rattle.oat_text.specs.Grammar.{instr_line, line_text}
use Rattle.oat_text.proofs.printing.put_instrs.Given as goal

abbrev pub invariant-loop-instr : goal.invariant-loop-instr
invariant-loop-instr l = l.out.items ≡ l.initial.out.items ++ flat_map (λ instr. line_text (instr_line l.program l.func instr)) (take l.instr-index l.instrs)
