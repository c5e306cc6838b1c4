use Rattle.std.proofs.Common.{◌≡◌, ◌++◌, ◌∷◌, [], drop, map}
use Rattle.oat_globals.specs.{instruction, terminator, lines_code}
use Rattle.oat_gen.specs.Code.{line_code}
use Rattle.oat_gen.proofs.blocks.push_block.Given as goal

abbrev pub invariant-loop-instr : goal.invariant-loop-instr
invariant-loop-instr l =
    l.out.items ++ lines_code (map (line_code l.places l.first l.func) (map instruction (drop l.instr-index l.instr-items) ++ terminator l.block.term ∷ []))
    ≡ l.initial.out.items ++ lines_code (map (line_code l.places l.first l.func) (map instruction l.instr-items ++ terminator l.block.term ∷ []))
