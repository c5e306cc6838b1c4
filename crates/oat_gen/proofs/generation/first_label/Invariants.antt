use Rattle.std.proofs.Common.{◌≡◌, ◌+◌, drop, length}
use Rattle.oat_gen.specs.Steps.{block_total}
use Rattle.oat_gen.proofs.generation.first_label.Given as goal

abbrev pub invariant-loop-func : goal.invariant-loop-func
invariant-loop-func l = l.label + block_total (drop l.func-index l.func-items) ≡ length l.program.funcs + block_total l.func-items
