use Rattle.std.proofs.Common.{◌≡◌, ◌+◌, ◌++◌, drop, length}
use Rattle.oat_gen.specs.Steps.{block_total, others_items}
use Rattle.oat_gen.proofs.generation.push_others.Given as goal

abbrev pub invariant-loop-f : goal.invariant-loop-f
invariant-loop-f l =
    record {
      labels : l.first + block_total (drop l.f l.program.funcs) ≡ length l.program.funcs + block_total l.program.funcs;
      whole : l.out.items ++ others_items l.places l.main l.f l.first (drop l.f l.program.funcs)
          ≡ l.initial.out.items ++ others_items l.places l.main 0 (length l.program.funcs) l.program.funcs;
    }
