use Rattle.std.proofs.Common.{◌≡◌}
use Rattle.oat_meaning.specs.Made.{HasReached}
use Rattle.oat_meaning.proofs.source.Source.run.Given as goal

-- as many steps are made as the loop counts
abbrev pub invariant-loop : goal.invariant-loop
invariant-loop l = record {
  stands : HasReached l.self-inside.interpreter (record {
    program = l.self-inside.checked.now;
    inputs = l.self-inside.inputs.now;
    op = l.self-inside.op;
    steps = l.self-inside.steps;
    made = l.counter;
  });
  checked : l.self-inside.checked.now ≡ l.initial.self-inside.checked.now;
  inputs : l.self-inside.inputs.now ≡ l.initial.self-inside.inputs.now;
  op : l.self-inside.op ≡ l.initial.self-inside.op;
  steps : l.self-inside.steps ≡ l.end;
}
