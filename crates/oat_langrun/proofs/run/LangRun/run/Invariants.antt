use Rattle.std.proofs.Common.{◌≡◌}
use Rattle.oat_langrun.specs.Made.{HasReached}
use Rattle.oat_langrun.proofs.run.LangRun.run.Given as goal

-- as many steps are made as the loop counts
abbrev pub invariant-loop : goal.invariant-loop
invariant-loop l = record {
  stands : HasReached l.self-inside.interpreter (record {
    items = l.self-inside.items.now;
    inputs = l.self-inside.inputs.now;
    op = l.self-inside.op;
    steps = l.self-inside.steps;
    made = l.counter;
  });
  items : l.self-inside.items.now ≡ l.initial.self-inside.items.now;
  inputs : l.self-inside.inputs.now ≡ l.initial.self-inside.inputs.now;
  op : l.self-inside.op ≡ l.initial.self-inside.op;
  steps : l.self-inside.steps ≡ l.end;
}
