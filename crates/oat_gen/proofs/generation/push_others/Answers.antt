use Rattle.std.proofs.Common.{List, length, ap, arith}
use Rattle.oat_globals.specs.{Func}
use Rattle.oat_gen.proofs.Bounds.{labels_are_few, labels_within, func_among, got}
use Rattle.oat_gen.proofs.generation.push_others.Goals as goal

pub overflow_cast-first : goal.overflow_cast-first
overflow_cast-first c = omega (arith, labels_are_few c.args.program.now c.requires.checked, c.len-first.ensures)

pub overflow_cast-f : goal.overflow_cast-f
overflow_cast-f c =
    let many = ap (λ (gs : List Func). length gs) c.as_slice-func-items.ensures in
    omega (arith, labels_are_few c.args.program.now c.requires.checked, c.loop-f-test.true, many)

pub push_other-requires-clause-func : goal.push_other-requires-clause-func
push_other-requires-clause-func c =
    func_among c.args.program.now c.requires.checked c.args.places.now c.requires.places c.loop-f.f c.func-item.result
    (got _ c.args.program.now.funcs c.loop-f.f c.func-item.result c.as_slice-func-items.ensures c.loop-f-test.true c.func-item.is)

pub push_other-requires-clause-labels : goal.push_other-requires-clause-labels
push_other-requires-clause-labels c =
    let few = labels_within c.args.program.now c.requires.checked _ c.as_slice-func-items.ensures _ _ _ c.loop-f-test.true c.func-item.is c.loop-f.invariant.labels in
    omega (arith, few)

pub overflow_cast-first-in-loop-f : goal.overflow_cast-first-in-loop-f
overflow_cast-first-in-loop-f c =
    let few = labels_within c.args.program.now c.requires.checked _ c.as_slice-func-items.ensures _ _ _ c.loop-f-test.true c.func-item.is c.loop-f.invariant.labels in
    omega (arith, few, c.len.ensures)

pub overflow_add-first : goal.overflow_add-first
overflow_add-first c =
    let few = labels_within c.args.program.now c.requires.checked _ c.as_slice-func-items.ensures _ _ _ c.loop-f-test.true c.func-item.is c.loop-f.invariant.labels in
    omega (arith, few, c.len.ensures)
