use Rattle.std.proofs.Common.{List, ap, arith}
use Rattle.oat_globals.specs.{Func}
use Rattle.oat_gen.specs.Steps.{block_total}
use Rattle.oat_gen.proofs.Bounds.{labels_are_few, labels_on, blocks_before}
use Rattle.oat_gen.proofs.generation.first_label.Goals as goal

pub overflow_cast-label : goal.overflow_cast-label
overflow_cast-label c = omega (arith, labels_are_few c.args.program.now c.requires.checked, c.len-label.ensures)

pub overflow_cast-label-in-loop-func : goal.overflow_cast-label-in-loop-func
overflow_cast-label-in-loop-func c =
    let on = labels_on _ _ _ _ _ c.loop-func-test.true c.func-item.is c.loop-func.invariant in
    let front = blocks_before c.args.f c.as_slice.result.now in
    let all = ap (λ (gs : List Func). block_total gs) c.as_slice.ensures in
    omega (arith, on, front, all, labels_are_few c.args.program.now c.requires.checked, c.len.ensures)

pub overflow_add-label : goal.overflow_add-label
overflow_add-label c =
    let on = labels_on _ _ _ _ _ c.loop-func-test.true c.func-item.is c.loop-func.invariant in
    let front = blocks_before c.args.f c.as_slice.result.now in
    let all = ap (λ (gs : List Func). block_total gs) c.as_slice.ensures in
    omega (arith, on, front, all, labels_are_few c.args.program.now c.requires.checked, c.len.ensures)
