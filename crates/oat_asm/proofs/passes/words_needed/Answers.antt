use Rattle.std.proofs.Common.{arith}
use Rattle.oat_asm.proofs.Loops.{needs_at_most_two, words_on}
use Rattle.oat_asm.proofs.passes.words_needed.Goals as goal

pub overflow_add-words : goal.overflow_add-words
overflow_add-words c =
    let it = c.args.items.now in
    let next = words_on it _ _ _ _ _ c.loop-item-test.true c.word_count-words.ensures c.loop-item.invariant in
    let bound = c.well_formed.0.1 in
    omega (arith, next, bound, needs_at_most_two it)

pub loop-item-preserved : goal.loop-item-preserved
loop-item-preserved c = words_on _ _ _ _ _ _ c.loop-item-test.true c.word_count-words.ensures c.loop-item.invariant
