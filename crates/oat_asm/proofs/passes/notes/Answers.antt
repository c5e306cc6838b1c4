use Rattle.std.proofs.Common.{arith}
use Rattle.oat_asm.specs.Layout.{notes_of_item}
use Rattle.oat_asm.proofs.Loops.{words_on, gives_on}
use Rattle.oat_asm.proofs.passes.notes.Goals as goal

pub push_note-requires-clause-small : goal.push_note-requires-clause-small
push_note-requires-clause-small c =
    let all = c.loop-item.invariant.words in
    omega (arith, all, c.requires.small)

pub overflow_add-here : goal.overflow_add-here
overflow_add-here c =
    let all = words_on c.args.items.now _ _ _ _ _ c.loop-item-test.true c.word_count-here.ensures c.loop-item.invariant.words in
    omega (arith, all, c.requires.small)

pub loop-item-preserved : goal.loop-item-preserved
loop-item-preserved c =
    let inv = c.loop-item.invariant in
    record {
      words = words_on _ _ _ _ _ _ c.loop-item-test.true c.word_count-here.ensures inv.words;
      whole = gives_on (notes_of_item c.args.base) _ _ _ _ _ _ _ _ c.loop-item-test.true c.word_count-here.ensures inv.whole c.in_ok-push_note.ensures;
    }
