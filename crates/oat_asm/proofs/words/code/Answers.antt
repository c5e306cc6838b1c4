use Rattle.std.proofs.Common.{◌++◌, ap, ◌∙◌}
use Rattle.std.proofs.lemmas.List.Elements.{Contains-get_or}
use Rattle.oat_asm.specs.{Items.label_place, Layout.words_of_item}
use Rattle.oat_asm.proofs.{Loops.words_on, Loops.gives_on, ItemWords.has_words, ItemWords.same_words}
use Rattle.oat_asm.proofs.words.code.Goals as goal

pub push_words-requires-clause-item : goal.push_words-requires-clause-item
push_words-requires-clause-item c =
    let r = c.requires in
    has_words c.args.items.now c.args.places.now r.labels r.instructions r.branches r.registers r.small r.places _ (Contains-get_or c.args.items.now c.loop-item.item-index _ c.loop-item-test.true)

pub loop-item-preserved : goal.loop-item-preserved
loop-item-preserved c =
    let r = c.requires in
    let it = c.args.items.now in
    let test = c.loop-item-test.true in
    let inv = c.loop-item.invariant in
    let same = same_words it c.args.places.now c.args.base c.loop-item.here r.labels r.places _ (Contains-get_or it c.loop-item.item-index _ test) in
    record {
      words = words_on _ _ _ _ _ _ test c.word_count-here.ensures inv.words;
      whole = gives_on (words_of_item (label_place it) c.args.base) _ _ _ _ _ _ _ _ test c.word_count-here.ensures inv.whole (c.in_ok-push_words.ensures ∙ ap (λ w. c.loop-item.code.items ++ w) same);
    }
