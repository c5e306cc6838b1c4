use Rattle.std.proofs.Common.{◌+◌, List, drop, sym, ap, ◌∙◌, arith}
use Rattle.std.proofs.lemmas.List.{at_drop_more, at_drop_all}
use Rattle.oat_journal.specs.{InitWord, byte_at}
use Rattle.oat_device.proofs.Starting.{laid}
use Rattle.oat_device.proofs.start.start_memory.Goals as goal

pub loop-word-init : goal.loop-word-init
loop-word-init c = ap (laid c.as_slice-word-items.result.now) c.in_ok-memory.ensures ∙ ap (λ (xs : List InitWord). laid xs (λ _. 0)) c.as_slice-word-items.ensures

pub loop-word-preserved : goal.loop-word-preserved
loop-word-preserved c =
    let words = c.as_slice-word-items.result.now in
    let i = c.loop-word.word-index in
    ap (laid (drop (i + 1) words)) c.put_word.ensures
    ∙ sym (at_drop_more (λ (xs : List InitWord). laid xs (byte_at c.loop-word.memory)) words i _ (omega arith))
    ∙ c.loop-word.invariant

pub returns : goal.returns
returns c =
    sym (at_drop_all (λ (xs : List InitWord). laid xs (byte_at c.loop-word.memory)) c.as_slice-word-items.result.now c.loop-word.word-index (omega arith))
    ∙ c.loop-word.invariant
