use Rattle.std.proofs.Common.{sym, ◌∙◌, arith}
use Rattle.std.proofs.lemmas.Bool.{eqb-true}
use Rattle.oat_lines.proofs.Cuts.{words_of-rest, words_of-first, no_words, has_some}
use Rattle.oat_lines.proofs.word.first_word.Goals as goal

pub returns-then-is_empty-clause-words : goal.returns-then-is_empty-clause-words
returns-then-is_empty-clause-words c =
    let rest = words_of-rest c.args.line.now c.split_at.result.1.now c.word_start.result c.word_start.ensures.place c.split_at.ensures.back in
    no_words c.args.line.now c.split_at.result.1.now rest.0 (eqb-true _ _ (sym c.is_empty.ensures ∙ c.if-is_empty.true))

pub returns-clause-words : goal.returns-clause-words
returns-clause-words c =
    let rest = words_of-rest c.args.line.now c.split_at.result.1.now c.word_start.result c.word_start.ensures.place c.split_at.ensures.back in
    let first = words_of-first c.split_at.result.1.now rest.1 (has_some c.split_at.result.1.now (sym c.is_empty.ensures ∙ c.if-is_empty.false)) in
    rw (c.split_at-2.ensures.front, c.split_at-2.ensures.back, c.word_end.ensures.place) (rest.0 ∙ first.0)

pub returns-clause-has_bytes : goal.returns-clause-has_bytes
returns-clause-has_bytes c =
    let rest = words_of-rest c.args.line.now c.split_at.result.1.now c.word_start.result c.word_start.ensures.place c.split_at.ensures.back in
    let first = words_of-first c.split_at.result.1.now rest.1 (has_some c.split_at.result.1.now (sym c.is_empty.ensures ∙ c.if-is_empty.false)) in
    omega (arith, c.split_at-2.ensures.front_len, c.word_end.ensures.place, first.1)
