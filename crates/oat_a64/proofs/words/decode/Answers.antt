use Rattle.std.proofs.Common.{◌≡◌, ℕ, ap, sym, ◌∙◌, Option, Some, None, IfSome}
use Rattle.std.specs.List.{find}
use Rattle.oat_a64.specs.{declared.inst.Inst.Inst, Table.Word, Fetch.is_word, Fetch.inst_of}
use Rattle.oat_a64.proofs.FetchLemmas.{word_from_inst, inst_from_word}
use Rattle.oat_a64.proofs.words.decode.Goals as goal

sound : (word : ℕ) (fetched : Option Inst) → fetched ≡ inst_of word → IfSome fetched (λ i. Word i word)
sound word None e = tt
sound word (Some i) e = word_from_inst i word (sym e)

pub returns-clause-function : goal.returns-clause-function
unfolding inst_of
returns-clause-function c = c.first_of.ensures ∙ ap (λ xs. find (λ i. is_word i c.args.word) xs) c.candidates.ensures

pub returns-clause-sound : goal.returns-clause-sound
returns-clause-sound c = sound c.args.word c.first_of.result (returns-clause-function c)

pub returns-clause-only : goal.returns-clause-only
returns-clause-only c i h = returns-clause-function c ∙ inst_from_word i c.args.word h
