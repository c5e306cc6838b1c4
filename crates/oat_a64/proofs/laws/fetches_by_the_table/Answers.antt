use Rattle.oat_a64.proofs.FetchLemmas.{word_from_inst, inst_from_word}
use Rattle.oat_a64.proofs.laws.fetches_by_the_table.Goals as goal

pub returns : goal.returns
returns c i w = (word_from_inst i w, inst_from_word i w)
