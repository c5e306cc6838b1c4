use Rattle.oat_asm.proofs.ExpansionProofs.{words_of_groups}
use Rattle.oat_asm.proofs.laws.groups_have_the_words_of_their_rows.Goals as goal

pub returns : goal.returns
returns c = words_of_groups
