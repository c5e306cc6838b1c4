use Rattle.oat_asm.proofs.LayoutLaws.{branches_lead}
use Rattle.oat_asm.proofs.laws.branches_lead_to_their_labels.Goals as goal

pub returns : goal.returns
returns c = branches_lead c.fetches_by_the_table.ensures
