use Rattle.oat_asm.proofs.words.push_words.Goals as goal

pub returns-in-BranchTo : goal.returns-in-BranchTo
returns-in-BranchTo c = rw (c.in-BranchTo.is, ← c.place_of.ensures) c.push_branch.ensures
