use Rattle.oat_policy.proofs.words.call_word.Goals as goal

pub returns : goal.returns
returns c = rw (c.call_of.ensures, c.as_slice.ensures) at c.site_word.ensures
