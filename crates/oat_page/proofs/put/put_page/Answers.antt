use Rattle.oat_page.proofs.put.put_page.Goals as goal

pub returns-clause-shows : goal.returns-clause-shows
returns-clause-shows g c = rw c.as_slice.ensures.value at c.close.ensures.shows _ _ c.put_pieces-put.ensures

pub returns-clause-write_fault : goal.returns-clause-write_fault
returns-clause-write_fault g c = c.close.ensures.write_fault _ _ c.put_pieces-put.ensures

pub returns-clause-raised : goal.returns-clause-raised
returns-clause-raised g c = c.close.ensures.raised _ _ c.put_pieces-put.ensures
