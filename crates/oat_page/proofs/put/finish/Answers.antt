use Rattle.oat_page.proofs.put.finish.Goals as goal

pub returns-in-Ok-clause-shows : goal.returns-in-Ok-clause-shows
returns-in-Ok-clause-shows g c = rw c.in-Ok.is c.put_page.ensures.shows

pub returns-in-Err-clause-shows : goal.returns-in-Err-clause-shows
returns-in-Err-clause-shows g c = rw c.in-Err.is (c.say_stop.ensures.shows _ _)
