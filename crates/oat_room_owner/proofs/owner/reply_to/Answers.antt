use Rattle.oat_room_owner.proofs.Replying.{shows_replies}
use Rattle.oat_room_owner.proofs.owner.reply_to.Goals as goal

pub returns-clause-shows : goal.returns-clause-shows
returns-clause-shows g c = λ known is.
    let puts = rw (c.as_slice.ensures, is) at c.put_replies-put.ensures in
    shows_replies c.calls_give_replies.ensures known _ _ _ _ _ puts c.close.ensures.shows c.close.ensures.stopped

pub returns-clause-write_fault : goal.returns-clause-write_fault
returns-clause-write_fault g c = c.close.ensures.write_fault _ _ c.put_replies-put.ensures.lines

pub returns-clause-raised : goal.returns-clause-raised
returns-clause-raised g c = c.close.ensures.raised _ _ c.put_replies-put.ensures.lines
