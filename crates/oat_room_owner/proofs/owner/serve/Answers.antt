use Rattle.std.proofs.Common.{List, subst}
use Rattle.oat_owner.specs.declared.call.OwnerCall.{OwnerCall}
use Rattle.oat_page.proofs.{Lists.one_of, Showing.Shows-more}
use Rattle.oat_shown.specs.{passes, File}
use Rattle.oat_room_owner.specs.Owner.{RepliesTo, ServesScript}
use Rattle.oat_room_owner.proofs.Enrolling.{halts_so}
use Rattle.oat_room_owner.proofs.owner.serve.Goals as goal

pub returns-in-Ok-clause-shows : goal.returns-in-Ok-clause-shows
returns-in-Ok-clause-shows g c = λ contents told.
    let one = one_of (λ (f : File). f.limit) c.args.loaded.now c.index-loaded-0.result _ c.requires c.index-loaded-0.is in
    let opened = c.in-Ok.ensures.opens contents told in
    rw one
    (Shows-more _ _ _ _ _
    (λ o replies. passes opened.script opened.read
    (passes opened.known opened.enrolled (subst (λ (cs : List OwnerCall). RepliesTo opened.known cs o) opened.calls replies)))
    (c.reply_to.ensures.shows opened.known opened.owner))

pub returns-in-Err-clause-shows : goal.returns-in-Err-clause-shows
returns-in-Err-clause-shows g c = λ contents told.
    let one = one_of (λ (f : File). f.limit) c.args.loaded.now c.index-loaded-0.result _ c.requires c.index-loaded-0.is in
    rw one
    (Shows-more _ _ _ _ _ (λ o is. halts_so (ServesScript contents _ c.index-loaded-0.result) c.in-Err.halt o (c.in-Err.ensures.opens contents told) is)
    (c.say_halt.ensures.shows _ _))

pub returns-in-Err-clause-read_fault : goal.returns-in-Err-clause-read_fault
returns-in-Err-clause-read_fault g c = λ untold four. c.in-Err.ensures.untold untold (c.say_halt.ensures.read_fault four)
