use Rattle.std.proofs.Common.{ℕ, List, ap, arith, subst}
use Rattle.oat_shown.specs.{put_of, PutsAll}
use Rattle.oat_room_owner.proofs.Replying.{accepted_lines}
use Rattle.oat_owner.specs.declared.call.OwnerReply.TheVariants as replies
use Rattle.oat_room_owner.proofs.replies.put_accepted.Goals as goal

pub returns-in-Accepted : goal.returns-in-Accepted
returns-in-Accepted g c =
    let arm = c.in-Accepted in
    let edges = rw (c.image-image.ensures.same, c.as_slice.ensures) at c.put_edges.ensures in
    subst (λ (text : List ℕ). PutsAll text (put_of g.S.Sink.told g.S.Sink.faults c.args.sink.now c.put_edges.new.sink) c.put_edges.result)
    (accepted_lines c.args.owner.now c.args.answer.now arm.number arm.path c.shaped.result.now arm.is c.shaped.ensures) edges

pub shaped-requires : goal.shaped-requires
shaped-requires g c = omega (arith, c.requires c.in-Accepted.number c.in-Accepted.path (ap replies.Answer c.in-Accepted.is))
