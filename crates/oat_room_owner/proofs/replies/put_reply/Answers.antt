use Rattle.std.proofs.Common.{◌++◌, refl, sym, subst}
use Rattle.std.proofs.lemmas.Result.{err_from_is_err_and}
use Rattle.oat_owner.specs.declared.call.OwnerReply.{OwnerReply}
use Rattle.oat_reply.specs.ReplyLine.{reply_text}
use Rattle.oat_page.proofs.Putting.{PutsAll-front, PutsAll-then}
use Rattle.oat_shown.specs.{put_of, line, PutsAll}
use Rattle.oat_room_owner.specs.{Owner.accepted_path, Serving.IsOfIssued}
use Rattle.oat_owner.specs.declared.call.OwnerReply.TheVariants as replies
use Rattle.oat_room_owner.proofs.replies.put_reply.Goals as goal

pub returns-in_err-put_line : goal.returns-in_err-put_line
returns-in_err-put_line g c =
    let p = err_from_is_err_and c.from_residual.result c.from_residual.ensures.1 in
    let text = line (reply_text c.args.reply.now) in
    rw (p.1, p.2) (PutsAll-front text (accepted_path c.args.owner.now c.args.reply.now) text _ _ _ _ _ refl c.in_err-put_line.ensures)

pub put_accepted-requires : goal.put_accepted-requires
put_accepted-requires g c = subst (IsOfIssued c.args.owner.now) c.in-Answer.is c.requires

pub returns-in-Answer : goal.returns-in-Answer
returns-in-Answer g c =
    let owner = c.args.owner.now in
    let text = line (reply_text c.args.reply.now) in
    let put = c.in_ok-put_line.ensures in
    subst (λ (r : OwnerReply). PutsAll (text ++ accepted_path owner r) (put_of g.S.Sink.told g.S.Sink.faults c.args.sink.now c.put_accepted.new.sink) c.put_accepted.result)
    (sym c.in-Answer.is)
    (PutsAll-then text (accepted_path owner (replies.Answer c.in-Answer.answer)) text _ _ _ _ _ _ c.put_accepted.result refl put.1 put.0 c.put_accepted.ensures)
