use Rattle.std.proofs.Common.{◌∙◌, ◌∷◌, [], ◌+◌, ap, refl, sym, drop}
use Rattle.std.proofs.lemmas.{Result.err_from_is_err_and, List.drop_all, List.drop_more}
use Rattle.oat_owner.specs.declared.call.OwnerCall.{OwnerCall}
use Rattle.oat_page.proofs.Putting.{Adds-nothing}
use Rattle.oat_room_owner.proofs.Replying.{all_replied, of_issued, replies_go_on, reply_is_cut, reply_is_wanting}
use Rattle.oat_room_owner.proofs.replies.put_replies.Goals as goal

pub loop-call-init : goal.loop-call-init
loop-call-init g c = record { exchanges = []; replied = refl; parted = refl; put = Adds-nothing _; faults = refl }

pub put_reply-requires : goal.put_reply-requires
put_reply-requires g c =
    rw c.in-Ok.ensures.behind (of_issued c.accepted_is_issued.ensures c.loop-call.owner c.call-item.result c.in-Ok.reply c.in-Ok.ensures.reply)

pub loop-call-preserved : goal.loop-call-preserved
loop-call-preserved g c =
    let calls = c.args.calls.now in
    let i = c.loop-call.call-index in
    let call = c.call-item.result in
    let next = drop_more calls i call c.loop-call-test.true ∙ ap (λ (x : OwnerCall). x ∷ drop (i + 1) calls) (sym c.call-item.is) in
    replies_go_on _ c.loop-call.owner c.call.new.self calls (drop i calls) (drop (i + 1) calls) call c.in-Ok.reply _ _ _ _ c.loop-call.invariant next
    c.in-Ok.ensures.reply c.in-Ok.ensures.behind c.calls_go_on.ensures _ _ c.in_ok-put_reply.ensures

pub returns-in_default : goal.returns-in_default
returns-in_default g c = reply_is_wanting _ _ _ _ _ _ _ _ c.loop-call.invariant

pub returns-in_err-put_reply : goal.returns-in_err-put_reply
returns-in_err-put_reply g c =
    let p = err_from_is_err_and c.from_residual.result c.from_residual.ensures.1 in
    let calls = c.args.calls.now in
    let i = c.loop-call.call-index in
    let call = c.call-item.result in
    let next = drop_more calls i call c.loop-call-test.true ∙ ap (λ (x : OwnerCall). x ∷ drop (i + 1) calls) (sym c.call-item.is) in
    rw (p.1, p.2)
    (reply_is_cut _ c.loop-call.owner c.call.new.self calls (drop i calls) (drop (i + 1) calls) call c.in-Ok.reply _ _ _ _ c.loop-call.invariant next
    c.in-Ok.ensures.reply c.in-Ok.ensures.behind c.calls_go_on.ensures _ _ _ c.in_err-put_reply.ensures)

pub returns : goal.returns
returns g c = all_replied _ _ _ _ _ _ _ _ c.loop-call.invariant (drop_all c.loop-call.call-index c.args.calls.now c.loop-call-test.false)
