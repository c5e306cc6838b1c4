use Rattle.std.proofs.Common.{arith}
use Rattle.oat_owner.proofs.Answering.{bytes_fit, leaves_front, wanting_fields, with_front, found_frame, only_frame, frame_too_short, frame_too_long}
use Rattle.oat_owner.proofs.frame.read_answer.Goals as goal

pub returns-then-front-lt5-clause-fault : goal.returns-then-front-lt5-clause-fault
returns-then-front-lt5-clause-fault c =
    let front = c.front_length-front.ensures in
    leaves_front c.args.bytes.now c.front_length-front.result c.if-front-lt5.true front.same front.within (front.stops c.if-front-lt5.true)

pub returns-in_default-clause-fault : goal.returns-in_default-clause-fault
returns-in_default-clause-fault c =
    let bytes = c.args.bytes.now in
    let behind = c.split_at.result.1.now in
    let parted = with_front bytes behind c.front_length-front.result c.front_length-front.ensures.at_most c.if-front-lt5.false c.front_length-front.ensures.same c.split_at.ensures.back in
    wanting_fields bytes behind parted c.in_default.ensures (bytes_fit bytes c.type_inv.bytes)

pub returns-then-fields-stated-clause-only : goal.returns-then-fields-stated-clause-only
returns-then-fields-stated-clause-only c =
    let bytes = c.args.bytes.now in
    let behind = c.split_at.result.1.now in
    let parted = with_front bytes behind c.front_length-front.result c.front_length-front.ensures.at_most c.if-front-lt5.false c.front_length-front.ensures.same c.split_at.ensures.back in
    (frame_too_short bytes behind c.in-Some.fields.device c.in-Some.fields.nonce c.in-Some.fields.stated c.in-Some.fields.rest.now parted
    (bytes_fit bytes c.type_inv.bytes) c.in-Some.ensures c.if-fields-stated.true).no_frame

pub returns-then-fields-stated-clause-fault : goal.returns-then-fields-stated-clause-fault
returns-then-fields-stated-clause-fault c =
    let bytes = c.args.bytes.now in
    let behind = c.split_at.result.1.now in
    let parted = with_front bytes behind c.front_length-front.result c.front_length-front.ensures.at_most c.if-front-lt5.false c.front_length-front.ensures.same c.split_at.ensures.back in
    frame_too_short bytes behind c.in-Some.fields.device c.in-Some.fields.nonce c.in-Some.fields.stated c.in-Some.fields.rest.now parted
    (bytes_fit bytes c.type_inv.bytes) c.in-Some.ensures c.if-fields-stated.true

pub returns-then-fields-stated-2-clause-only : goal.returns-then-fields-stated-2-clause-only
returns-then-fields-stated-2-clause-only c =
    let bytes = c.args.bytes.now in
    let behind = c.split_at.result.1.now in
    let parted = with_front bytes behind c.front_length-front.result c.front_length-front.ensures.at_most c.if-front-lt5.false c.front_length-front.ensures.same c.split_at.ensures.back in
    (frame_too_long bytes behind c.in-Some.fields.device c.in-Some.fields.nonce c.in-Some.fields.stated c.in-Some.fields.rest.now parted
    (bytes_fit bytes c.type_inv.bytes) c.in-Some.ensures c.if-fields-stated-2.true).no_frame

pub returns-then-fields-stated-2-clause-fault : goal.returns-then-fields-stated-2-clause-fault
returns-then-fields-stated-2-clause-fault c =
    let bytes = c.args.bytes.now in
    let behind = c.split_at.result.1.now in
    let parted = with_front bytes behind c.front_length-front.result c.front_length-front.ensures.at_most c.if-front-lt5.false c.front_length-front.ensures.same c.split_at.ensures.back in
    frame_too_long bytes behind c.in-Some.fields.device c.in-Some.fields.nonce c.in-Some.fields.stated c.in-Some.fields.rest.now parted
    (bytes_fit bytes c.type_inv.bytes) c.in-Some.ensures c.if-fields-stated-2.true

pub returns-clause-found : goal.returns-clause-found
returns-clause-found c =
    let bytes = c.args.bytes.now in
    let behind = c.split_at.result.1.now in
    let parted = with_front bytes behind c.front_length-front.result c.front_length-front.ensures.at_most c.if-front-lt5.false c.front_length-front.ensures.same c.split_at.ensures.back in
    found_frame bytes behind c.in-Some.fields.device c.in-Some.fields.nonce c.in-Some.fields.stated c.in-Some.fields.rest.now parted
    (bytes_fit bytes c.type_inv.bytes) c.in-Some.ensures (omega (arith, c.if-fields-stated.false, c.if-fields-stated-2.false))

pub returns-clause-only : goal.returns-clause-only
returns-clause-only c =
    let bytes = c.args.bytes.now in
    let behind = c.split_at.result.1.now in
    let parted = with_front bytes behind c.front_length-front.result c.front_length-front.ensures.at_most c.if-front-lt5.false c.front_length-front.ensures.same c.split_at.ensures.back in
    only_frame bytes behind c.in-Some.fields.device c.in-Some.fields.nonce c.in-Some.fields.stated c.in-Some.fields.rest.now parted
    (bytes_fit bytes c.type_inv.bytes) c.in-Some.ensures
