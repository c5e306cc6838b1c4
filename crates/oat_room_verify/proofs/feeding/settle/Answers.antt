use Rattle.oat_room_verify.proofs.Digits.{settles_all}
use Rattle.oat_room_verify.proofs.feeding.settle.Goals as goal

pub returns : goal.returns
returns c = λ bytes decoded.
    let fed = c.in_ok-feed_digits.ensures _ bytes c.in_ok-feed.ensures decoded in
    settles_all _ bytes c.settle.result (c.settle.ensures.verdict _ bytes fed) (c.settle.ensures.kept _ bytes fed) (c.settle.ensures.serial _ bytes fed)
