use Rattle.std.proofs.Common.{◌∙◌}
use Rattle.oat_owner.proofs.Keeping.{some_copied}
use Rattle.oat_owner.proofs.owner.Owner.shaped.Goals as goal

pub unwrap-device-requires : goal.unwrap-device-requires
unwrap-device-requires c =
    let kept = c.self.invariant c.args.number c.get-challenge.result.now c.get-challenge.ensures in
    some_copied c.get.result kept.device (c.get.ensures ∙ kept.is_known)
