use Rattle.oat_owner.proofs.Tabling.{unknown, is_known}
use Rattle.oat_owner.proofs.device.Devices.get.Goals as goal

pub returns-in_err-index : goal.returns-in_err-index
returns-in_err-index c =
    rw (← c.self.view_is, c.from_residual.ensures) (unknown c.self.inside.ids.keys c.self.inside.known.items c.self.invariant c.args.id c.in_err-index.ensures.index)

pub returns : goal.returns
returns c =
    rw (← c.self.view_is) (is_known c.self.inside.ids.keys c.self.inside.known.items c.self.invariant c.args.id c.in_ok-index.index c.index.result.now c.in_ok-index.ensures.index c.index.ensures)
