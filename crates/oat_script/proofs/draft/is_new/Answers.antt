use Rattle.oat_script.proofs.Names.{one_less, id_stands, none_left}
use Rattle.oat_script.proofs.draft.is_new.Goals as goal

pub returns-then-device-id : goal.returns-then-device-id
returns-then-device-id c = id_stands c.args.devices.now c.loop-device.device-index c.args.id c.device-item.result c.loop-device-test.true c.device-item.is c.if-device-id.true c.loop-device.invariant

pub loop-device-preserved : goal.loop-device-preserved
loop-device-preserved c = one_less c.args.devices.now c.loop-device.device-index c.args.id c.device-item.result c.loop-device-test.true c.device-item.is c.if-device-id.false c.loop-device.invariant

pub returns : goal.returns
returns c = none_left c.args.devices.now c.loop-device.device-index c.args.id c.loop-device-test.false c.loop-device.invariant
