use Rattle.oat_tool.proofs.DeviceSaying as room
use Rattle.oat_tool.proofs.laws.device.one_device_answer.Goals as goal

pub returns : goal.returns
returns c = room.one_device_answer
