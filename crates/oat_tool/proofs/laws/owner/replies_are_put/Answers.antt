use Rattle.oat_tool.proofs.Owning as owning
use Rattle.oat_tool.proofs.laws.owner.replies_are_put.Goals as goal

pub returns : goal.returns
returns c = record { served = owning.served_is_put; front = owning.replies_are_put }
