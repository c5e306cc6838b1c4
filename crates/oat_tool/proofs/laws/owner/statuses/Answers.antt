use Rattle.oat_tool.proofs.Owning.{script_is_served, want_is_behind_replies, refusal_comes_first}
use Rattle.oat_tool.proofs.laws.owner.statuses.Goals as goal

pub returns : goal.returns
returns c = record { served = script_is_served; wanting = want_is_behind_replies; refused = refusal_comes_first }
