use Rattle.oat_tool.proofs.JsonSaying.{json_is_shown}
use Rattle.oat_tool.proofs.laws.attest_json.status.Goals as goal

pub returns : goal.returns
returns c = json_is_shown c.windows_are_judged.ensures
