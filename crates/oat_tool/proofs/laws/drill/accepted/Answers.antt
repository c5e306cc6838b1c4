use Rattle.oat_tool.proofs.DrillSaying.{drill_is_accepted}
use Rattle.oat_tool.proofs.laws.drill.accepted.Goals as goal

pub returns : goal.returns
returns c =
    drill_is_accepted c.attestations_are_complete.ensures c.honest_runs_are_attested.ensures c.calls_are_counted.ensures c.drills_are_checked.ensures
    c.drills_can_be_attested.ensures c.drills_complete.ensures
