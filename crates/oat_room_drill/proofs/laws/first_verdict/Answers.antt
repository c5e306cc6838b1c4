use Rattle.oat_room_drill.proofs.Drilling.{first_verdict_accepts}
use Rattle.oat_room_drill.proofs.laws.first_verdict.Goals as goal

pub returns : goal.returns
returns c =
    first_verdict_accepts c.attestations_are_complete.ensures c.honest_runs_are_attested.ensures c.calls_are_counted.ensures c.drills_are_checked.ensures
    c.drills_can_be_attested.ensures c.drills_complete.ensures
