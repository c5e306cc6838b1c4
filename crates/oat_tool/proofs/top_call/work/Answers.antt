use Rattle.oat_page.proofs.Working.{finished}
use Rattle.oat_room_drill.specs.Drill.{Drills}
use Rattle.oat_tool.proofs.top_call.work.Goals as goal

pub returns-in-Drill-clause-shows : goal.returns-in-Drill-clause-shows
returns-in-Drill-clause-shows g c = λ contents told.
    rw c.in-Drill.is (finished _ (Drills c.args.numbers.now) c.drill.result _ _ _ c.drill.ensures c.finish-in-Drill.ensures.shows)
