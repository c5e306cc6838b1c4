use Rattle.oat_room_drill.proofs.drill.case_of_drill.Goals as goal

pub returns : goal.returns
returns c = record { is = c.in_ok-case.ensures.value; well_formed = c.in_ok-case.ensures.well_formed }
