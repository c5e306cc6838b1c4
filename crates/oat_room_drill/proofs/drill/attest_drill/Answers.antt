use Rattle.oat_room_drill.proofs.Making.{attests_drawn, few_words, operation_in}
use Rattle.oat_room_drill.proofs.drill.attest_drill.Goals as goal

pub attest_fitting-requires : goal.attest_fitting-requires
attest_fitting-requires c = record {
  fits = few_words _ _ c.in_ok-checked.ensures (c.drills_fit.ensures.fits c.args.number);
  well_formed = c.in_ok-case.ensures.well_formed;
  operation = operation_in _ _ _ _ c.in_ok-checked.ensures c.in_ok-case.ensures.is (c.operations.ensures c.args.number);
}

pub returns : goal.returns
returns c = attests_drawn c.args.number _ _ c.attest_fitting.result c.in_ok-checked.ensures c.in_ok-case.ensures c.attest_fitting.ensures
