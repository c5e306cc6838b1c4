-- The worked texts run as said, by computing.
use Rattle.std.proofs.Common.{refl}
use Rattle.oat_langrun.specs.Worked.{AttestedLoop, TrapsStop, StepsAreOrdered, CellsAreShown}

pub attested_loop_runs : AttestedLoop
attested_loop_runs = record { runs = refl; outputs = refl; completed = refl; once = refl; loads = refl }

pub traps_stop : TrapsStop
traps_stop = record {
  dividing = record { before_end = refl; ended = refl; outputs = refl };
  indexing = record { before_end = refl; ended = refl; outputs = refl };
  indexing_below = record { before_end = refl; ended = refl; outputs = refl };
  dividing_first = record { before_end = refl; ended = refl; outputs = refl };
  input_first = refl;
  no_input = record { before_end = refl; ended = refl; outputs = refl };
  deep = record { before_end = refl; ended = refl; outputs = refl };
  deep_inputs = refl;
}

pub steps_are_ordered : StepsAreOrdered
steps_are_ordered = record {
  from_left = record { before_end = refl; ended = refl; outputs = refl };
  empty = record { before_end = refl; ended = refl; outputs = refl };
  put = record { before_end = refl; ended = refl; outputs = refl };
  looping = record { before_end = refl; ended = refl; outputs = refl };
  halting = record { before_end = refl; ended = refl; outputs = refl };
  ending = record { before_end = refl; ended = refl; outputs = refl };
  returning = record { before_end = refl; ended = refl; outputs = refl };
  passing_on = record { before_end = refl; ended = refl; outputs = refl };
  passed_on = refl;
}

pub cells_are_shown : CellsAreShown
cells_are_shown = record { computing = refl; storing = refl; loads = refl; stores = refl }
