-- The worked programs, by computing.
use Rattle.std.proofs.Common.{refl}
use Rattle.oat_check.specs.Worked.{IdleIsShown, ElementsAreShown, AttestedLoopIsShown, DeepCallsAreShown, OperationsAreAsSaid, RulesAreTried, TwoCallsAreShown}

pub idle_is_shown : IdleIsShown
idle_is_shown = record { checked = refl; ended = refl; outputs_are = refl; once = refl; completed = refl; names = refl; loaded = refl; stored = refl }

pub two_calls_are_shown : TwoCallsAreShown
two_calls_are_shown = record { twice = refl; not_so_soon = refl; second = refl; no_third = refl; first_path = refl; second_path = refl; ended = refl }

pub elements_are_shown : ElementsAreShown
elements_are_shown = record { checked = refl; ended = refl; outputs_are = refl; once = refl; completed = refl; names = refl; loaded = refl; stored = refl }

pub attested_loop_is_shown : AttestedLoopIsShown
attested_loop_is_shown = record { checked = refl; ended = refl; outputs_are = refl; once = refl; completed = refl; names = refl; loaded = refl; stored = refl }

pub deep_calls_are_shown : DeepCallsAreShown
deep_calls_are_shown = record { checked = refl; most_end = refl; most_put = refl; more_end = refl; more_put = refl }

pub operations_are_as_said : OperationsAreAsSaid
operations_are_as_said = (refl, refl, refl, refl, refl, refl, refl, refl, refl, refl, refl, refl, refl, refl, refl, refl, refl, refl, refl, refl, refl, refl, refl, refl, refl, refl, refl, refl, refl, refl, refl, refl)

pub rules_are_tried : RulesAreTried
rules_are_tried = record {
  calls = refl;
  references = (refl, refl, refl);
  counts = (refl, refl);
  call_types = (refl, refl, refl, refl);
  types = (refl, refl, refl, refl, refl, refl, refl, refl, refl);
  kept = (refl, refl, refl, refl, refl, refl, refl, refl, refl);
  terminators = (refl, refl);
  words = refl;
  main = refl;
  end = refl;
  operation = refl;
}
