-- The first broken rule, behind rules that hold.
use Rattle.std.proofs.Common.{ℕ, Option, Some, None, Result, Ok, Err, refl}
use Rattle.std.specs.Prelude.{IfOk, MatchOption}
use Rattle.oat_first.specs.First.{fails, passes}
use Rattle.oat_image.specs.declared.image.Image.{Image}
use Rattle.oat_shape.specs.{declared.fault.Broken.Broken, MapRules.S2, MapRules.S4, Parts.KeepsLaterRules, Shape.Everywhere, Shape.FailsLowest, Shape.TestsRule, Shape.BreaksRule}
use Rattle.oat_shape.specs.{Shape.BreaksLaterRule, Shape.IsShaped, Shape.S1, Shape.S3}

-- it is this one
pub here : (rule : ℕ → Type 0) (number at : ℕ) (Rest : Broken → Type 0) → FailsLowest rule at → TestsRule rule number Rest (record { number = number; at = at })
here rule number at Rest lowest = fails (record { lowest = lowest; numbered = refl })

-- it is a later one
pub later : (rule : ℕ → Type 0) (number : ℕ) (Rest : Broken → Type 0) (broken : Broken) → Everywhere rule → Rest broken → TestsRule rule number Rest broken
later rule number Rest broken holds rest = passes tt holds rest

-- the first four rules hold, and the others decide
pub others_decide : {E : Type 0} (i : Image) (decided : Result (Option Broken) E) → Everywhere (S1 i) → Everywhere (S2 i.map) → Everywhere (S3 i) → Everywhere (S4 i.map)
    → IfOk decided (λ broken. MatchOption broken (KeepsLaterRules i) (BreaksLaterRule i)) → IfOk decided (λ broken. MatchOption broken (IsShaped i) (BreaksRule i))
others_decide i (Err error) one two three four h = tt
others_decide i (Ok None) one two three four h = record {
  decodes = one;
  rises = two;
  grouped = three;
  leads = four;
  apart = h.apart;
  coded = h.coded;
  paired = h.paired;
  named = h.named;
}
others_decide i (Ok (Some broken)) one two three four h =
    later (S1 i) 1 _ broken one (later (S2 i.map) 2 _ broken two (later (S3 i) 3 _ broken three (later (S4 i.map) 4 _ broken four h)))
