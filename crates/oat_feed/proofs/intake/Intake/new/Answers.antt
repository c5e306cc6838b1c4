use Rattle.oat_feed.proofs.Extending.{opens}
use Rattle.oat_feed.proofs.intake.Intake.new.Goals as goal

pub returns : goal.returns
returns c =
    let is_open = opens c.in_ok-with_capacity.field-0.items _ c.in_ok-with_capacity.ensures.items c.in_ok-with_capacity.ensures.capacity in
    record { begins = is_open.0; keeps = is_open.1 }
