use Rattle.oat_shape.proofs.Laid.{starts}
use Rattle.oat_feed.proofs.feed.Feed.new.Goals as goal

pub invariant_of-result : goal.invariant_of-result
invariant_of-result c = record { begun = starts c.args.shaped.now.map c.args.session.now.op c.requires }
