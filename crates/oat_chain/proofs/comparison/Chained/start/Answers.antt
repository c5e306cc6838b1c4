use Rattle.oat_chain.proofs.Messages.{last-start}
use Rattle.oat_chain.proofs.comparison.Chained.start.Goals as goal

pub returns : goal.returns
returns c = record { stands = c.start.ensures; last = last-start c.args.head.now }
