use Rattle.std.proofs.Common.{take}
use Rattle.oat_chain.specs.Standing.{IsChained}
use Rattle.oat_chain.proofs.comparison.Chained.over.Given as goal

abbrev pub invariant-loop-address : goal.invariant-loop-address
invariant-loop-address l = IsChained l.chained l.head (take l.address-index l.addresses)
