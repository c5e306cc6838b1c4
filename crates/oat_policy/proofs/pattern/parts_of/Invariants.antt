use Rattle.std.proofs.Common.{◌≡◌, ◌++◌, length}
use Rattle.oat_policy.specs.Reading.{parts_of}
use Rattle.oat_policy.proofs.pattern.parts_of.Given as goal

abbrev pub invariant-colons : goal.invariant-colons
invariant-colons l = l.parts.items ++ parts_of l.rest ≡ parts_of l.word

abbrev pub decreases-colons : goal.decreases-colons
decreases-colons l = length l.rest
