use Rattle.std.proofs.lemmas.Bool.{both_ways}
use Rattle.oat_map.proofs.NameTests.{named, unnamed}
use Rattle.oat_map.proofs.name.Name.new.Goals as goal

pub returns-then-is_name-clause-read : goal.returns-then-is_name-clause-read
returns-then-is_name-clause-read c =
    named c.args.text.now c.from_name.result (c.is_name.ensures.0 c.if-is_name.true) c.from_name.ensures

pub returns-else-is_name-clause-read : goal.returns-else-is_name-clause-read
returns-else-is_name-clause-read c =
    unnamed c.args.text.now (λ is. both_ways c.is_name.result c.if-is_name.false (c.is_name.ensures.1 is))
