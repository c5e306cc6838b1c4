use Rattle.std.proofs.Common.{rules, tests, ◌∙◌}
use Rattle.std.proofs.lemmas.{Iterator.YieldsList-from_slice, Iterator.Search.find_from_yields_List}
use Rattle.oat_a64.specs.Fetch.{is_word}
use Rattle.oat_a64.proofs.words.first_of.Goals as goal

pub returns : goal.returns
returns c = c.copied.ensures ∙ find_from_yields_List (λ i. is_word i c.args.word) _ _ _ c.find.ensures.ran (YieldsList-from_slice c.args.candidates.now cc) (λ x b q k. search (rules, tests))
