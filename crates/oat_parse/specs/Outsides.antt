-- Where a token leads outside bodies.
use Rattle.std.specs.Prelude.{◌≡◌, List, [], ◌∷◌, ◌++◌, Option, option_map}
use Rattle.oat_tree.specs.Syntax as tree
use Rattle.oat_grammar.specs.Machine.{Place, between, heading, inside, in_function, at_stmt}
use Rattle.oat_parse.specs.declared.heading.Outside.{Outside}
use Rattle.oat_parse.specs.declared.heading.Outside.TheVariants as outsides
use Rattle.oat_parse.specs.SeenPlaces.{seen_heading}

abbrev pub outside_place : List tree.Item → Outside → Place
outside_place is (outsides.Heading h) = heading is (seen_heading h)
outside_place is (outsides.Global g) = between (is ++ tree.global g ∷ [])
outside_place is (outsides.Body r x xs) = inside is [] (in_function r x xs.items) at_stmt

-- behind whatever items
abbrev pub HeadsAs : Option Outside → (List tree.Item → Option Place) → Type 0
HeadsAs o there = (is : List tree.Item) → option_map (outside_place is) o ≡ there is
