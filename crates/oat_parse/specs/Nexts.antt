-- The place of the machine that the program is at, behind whatever items.
use Rattle.std.specs.Prelude.{◌≡◌, List, [], ◌∷◌, ◌++◌, Option, option_map}
use Rattle.oat_tree.specs.Syntax as tree
use Rattle.oat_tree.specs.Seen.{seen_item}
use Rattle.oat_grammar.specs.Machine as machine
use Rattle.oat_parse.specs.declared.step.Place.{Place}
use Rattle.oat_parse.specs.declared.step.Place.TheVariants.{Between, Heading, Inside}
use Rattle.oat_parse.specs.declared.step.Next.{Next}
use Rattle.oat_parse.specs.declared.step.Next.TheVariants as nexts
use Rattle.oat_parse.specs.SeenPlaces.{seen_heading, seen_inside}
use Rattle.oat_parse.specs.SeenBodies.{stmts_in, outer_in}

abbrev pub place_of : List tree.Item → Place → machine.Place
place_of is Between = machine.between is
place_of is (Heading h) = machine.heading is (seen_heading h)
place_of is (Inside b i) = machine.inside is (stmts_in b) (outer_in b) (seen_inside i)

abbrev pub next_place : List tree.Item → Next → machine.Place
next_place is (nexts.Place p) = place_of is p
next_place is (nexts.Item i) = machine.between (is ++ seen_item i ∷ [])

abbrev pub NextAs : Option Next → (List tree.Item → Option machine.Place) → Type 0
NextAs n there = (is : List tree.Item) → option_map (next_place is) n ≡ there is

abbrev pub IsAt : Next → (List tree.Item → machine.Place) → Type 0
IsAt n there = (is : List tree.Item) → next_place is n ≡ there is
