-- The open bodies of a function, as the machine has them.
use Rattle.std.specs.Prelude.{◌≡◌, List, [], ◌∷◌, ◌++◌, map, Option}
use Rattle.oat_ir.specs.declared.func.Role.{Role}
use Rattle.oat_tree.specs.declared.stmt.Stmt.{Stmt}
use Rattle.oat_tree.specs.Syntax as tree
use Rattle.oat_tree.specs.Syntax.{Word}
use Rattle.oat_tree.specs.Seen.{seen_stmt, seen_function}
use Rattle.oat_grammar.specs.Machine.{Outer, in_function, Place, between, inside}
use Rattle.oat_parse.specs.declared.place.Kind.{Kind}
use Rattle.oat_parse.specs.declared.function.OpenBody.{OpenBody}
use Rattle.oat_parse.specs.declared.function.Begun.{Begun}
use Rattle.oat_parse.specs.declared.function.Behind.{Behind}
use Rattle.oat_parse.specs.declared.function.Behind.TheVariants.{Within, Whole}
use Rattle.oat_parse.specs.SeenPlaces.{seen_inside, opened_body, ended}

abbrev pub outer_of : Role → Word → List Word → List OpenBody → Outer
outer_of r x xs [] = in_function r x xs
outer_of r x xs (b ∷ bs) = opened_body b.kind (map seen_stmt b.before.items) (outer_of r x xs bs)

abbrev pub outer_in : Begun → Outer
outer_in b = outer_of b.role b.name b.params.items b.open

abbrev pub stmts_in : Begun → List tree.Stmt
stmts_in b = map seen_stmt b.stmts.items

-- the same function with one more statement, or none
pub record AddsStmt (a : Begun) (done : Option Stmt) (b : Begun) : Type 0 where
  pub outer : outer_in b ≡ outer_in a
  pub stmts : stmts_in b ≡ ended (stmts_in a) done

pub record OpensBody (a : Begun) (kind : Kind) (b : Begun) : Type 0 where
  pub outer : outer_in b ≡ opened_body kind (stmts_in a) (outer_in a)
  pub stmts : stmts_in b ≡ []

abbrev pub behind_place : List tree.Item → Behind → Place
behind_place is (Within b i) = inside is (stmts_in b) (outer_in b) (seen_inside i)
behind_place is (Whole f) = between (is ++ tree.function (seen_function f) ∷ [])

-- behind whatever items
abbrev pub LeadsAs : Behind → (List tree.Item → Place) → Type 0
LeadsAs b there = (is : List tree.Item) → behind_place is b ≡ there is
