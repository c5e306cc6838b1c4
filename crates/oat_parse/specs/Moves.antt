-- The moves that most tokens make.
use Rattle.std.specs.Prelude.{Some, None}
use Rattle.oat_tree.specs.declared.stmt.Stmt.{Stmt}
use Rattle.oat_parse.specs.declared.place.Inside.{Inside}
use Rattle.oat_parse.specs.declared.place.Inside.TheVariants as places
use Rattle.oat_parse.specs.declared.place.Kind.{Kind}
use Rattle.oat_parse.specs.declared.place.Then.{Then}
use Rattle.oat_parse.specs.declared.place.Then.TheVariants.{Within, Opens}
use Rattle.oat_parse.specs.declared.place.Move.{Move}

abbrev pub goes_within : Inside → Move
goes_within i = record { done = None; «then» = Within i }

abbrev pub ends_with : Stmt → Move
ends_with s = record { done = Some s; «then» = Within places.Stmt }

abbrev pub opens_body : Kind → Move
opens_body k = record { done = None; «then» = Opens k }

abbrev pub after_stmt : Stmt → Then → Move
after_stmt s t = record { done = Some s; «then» = t }
