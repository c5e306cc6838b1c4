-- At most 255 nodes in the own expressions of a statement: in its tree, and by its tokens.
use Rattle.std.specs.Prelude.{ℕ, ◌+◌, ◌≤◌, List, [], ◌∷◌, Bool, true, false, if◌then◌else◌}
use Rattle.oat_grammar.specs.declared.token.Mark.TheVariants as mark
use Rattle.oat_grammar.specs.declared.token.Token.{Token}
use Rattle.oat_grammar.specs.declared.token.Token.TheVariants.{Named, Number, Fixed, Sign}
use Rattle.oat_tree.specs.Syntax.{Item, global, function}
use Rattle.oat_tree.specs.Sizes.{body_room}

-- ---- of a tree

-- no statement of a function has more
abbrev pub IsShortItem : Item → Type 0
IsShortItem (global g) = Unit {0}
IsShortItem (function f) = body_room f.body ≤ 255

abbrev pub AllShort : List Item → Type 0
AllShort [] = Unit {0}
AllShort (i ∷ is) = IsShortItem i × AllShort is

-- ---- by tokens: what has come of a statement since the last `;`, `{` or `}`

pub data Part : Type 0 where
  fresh : Part
  -- the name behind `var` is none, nor is a name at the start unless a bracket follows
  behind_var : Part
  behind_name : Part
  counted : ℕ → Part

abbrev pub nodes_in : Part → ℕ
nodes_in (counted n) = n
nodes_in _ = 0

abbrev pub weight : Token → ℕ
weight (Named x) = 1
weight (Number n) = 1
weight (Sign o) = 1
weight (Fixed mark.In) = 1
weight (Fixed _) = 0

abbrev pub is_boundary : Token → Bool
is_boundary (Fixed mark.Semicolon) = true
is_boundary (Fixed mark.OpenBrace) = true
is_boundary (Fixed mark.CloseBrace) = true
is_boundary _ = false

abbrev pub within : ℕ → Token → Part
within n t = if is_boundary t then fresh else counted (n + weight t)

abbrev pub part_next : Part → Token → Part
part_next fresh (Fixed mark.Var) = behind_var
part_next fresh (Named x) = behind_name
part_next fresh t = within 0 t
part_next behind_var (Named x) = counted 0
part_next behind_var t = within 0 t
part_next behind_name (Fixed mark.OpenRound) = counted 1
part_next behind_name t = within 0 t
part_next (counted n) t = within n t

-- at no token are there more than 255
abbrev pub StayShort : Part → List Token → Type 0
StayShort c [] = Unit {0}
StayShort c (t ∷ ts) = (nodes_in (part_next c t) ≤ 255) × StayShort (part_next c t) ts
