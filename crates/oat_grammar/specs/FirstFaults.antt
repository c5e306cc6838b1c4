-- The first fault of the first reading, word by word.
use Rattle.std.specs.Prelude.{ℕ, ◌+◌, ◌-◌, Bool, true, false, not, ◌&&◌, nat_le, nat_lt, List, [], ◌∷◌, Option, Some, None, if◌then◌else◌, Result, Ok, Err}
use Rattle.oat_grammar.specs.declared.token.Mark.TheVariants as mark
use Rattle.oat_grammar.specs.declared.token.Token.{Token}
use Rattle.oat_grammar.specs.declared.token.Token.TheVariants.{Number, Fixed}
use Rattle.oat_tree.specs.Syntax.{Item}
use Rattle.oat_grammar.specs.Machine.{Place, between, heading, Heading, at_minus, at_length, at_id, next}
use Rattle.oat_grammar.specs.Nodes.{Part, fresh, nodes_in, part_next}
use Rattle.oat_grammar.specs.Spots.{Spot, spots}

pub data FirstKind : Type 0 where
  is_token : FirstKind
  is_number : FirstKind
  is_deep : FirstKind
  is_expected : FirstKind

-- ---- numbers

pub record Range : Type 0 where
  pub least : ℕ
  pub most : ℕ

abbrev pub range : ℕ → ℕ → Range
range a b = record { least = a; most = b }

abbrev pub heading_range : Heading → Range
heading_range (at_minus critical x) = range 0 9223372036854775808
heading_range (at_length true x) = range 1 4096
heading_range (at_length false x) = range 1 65536
heading_range at_id = range 1 65535
heading_range _ = range 0 9223372036854775807

-- which numbers may stand at a place, or anywhere if none may
abbrev pub range_of : Place → Range
range_of (heading is h) = heading_range h
range_of _ = range 0 9223372036854775807

abbrev pub is_within : Range → Token → Bool
is_within r (Number n) = nat_le r.least n && nat_le n r.most
is_within r _ = true

-- ---- nesting

abbrev pub opens : Token → Bool
opens (Fixed mark.OpenRound) = true
opens (Fixed mark.OpenSquare) = true
opens (Fixed mark.OpenBrace) = true
opens _ = false

abbrev pub shuts : Token → Bool
shuts (Fixed mark.CloseRound) = true
shuts (Fixed mark.CloseSquare) = true
shuts (Fixed mark.CloseBrace) = true
shuts _ = false

abbrev pub depth_behind : ℕ → Token → ℕ
depth_behind d t = if opens t then d + 1 else if shuts t then d - 1 else d

-- ---- words

-- what was read, with the line of the last word
pub record Reading : Type 0 where
  pub place : Place
  pub depth : ℕ
  pub part : Part
  pub last : ℕ

abbrev pub unread : Reading
unread = record { place = between []; depth = 0; part = fresh; last = 1 }

abbrev pub behind_place : Reading → ℕ → Token → Option Place → Result Reading FirstKind
behind_place r line t None = Err is_expected
behind_place r line t (Some p) =
    let part : Part = part_next r.part t in
    if nat_lt 255 (nodes_in part) then Err is_deep else Ok (record { place = p; depth = depth_behind r.depth t; part = part; last = line })

abbrev pub behind_token : Reading → ℕ → Token → Result Reading FirstKind
behind_token r line t =
    if not (is_within (range_of r.place) t) then Err is_number
    else if opens t && nat_le 64 r.depth then Err is_deep
    else behind_place r line t (next r.place t)

-- a fault of the first reading, at its line
pub record FirstFault : Type 0 where
  pub line : ℕ
  pub kind : FirstKind

abbrev pub first_fault : ℕ → FirstKind → FirstFault
first_fault n k = record { line = n; kind = k }

abbrev pub at : {X : Type 0} → ℕ → Result X FirstKind → Result X FirstFault
at n (Ok x) = Ok x
at n (Err k) = Err (first_fault n k)

abbrev pub behind_word : Reading → ℕ → Option Token → Result Reading FirstKind
behind_word r line None = Err is_token
behind_word r line (Some t) = behind_token r line t

abbrev pub behind_spot : Result Reading FirstFault → Spot → Result Reading FirstFault
behind_spot (Ok r) s = at s.line (behind_word r s.line s.token)
behind_spot (Err f) s = Err f

-- the end of the text
abbrev pub items_at : ℕ → Place → Result (List Item) FirstFault
items_at last (between is) = Ok is
items_at last _ = at last (Err is_expected)

abbrev pub items_of : Result Reading FirstFault → Result (List Item) FirstFault
items_of (Ok r) = items_at r.last r.place
items_of (Err f) = Err f

abbrev pub read_spots : List Spot → Result Reading FirstFault → Result (List Item) FirstFault
read_spots [] r = items_of r
read_spots (s ∷ ss) r = read_spots ss (behind_spot r s)

-- the items of a text, or its first fault
abbrev pub first_reading : List ℕ → Result (List Item) FirstFault
first_reading text = read_spots (spots text) (Ok unread)
