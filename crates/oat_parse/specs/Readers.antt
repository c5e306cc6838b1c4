-- What a reader has read, as the first reading has it, and what it does with more words.
use Rattle.std.specs.Prelude.{◌≡◌, ◌≤◌, ◌&&◌, nat_le, not, ℕ, Bool, true, false, List, [], ◌∷◌, ◌++◌, map, Option, Some, None, Result, Ok, Err, if◌then◌else◌}
use Rattle.oat_tree.specs.declared.item.Item.{Item}
use Rattle.oat_tree.specs.Syntax as tree
use Rattle.oat_tree.specs.Seen.{seen_item, seen_tree}
use Rattle.oat_grammar.specs.declared.token.Token.{Token}
use Rattle.oat_grammar.specs.Machine as machine
use Rattle.oat_grammar.specs.Nodes.{nodes_in}
use Rattle.oat_grammar.specs.Spots.{Spot}
use Rattle.oat_grammar.specs.FirstFaults as faults
use Rattle.oat_grammar.specs.FirstFaults.{range_of, is_within, opens, first_fault, at, behind_token, items_at, read_spots, first_reading}
use Rattle.oat_grammar.specs.Mentions.{is_mention, is_operation, lines_from}
use Rattle.oat_parse.specs.declared.fault.ParseKind.{ParseKind}
use Rattle.oat_parse.specs.declared.fault.ParseKind.TheVariants as kinds
use Rattle.oat_parse.specs.declared.fault.ParseFault.{ParseFault}
use Rattle.oat_parse.specs.declared.fault.ParseFault.TheVariants.{At, Memory}
use Rattle.oat_parse.specs.declared.step.Place.{Place}
use Rattle.oat_parse.specs.declared.step.Place.TheVariants.{Between}
use Rattle.oat_parse.specs.declared.step.Next.{Next}
use Rattle.oat_parse.specs.declared.reader.Reader.{Reader}
use Rattle.oat_parse.specs.declared.reader.Parsed.{Parsed}
use Rattle.oat_parse.specs.declared.reader.Arrival.{Arrival}
use Rattle.oat_parse.specs.Nexts.{place_of, next_place}
use Rattle.oat_parse.specs.Parts.{seen_part}

-- ---- faults

abbrev pub seen_kind : ParseKind → faults.FirstKind
seen_kind kinds.Token = faults.is_token
seen_kind kinds.Number = faults.is_number
seen_kind kinds.Deep = faults.is_deep
seen_kind kinds.Expected = faults.is_expected

-- this is the first fault of the text, or there was no memory
abbrev pub IsFirstFault : List ℕ → ParseFault → Type 0
IsFirstFault text (At line kind) = first_reading text ≡ Err (first_fault line (seen_kind kind))
IsFirstFault text Memory = Unit {0}

-- ---- readers

abbrev pub place_in : Reader → machine.Place
place_in r = place_of (map seen_item r.items.items) r.place

abbrev pub seen_reader : Reader → faults.Reading
seen_reader r = record { place = place_in r; depth = r.depth; part = seen_part r.part; last = r.last }

pub record IsWithinLimits (r : Reader) : Type 0 where
  pub shallow : r.depth ≤ 64
  pub short : nodes_in (seen_part r.part) ≤ 255

pub record IsNew (r : Reader) : Type 0 where
  pub unread : seen_reader r ≡ faults.unread
  pub lines : r.lines.items ≡ []
  pub behind : r.behind_operation ≡ false

-- a reader is one behind another with these words between
pub record GoesOnTo (a : Reader) (xs : List Spot) (b : Reader) : Type 0 where
  pub reads : (ss : List Spot) → read_spots (xs ++ ss) (Ok (seen_reader a)) ≡ read_spots ss (Ok (seen_reader b))
  pub lines : (ss : List Spot) → a.lines.items ++ lines_from a.behind_operation (xs ++ ss) ≡ b.lines.items ++ lines_from b.behind_operation ss
  pub limits : IsWithinLimits b

abbrev pub ReadsOn : Reader → List Spot → Result Reader ParseFault → Type 0
ReadsOn a xs (Ok b) = GoesOnTo a xs b
ReadsOn a xs (Err (At line kind)) = (ss : List Spot) → read_spots (xs ++ ss) (Ok (seen_reader a)) ≡ Err (first_fault line (seen_kind kind))
ReadsOn a xs (Err Memory) = Unit {0}

-- ---- tokens

-- before its place is asked
abbrev pub fault_of : Reader → Token → Option ParseKind
fault_of r t = if not (is_within (range_of (place_of [] r.place)) t) then Some kinds.Number else if opens t && nat_le 64 r.depth then Some kinds.Deep else None

abbrev pub noted : List ℕ → ℕ → Bool → Token → List ℕ
noted lines line behind_operation t = if is_mention behind_operation t then lines ++ line ∷ [] else lines

-- with the line of its last word
pub record IsNoted (a b : Reader) : Type 0 where
  pub seen : seen_reader b ≡ seen_reader a
  pub behind : b.behind_operation ≡ a.behind_operation
  pub lines : b.lines.items ≡ a.lines.items ++ a.last ∷ []

pub record Arrives (items : List Item) (next : Next) (a : Arrival) : Type 0 where
  pub place : place_of (map seen_item a.items.items) a.place ≡ next_place (map seen_item items) next

pub record TakenTo (a : Reader) (line : ℕ) (t : Token) (b : Reader) : Type 0 where
  pub moves : behind_token (seen_reader a) line t ≡ Ok (seen_reader b)
  pub lines : b.lines.items ≡ noted a.lines.items line a.behind_operation t
  pub behind : b.behind_operation ≡ is_operation t
  pub limits : IsWithinLimits b

abbrev pub TakesToken : Reader → ℕ → Token → Result Reader ParseFault → Type 0
TakesToken a line t (Ok b) = TakenTo a line t b
TakesToken a line t (Err (At n kind)) = (n ≡ line) × (behind_token (seen_reader a) line t ≡ Err (seen_kind kind))
TakesToken a line t (Err Memory) = Unit {0}

-- ---- the end

abbrev pub is_between : Place → Bool
is_between Between = true
is_between _ = false

abbrev pub Finishes : Reader → Result Parsed ParseFault → Type 0
Finishes r (Ok p) = (items_at r.last (place_in r) ≡ Ok (seen_tree p.items.items)) × (p.lines.items ≡ r.lines.items)
Finishes r (Err (At line kind)) = items_at r.last (place_in r) ≡ Err (first_fault line (seen_kind kind))
Finishes r (Err Memory) = Unit {0}
