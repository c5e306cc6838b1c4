-- What a reader does with a token is what the first reading does.
use Rattle.std.proofs.Common.{◌≡◌, ℕ, ◌<◌, ◌≤◌, Bool, true, false, List, [], ◌∷◌, ◌++◌, map, Option, Some, None, Result, Ok, Err, refl, sym, ◌∙◌, ap, subst, arith}
use Rattle.std.specs.Prelude.{◌+◌, ◌-◌, ◌&&◌, not, nat_le, nat_lt, if◌then◌else◌, option_map}
use Rattle.std.proofs.lemmas.List.{append_assoc}
use Rattle.std.proofs.lemmas.Bool.Decides.{nat_tests}
use Rattle.oat_tree.specs.declared.item.Item.{Item}
use Rattle.oat_tree.specs.Syntax as tree
use Rattle.oat_tree.specs.Seen.{seen_item, seen_tree}
use Rattle.oat_grammar.specs.declared.token.Mark.TheVariants as mark
use Rattle.oat_grammar.specs.declared.token.Token.{Token}
use Rattle.oat_grammar.specs.declared.token.Token.TheVariants.{Named, Number, Fixed, Sign}
use Rattle.oat_grammar.specs.Machine.{is_fixed}
use Rattle.oat_grammar.specs.Machine as machine
use Rattle.oat_grammar.specs.Nodes.{Part, nodes_in, part_next}
use Rattle.oat_grammar.specs.Spots.{Spot, spot}
use Rattle.oat_grammar.specs.FirstFaults as faults
use Rattle.oat_grammar.specs.FirstFaults.{range_of, is_within, opens, first_fault, at, behind_place, behind_token, depth_behind, items_at, read_spots}
use Rattle.oat_grammar.specs.Mentions.{is_mention, is_operation, lines_from}
use Rattle.oat_grammar.proofs.FirstRead.{passes, read_err}
use Rattle.oat_parse.specs.declared.fault.ParseKind.{ParseKind}
use Rattle.oat_parse.specs.declared.fault.ParseKind.TheVariants as kinds
use Rattle.oat_parse.specs.declared.fault.ParseFault.{ParseFault}
use Rattle.oat_parse.specs.declared.fault.ParseFault.TheVariants.{At, Memory}
use Rattle.oat_parse.specs.declared.step.Place.{Place}
use Rattle.oat_parse.specs.declared.step.Place.TheVariants.{Between, Heading, Inside}
use Rattle.oat_parse.specs.declared.step.Next.{Next}
use Rattle.oat_parse.specs.declared.reader.Reader.{Reader}
use Rattle.oat_parse.specs.Nexts.{place_of, next_place, NextAs}
use Rattle.oat_parse.specs.Parts.{seen_part}
use Rattle.oat_parse.specs.Readers.{seen_kind, place_in, seen_reader, IsWithinLimits, GoesOnTo, ReadsOn, fault_of, noted, IsNoted, TakenTo, TakesToken, is_between}

-- ---- before the place is asked

same_range : (is : List tree.Item) (p : Place) → range_of (place_of [] p) ≡ range_of (place_of is p)
same_range is Between = refl
same_range is (Heading h) = refl
same_range is (Inside b i) = refl

-- the tests of a token, with the place that it leads to
tests : (within deep : Bool) {X : Type 0} (x : Result X faults.FirstKind) (kind : ParseKind) → Some kind ≡ (if not within then Some kinds.Number else if deep then Some kinds.Deep else None)
    → Path (Result X faults.FirstKind) (if not within then Err faults.is_number else if deep then Err faults.is_deep else x) (Err (seen_kind kind))
tests false deep x kind h = ap (λ (k : ParseKind). Err (seen_kind k)) (some_kind h)
  where
    some_kind : Some kind ≡ Some kinds.Number → kinds.Number ≡ kind
    some_kind e = cc
tests true true x kind h = ap (λ (k : ParseKind). Err (seen_kind k)) (some_kind h)
  where
    some_kind : Some kind ≡ Some kinds.Deep → kinds.Deep ≡ kind
    some_kind e = cc
tests true false x kind h = cc

untested : (within deep : Bool) {X : Type 0} (x : Result X faults.FirstKind) → (if not within then Some kinds.Number else if deep then Some kinds.Deep else None) ≡ None
    → Path (Result X faults.FirstKind) (if not within then Err faults.is_number else if deep then Err faults.is_deep else x) x
untested false deep x h = cc
untested true true x h = cc
untested true false x h = refl

is_so : (within deep : Bool) → (if not within then Some kinds.Number else if deep then Some kinds.Deep else None) ≡ None → within ≡ true
is_so false deep h = cc
is_so true deep h = refl

not_deep : (within deep : Bool) → (if not within then Some kinds.Number else if deep then Some kinds.Deep else None) ≡ None → deep ≡ false
not_deep false deep h = cc
not_deep true true h = cc
not_deep true false h = refl

abbrev stood : Reader → Token → Bool
stood r t = is_within (range_of (place_of [] r.place)) t

same_tests : (r : Reader) (t : Token) → is_within (range_of (place_in r)) t ≡ stood r t
same_tests r t = ap (λ (k : faults.Range). is_within k t) (sym (same_range (map seen_item r.items.items) r.place))

pub fault_stops : (r : Reader) (line : ℕ) (t : Token) (kind : ParseKind) → Some kind ≡ fault_of r t → behind_token (seen_reader r) line t ≡ Err (seen_kind kind)
fault_stops r line t kind h =
    ap (λ (b : Bool). if not b then Err faults.is_number else if opens t && nat_le 64 r.depth then Err faults.is_deep else behind_place (seen_reader r) line t (machine.next (place_in r) t)) (same_tests r t)
    ∙ tests (stood r t) (opens t && nat_le 64 r.depth) (behind_place (seen_reader r) line t (machine.next (place_in r) t)) kind h

pub fits : (r : Reader) (t : Token) → fault_of r t ≡ None → is_within (range_of (place_of [] r.place)) t ≡ true
fits r t h = is_so (stood r t) (opens t && nat_le 64 r.depth) h

pub room : (r : Reader) (t : Token) → fault_of r t ≡ None → (opens t && nat_le 64 r.depth) ≡ false
room r t h = not_deep (stood r t) (opens t && nat_le 64 r.depth) h

-- ---- the place

asked : (r : Reader) (line : ℕ) (t : Token) (n : Option Next) → fault_of r t ≡ None → NextAs n (λ is. machine.next (place_of is r.place) t)
    → behind_token (seen_reader r) line t ≡ behind_place (seen_reader r) line t (option_map (next_place (map seen_item r.items.items)) n)
asked r line t n h led =
    ap (λ (b : Bool). if not b then Err faults.is_number else if opens t && nat_le 64 r.depth then Err faults.is_deep else behind_place (seen_reader r) line t (machine.next (place_in r) t)) (same_tests r t)
    ∙ untested (stood r t) (opens t && nat_le 64 r.depth) (behind_place (seen_reader r) line t (machine.next (place_in r) t)) h
    ∙ ap (λ (x : Option machine.Place). behind_place (seen_reader r) line t x) (sym (led (map seen_item r.items.items)))

pub unexpected : (r : Reader) (line : ℕ) (t : Token) → fault_of r t ≡ None → NextAs None (λ is. machine.next (place_of is r.place) t) → behind_token (seen_reader r) line t ≡ Err faults.is_expected
unexpected r line t h led = asked r line t None h led

over : (b : Bool) {X : Type 0} (x : X) → b ≡ true → Path (Result X faults.FirstKind) (if b then Err faults.is_deep else Ok x) (Err faults.is_deep)
over true x h = refl
over false x h = cc

pub too_many : (r : Reader) (line : ℕ) (t : Token) (n : Next) → fault_of r t ≡ None → NextAs (Some n) (λ is. machine.next (place_of is r.place) t) → 255 < nodes_in (part_next (seen_part r.part) t)
    → behind_token (seen_reader r) line t ≡ Err faults.is_deep
too_many r line t n h led many = asked r line t (Some n) h led ∙ over (nat_lt 255 (nodes_in (part_next (seen_part r.part) t))) _ (grind (arith, nat_tests))

abbrev reading_at : machine.Place → ℕ → Part → ℕ → faults.Reading
reading_at p depth part last = record { place = p; depth = depth; part = part; last = last }

pub taken : (r : Reader) (line : ℕ) (t : Token) (n : Next) (b : Reader) → fault_of r t ≡ None → NextAs (Some n) (λ is. machine.next (place_of is r.place) t) → nodes_in (part_next (seen_part r.part) t) ≤ 255
    → place_in b ≡ next_place (map seen_item r.items.items) n → b.depth ≡ depth_behind r.depth t → seen_part b.part ≡ part_next (seen_part r.part) t → b.last ≡ line
    → behind_token (seen_reader r) line t ≡ Ok (seen_reader b)
taken r line t n b h led few at_place deep parts last =
    asked r line t (Some n) h led
    ∙ passes (nat_lt 255 (nodes_in (part_next (seen_part r.part) t))) faults.is_deep _ (grind (arith, nat_tests))
    ∙ rw (← at_place, ← deep, ← parts, ← last) refl

shallow_by : (o s : Bool) (d : ℕ) → (o && nat_le 64 d) ≡ false → d ≤ 64 → (if o then d + 1 else if s then d - 1 else d) ≤ 64
shallow_by true s d h le = grind (arith, nat_tests)
shallow_by false true d h le = omega arith
shallow_by false false d h le = le

pub still_shallow : (r : Reader) (t : Token) → fault_of r t ≡ None → r.depth ≤ 64 → depth_behind r.depth t ≤ 64
still_shallow r t h le = shallow_by (opens t) (faults.shuts t) r.depth (room r t h) le

-- ---- words

word_lines : (xs bs : List ℕ) (line : ℕ) (mention : Bool) (others : List ℕ) → bs ≡ (if mention then xs ++ line ∷ [] else xs) → xs ++ (if mention then line ∷ others else others) ≡ bs ++ others
word_lines xs bs line true others h = rw h (sym (append_assoc xs (line ∷ []) others))
word_lines xs bs line false others h = rw h refl

pub token_read : (a : Reader) (line : ℕ) (t : Token) (x : Result Reader ParseFault) → TakesToken a line t x → ReadsOn a (spot line (Some t) ∷ []) x
token_read a line t (Ok b) h = record {
  reads = λ ss. ap (λ (x : Result faults.Reading faults.FirstKind). read_spots ss (at line x)) h.moves;
  lines = λ ss. word_lines a.lines.items b.lines.items line (is_mention a.behind_operation t) (lines_from (is_operation t) ss) h.lines
      ∙ ap (λ (c : Bool). b.lines.items ++ lines_from c ss) (sym h.behind);
  limits = h.limits;
}
token_read a line t (Err (At n kind)) h = λ ss.
    ap (λ (x : Result faults.Reading faults.FirstKind). read_spots ss (at line x)) h.1
    ∙ read_err ss (first_fault line (seen_kind kind)) ∙ ap (λ (k : ℕ). Err (first_fault k (seen_kind kind))) (sym h.0)
token_read a line t (Err Memory) h = tt

pub no_word : (a : Reader) (line : ℕ) → ReadsOn a (spot line None ∷ []) (Err (At line kinds.Token))
no_word a line = λ ss. read_err ss (first_fault line faults.is_token)

-- ---- the end

pub ended : (r : Reader) → is_between r.place ≡ true → items_at r.last (place_in r) ≡ Ok (map seen_item r.items.items)
ended r h = at_end r.place h
  where
    at_end : (p : Place) → is_between p ≡ true → items_at r.last (place_of (map seen_item r.items.items) p) ≡ Ok (map seen_item r.items.items)
    at_end Between e = refl
    at_end (Heading x) e = cc
    at_end (Inside b i) e = cc

pub unended : (r : Reader) → is_between r.place ≡ false → items_at r.last (place_in r) ≡ Err (first_fault r.last faults.is_expected)
unended r h = at_end r.place h
  where
    at_end : (p : Place) → is_between p ≡ false → items_at r.last (place_of (map seen_item r.items.items) p) ≡ Err (first_fault r.last faults.is_expected)
    at_end Between e = cc
    at_end (Heading x) e = refl
    at_end (Inside b i) e = refl

-- ---- a token that was taken

pub is_operation_word : (t : Token) → is_fixed mark.Operation t ≡ is_operation t
is_operation_word (Fixed mark.Operation) = refl
is_operation_word _ = refl

-- all of it but for the lines
pub record MovesTo (a : Reader) (line : ℕ) (t : Token) (b : Reader) : Type 0 where
  pub moves : behind_token (seen_reader a) line t ≡ Ok (seen_reader b)
  pub behind : b.behind_operation ≡ is_operation t
  pub limits : IsWithinLimits b

pub moves_to : (a : Reader) (line : ℕ) (t : Token) (n : Next) (b : Reader) → IsWithinLimits a → fault_of a t ≡ None → NextAs (Some n) (λ is. machine.next (place_of is a.place) t) → nodes_in (part_next (seen_part a.part) t) ≤ 255
    → place_in b ≡ next_place (map seen_item a.items.items) n → b.depth ≡ depth_behind a.depth t → seen_part b.part ≡ part_next (seen_part a.part) t → b.last ≡ line → b.behind_operation ≡ is_operation t
    → MovesTo a line t b
moves_to a line t n b limits h led few at_place deep parts last behind = record {
  moves = taken a line t n b h led few at_place deep parts last;
  behind = behind;
  limits = record {
    shallow = subst (λ (d : ℕ). d ≤ 64) (sym deep) (still_shallow a t h limits.shallow);
    short = subst (λ (p : Part). nodes_in p ≤ 255) (sym parts) few;
  };
}

pub no_mention : (a : Reader) (line : ℕ) (t : Token) (b : Reader) → MovesTo a line t b → is_mention a.behind_operation t ≡ false → b.lines.items ≡ a.lines.items → TakenTo a line t b
no_mention a line t b m h same = record { moves = m.moves; lines = rw h same; behind = m.behind; limits = m.limits }

pub mention : (a : Reader) (line : ℕ) (t : Token) (b c : Reader) → MovesTo a line t b → is_mention a.behind_operation t ≡ true → b.lines.items ≡ a.lines.items → b.last ≡ line → IsNoted b c → TakenTo a line t c
mention a line t b c m h same last n = record {
  moves = m.moves ∙ ap (λ (r : faults.Reading). Ok r) (sym n.seen);
  lines = rw h (n.lines ∙ rw (same, last) refl);
  behind = n.behind ∙ m.behind;
  limits = record {
    shallow = subst (λ (r : faults.Reading). r.depth ≤ 64) (sym n.seen) m.limits.shallow;
    short = subst (λ (r : faults.Reading). nodes_in r.part ≤ 255) (sym n.seen) m.limits.short;
  };
}
