-- What the first reading answers: a text of the grammar with its tree, or the first word with which no text goes on.
use Rattle.std.proofs.Common.{◌≡◌, ℕ, ◌≤◌, Bool, true, false, List, [], ◌∷◌, ◌++◌, map, Option, Some, None, Result, Ok, Err, refl, sym, ◌∙◌, ap, subst, arith}
use Rattle.std.specs.Prelude.{not, ◌&&◌, nat_le, nat_lt, if◌then◌else◌}
use Rattle.std.specs.Option.{option_and_then}
use Rattle.std.proofs.lemmas.Bool.Decides.{nat_tests}
use Rattle.std.proofs.lemmas.List.{append-nil}
use Rattle.oat_grammar.specs.declared.token.Token.{Token}
use Rattle.oat_tree.specs.Syntax.{Item}
use Rattle.oat_grammar.specs.Grammar.{IsText}
use Rattle.oat_grammar.specs.Machine.{Place, between, heading, inside, next, goes}
use Rattle.oat_grammar.specs.Texts.{GoesOn, token_of, At, NumbersFit, IsShallow, IsRead, IsUnexpected, at_token, at_end}
use Rattle.oat_grammar.specs.Nodes.{Part, nodes_in, part_next, StayShort, AllShort}
use Rattle.oat_grammar.specs.Spots.{Spot, spots}
use Rattle.oat_grammar.specs.FirstFaults.{FirstKind, is_token, is_number, is_deep, is_expected, FirstFault, range_of, is_within, opens, depth_behind, Reading, unread, behind_place, behind_token, at, behind_word, items_at, read_spots, first_reading}
use Rattle.oat_grammar.proofs.TextsSaid.{is_text}
use Rattle.oat_grammar.proofs.ShortStmts.{text_short}
use Rattle.oat_grammar.proofs.StayingShort.{text_stays}
use Rattle.oat_grammar.proofs.TextsRead.{text_read}
use Rattle.oat_grammar.proofs.ExprsSaid.{some_is}
use Rattle.oat_grammar.proofs.Viable.{goes_to, goes_on, goes_nowhere, no_text}

-- ---- answers

no_ok : {X E : Type 0} {e : E} {x : X} → Path (Result X E) (Err e) (Ok x) → ⊥
no_ok h = cc

no_err : {X E : Type 0} {e : E} {x : X} → Path (Result X E) (Ok x) (Err e) → ⊥
no_err h = cc

ok_is : {X E : Type 0} {x y : X} → Path (Result X E) (Ok x) (Ok y) → x ≡ y
ok_is h = cc

err_is : {X E : Type 0} {x y : E} → Path (Result X E) (Err x) (Err y) → x ≡ y
err_is h = cc

chosen_ok : {X E : Type 0} (b : Bool) (e : E) (x y : X) → Path (Result X E) (if b then Err e else Ok x) (Ok y) → (b ≡ false) × (x ≡ y)
chosen_ok true e x y h = absurd (no_ok h)
chosen_ok false e x y h = (refl, ok_is h)

past_both : {X E : Type 0} (b : Bool) (e : E) (x : Result X E) (y : X) → Path (Result X E) (if b then Err e else x) (Ok y) → (b ≡ false) × (x ≡ Ok y)
past_both true e x y h = absurd (no_ok h)
past_both false e x y h = (refl, h)

is_so : (b : Bool) → not b ≡ false → b ≡ true
is_so true h = refl
is_so false h = cc

pub passes : {X E : Type 0} (b : Bool) (e : E) (x : Result X E) → b ≡ false → Path (Result X E) (if b then Err e else x) x
passes true e x h = cc
passes false e x h = refl

-- ---- one word

-- a token that was taken
record Entered (r q : Reading) (t : Token) : Type 0 where
  moves : next r.place t ≡ Some q.place
  counts : part_next r.part t ≡ q.part
  few : nodes_in (part_next r.part t) ≤ 255
  deepens : depth_behind r.depth t ≡ q.depth
  fits : is_within (range_of r.place) t ≡ true
  shallow : (opens t && nat_le 64 r.depth) ≡ false

few_are : (n : ℕ) → nat_lt 255 n ≡ false → n ≤ 255
few_are n h = grind (arith, nat_tests)

entered_place : (r : Reading) (line : ℕ) (t : Token) (x : Option Place) (q : Reading) → is_within (range_of r.place) t ≡ true → (opens t && nat_le 64 r.depth) ≡ false → next r.place t ≡ x → behind_place r line t x ≡ Ok q → Entered r q t
entered_place r line t None q fits shallow e h = absurd (no_ok h)
entered_place r line t (Some p) q fits shallow e h =
    let c = chosen_ok (nat_lt 255 (nodes_in (part_next r.part t))) is_deep (record { place = p; depth = depth_behind r.depth t; part = part_next r.part t; last = line }) q h in
    record { moves = e ∙ ap (λ (k : Reading). Some k.place) c.1; counts = ap (λ (k : Reading). k.part) c.1; few = few_are (nodes_in (part_next r.part t)) c.0; deepens = ap (λ (k : Reading). k.depth) c.1; fits = fits; shallow = shallow }

entered : (r : Reading) (line : ℕ) (t : Token) (q : Reading) → behind_token r line t ≡ Ok q → Entered r q t
entered r line t q h =
    let b = past_both (not (is_within (range_of r.place) t)) is_number _ q h in
    let c = past_both (opens t && nat_le 64 r.depth) is_deep (behind_place r line t (next r.place t)) q b.1 in
    entered_place r line t (next r.place t) q (is_so (is_within (range_of r.place) t) b.0) c.0 refl c.1

-- a token that was not expected
unmoved_place : (r : Reading) (line : ℕ) (t : Token) (x : Option Place) → next r.place t ≡ x → behind_place r line t x ≡ Err is_expected → next r.place t ≡ None
unmoved_place r line t None e h = e
unmoved_place r line t (Some p) e h = absurd (never (nat_lt 255 (nodes_in (part_next r.part t))) _ h)
  where
    never : (b : Bool) (x : Reading) → (if b then Err is_deep else Ok x) ≡ Err is_expected → ⊥
    never true x h = cc
    never false x h = no_err h

other_kind : (b : Bool) (k : FirstKind) (x : Result Reading FirstKind) → (k ≡ is_expected → ⊥) → (if b then Err k else x) ≡ Err is_expected → x ≡ Err is_expected
other_kind true k x differs h = absurd (differs (err_is h))
other_kind false k x differs h = h

number_other : is_number ≡ is_expected → ⊥
number_other h = cc

deep_other : is_deep ≡ is_expected → ⊥
deep_other h = cc

token_other : is_token ≡ is_expected → ⊥
token_other h = cc

unmoved : (r : Reading) (line : ℕ) (t : Token) → behind_token r line t ≡ Err is_expected → next r.place t ≡ None
unmoved r line t h =
    unmoved_place r line t (next r.place t) refl
    (other_kind (opens t && nat_le 64 r.depth) is_deep (behind_place r line t (next r.place t)) deep_other
    (other_kind (not (is_within (range_of r.place) t)) is_number _ number_other h))

-- ---- words

pub read_err : (ss : List Spot) (f : FirstFault) → read_spots ss (Err f) ≡ Err f
read_err [] f = refl
read_err (s ∷ ss) f = read_err ss f

-- all words are tokens, and lead to the end of a text
record Runs (r : Reading) (ss : List Spot) (items : List Item) : Type 0 where
  tokens : List Token
  spelled : map token_of ss ≡ map Some tokens
  gone : goes tokens r.place ≡ Some (between items)
  short : StayShort r.part tokens
  fit : NumbersFit tokens r.place
  shallow : IsShallow tokens r.depth

ended_at : (last : ℕ) (p : Place) (items : List Item) → items_at last p ≡ Ok items → p ≡ between items
ended_at last (between is) items h = ap between (ok_is h)
ended_at last (heading is i) items h = absurd (no_ok h)
ended_at last (inside is ss o i) items h = absurd (no_ok h)

token_runs : (s : Spot) (ss : List Spot) (r : Reading) (items : List Item) (t : Token) → s.token ≡ Some t → ((q : Reading) → read_spots ss (Ok q) ≡ Ok items → Runs q ss items)
    → (x : Result Reading FirstKind) → behind_token r s.line t ≡ x → read_spots ss (at s.line x) ≡ Ok items → Runs r (s ∷ ss) items
token_runs s ss r items t is others (Err k) e h = absurd (no_ok (sym (read_err ss (record { line = s.line; kind = k })) ∙ h))
token_runs s ss r items t is others (Ok q) e h =
    let n = entered r s.line t q e in
    let d = others q h in
    record {
      tokens = t ∷ d.tokens;
      spelled = rw (is, d.spelled) refl;
      gone = ap (λ (p : Option Place). option_and_then (goes d.tokens) p) n.moves ∙ d.gone;
      short = (n.few, subst (λ (c : Part). StayShort c d.tokens) (sym n.counts) d.short);
      fit = (n.fits, subst (λ (p : Option Place). At p (NumbersFit d.tokens)) (sym n.moves) d.fit);
      shallow = (n.shallow, subst (λ (k : ℕ). IsShallow d.tokens k) (sym n.deepens) d.shallow);
    }

word_runs : (s : Spot) (ss : List Spot) (r : Reading) (items : List Item) (x : Option Token) → s.token ≡ x → ((q : Reading) → read_spots ss (Ok q) ≡ Ok items → Runs q ss items)
    → read_spots ss (at s.line (behind_word r s.line x)) ≡ Ok items → Runs r (s ∷ ss) items
word_runs s ss r items None is others h = absurd (no_ok (sym (read_err ss (record { line = s.line; kind = is_token })) ∙ h))
word_runs s ss r items (Some t) is others h = token_runs s ss r items t is others (behind_token r s.line t) refl h

runs : (ss : List Spot) (r : Reading) (items : List Item) → read_spots ss (Ok r) ≡ Ok items → Runs r ss items
runs [] r items h = record { tokens = []; spelled = refl; gone = ap Some (ended_at r.last r.place items h); short = tt; fit = tt; shallow = tt }
runs (s ∷ ss) r items h = word_runs s ss r items s.token refl (λ q. runs ss q items) h

pub is_read : (text : List ℕ) (items : List Item) → first_reading text ≡ Ok items → IsRead text items
is_read text items h =
    let d = runs (spots text) unread items h in
    let is = is_text d.tokens items d.gone in
    record { tokens = d.tokens; spelled = d.spelled; whole = is; short = text_short is d.short; fit = d.fit; shallow = d.shallow }

-- ---- and back

pub taken : (r : Reading) (line : ℕ) (t : Token) (p : Place) → is_within (range_of r.place) t ≡ true → (opens t && nat_le 64 r.depth) ≡ false → next r.place t ≡ Some p → nodes_in (part_next r.part t) ≤ 255
    → behind_token r line t ≡ Ok (record { place = p; depth = depth_behind r.depth t; part = part_next r.part t; last = line })
taken r line t p fits shallow moves few =
    passes (not (is_within (range_of r.place) t)) is_number _ (rw fits refl)
    ∙ passes (opens t && nat_le 64 r.depth) is_deep (behind_place r line t (next r.place t)) shallow
    ∙ ap (λ (x : Option Place). behind_place r line t x) moves
    ∙ passes (nat_lt 255 (nodes_in (part_next r.part t))) is_deep _ (grind (arith, nat_tests))

pub moved : (x : Option Place) (ts : List Token) (q : Place) → option_and_then (goes ts) x ≡ Some q → (p : Place) × (x ≡ Some p) × (goes ts p ≡ Some q)
moved None ts q h = cc
moved (Some p) ts q h = (p, refl, h)

pub first_is : {x : Option Token} {t : Token} {xs ys : List (Option Token)} → x ∷ xs ≡ Some t ∷ ys → x ≡ Some t
first_is h = cc

pub others_are : {x : Option Token} {t : Token} {xs ys : List (Option Token)} → x ∷ xs ≡ Some t ∷ ys → xs ≡ ys
others_are h = cc

reads : (ss : List Spot) (r : Reading) (items : List Item) (ts : List Token) → map token_of ss ≡ map Some ts → goes ts r.place ≡ Some (between items) → StayShort r.part ts → NumbersFit ts r.place → IsShallow ts r.depth
    → read_spots ss (Ok r) ≡ Ok items
reads [] r items [] e g short fit shallow = ap (λ (p : Place). items_at r.last p) (some_is g)
reads [] r items (t ∷ ts) e g short fit shallow = cc
reads (s ∷ ss) r items [] e g short fit shallow = cc
reads (s ∷ ss) r items (t ∷ ts) e g short fit shallow =
    let m = moved (next r.place t) ts (between items) g in
    ap (λ (x : Option Token). read_spots ss (at s.line (behind_word r s.line x))) (first_is e)
    ∙ ap (λ (x : Result Reading FirstKind). read_spots ss (at s.line x)) (taken r s.line t m.0 fit.0 shallow.0 m.1 short.0)
    ∙ reads ss _ items ts (others_are e) m.2 short.1 (subst (λ (x : Option Place). At x (NumbersFit ts)) m.1 fit.1) shallow.1

pub read_back : (text : List ℕ) (items : List Item) → IsRead text items → first_reading text ≡ Ok items
read_back text items d = reads (spots text) unread items d.tokens d.spelled (text_read d.whole) (text_stays d.whole d.short) d.fit d.shallow

-- ---- the first unexpected word

kind_is : {m n : ℕ} {j k : FirstKind} → Path (Result (List Item) FirstFault) (Err (record { line = m; kind = j })) (Err (record { line = n; kind = k })) → j ≡ k
kind_is h = ap (λ (f : FirstFault). f.kind) (err_is h)

unended : (last : ℕ) (p : Place) (f : FirstFault) → items_at last p ≡ Err f → (items : List Item) → p ≡ between items → ⊥
unended last (between is) f h items e = no_err h
unended last (heading is i) f h items e = cc
unended last (inside is ss o i) f h items e = cc

mapped : (us : List Token) (t : Token) (rest : List (Option Token)) → map Some (us ++ t ∷ []) ++ rest ≡ map Some us ++ Some t ∷ rest
mapped [] t rest = refl
mapped (u ∷ us) t rest = ap (λ (xs : List (Option Token)). Some u ∷ xs) (mapped us t rest)

token_stops : (s : Spot) (ss : List Spot) (r : Reading) (us : List Token) (line : ℕ) (t : Token) → goes us (between []) ≡ Some r.place
    → ((q : Reading) (vs : List Token) → goes vs (between []) ≡ Some q.place → read_spots ss (Ok q) ≡ Err (record { line = line; kind = is_expected }) → IsUnexpected (map Some vs ++ map token_of ss))
    → (x : Result Reading FirstKind) → behind_token r s.line t ≡ x → read_spots ss (at s.line x) ≡ Err (record { line = line; kind = is_expected }) → IsUnexpected (map Some us ++ Some t ∷ map token_of ss)
token_stops s ss r us line t g others (Err k) e h =
    at_token us t (map token_of ss) (goes_on us r.place g)
    (goes_nowhere us r.place t g (unmoved r s.line t (e ∙ ap Err (kind_is (sym (read_err ss (record { line = s.line; kind = k })) ∙ h)))))
token_stops s ss r us line t g others (Ok q) e h =
    subst IsUnexpected (mapped us t (map token_of ss))
    (others q (us ++ t ∷ []) (goes_to us (t ∷ []) (between []) r.place g ∙ ap (λ (p : Option Place). option_and_then (goes []) p) (entered r s.line t q e).moves) h)

word_stops : (s : Spot) (ss : List Spot) (r : Reading) (us : List Token) (line : ℕ) (x : Option Token) → goes us (between []) ≡ Some r.place
    → ((q : Reading) (vs : List Token) → goes vs (between []) ≡ Some q.place → read_spots ss (Ok q) ≡ Err (record { line = line; kind = is_expected }) → IsUnexpected (map Some vs ++ map token_of ss))
    → read_spots ss (at s.line (behind_word r s.line x)) ≡ Err (record { line = line; kind = is_expected }) → IsUnexpected (map Some us ++ x ∷ map token_of ss)
word_stops s ss r us line None g others h = absurd (token_other (kind_is (sym (read_err ss (record { line = s.line; kind = is_token })) ∙ h)))
word_stops s ss r us line (Some t) g others h = token_stops s ss r us line t g others (behind_token r s.line t) refl h

stops : (ss : List Spot) (r : Reading) (us : List Token) (line : ℕ) → goes us (between []) ≡ Some r.place → read_spots ss (Ok r) ≡ Err (record { line = line; kind = is_expected }) → IsUnexpected (map Some us ++ map token_of ss)
stops [] r us line g h = subst IsUnexpected (sym (append-nil (map Some us))) (at_end us (goes_on us r.place g) (no_text us r.place g (unended r.last r.place _ h)))
stops (s ∷ ss) r us line g h = word_stops s ss r us line s.token g (λ q vs. stops ss q vs line) h

pub is_unexpected : (text : List ℕ) (line : ℕ) → first_reading text ≡ Err (record { line = line; kind = is_expected }) → IsUnexpected (map token_of (spots text))
is_unexpected text line h = stops (spots text) unread [] line refl h
