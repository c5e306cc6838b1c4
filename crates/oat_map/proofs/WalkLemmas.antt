-- Trails put together, and trails with the same records: one continues the other.
use Rattle.std.proofs.Common.{◌≡◌, ℕ, ◌<◌, ◌≤◌, Bool, List, [], ◌∷◌, ◌++◌, length, Some, refl, sym, ap, ◌∙◌, inl, inr, append_assoc, append-nil, arith}
use Rattle.std.specs.{List.slice_get, Option.option_and_then}
use Rattle.std.proofs.lemmas.{List.append_cancel_left, List.Elements.filter_map-append}
use Rattle.oat_map.specs.{declared.row.Row.Row, declared.row.Row.TheVariants.Jump, declared.row.Row.TheVariants.Branch, declared.row.Row.TheVariants.Call, declared.row.Row.TheVariants.ICall}
use Rattle.oat_map.specs.{declared.row.Row.TheVariants.Ret, declared.row.Row.TheVariants.Begin, declared.row.Row.TheVariants.End, declared.row.Row.TheVariants.UseCell}
use Rattle.oat_map.specs.{declared.row.Row.TheVariants.DefCell, declared.row.Row.TheVariants.UseAt, declared.row.Row.TheVariants.DefAt, declared.row.Row.TheVariants.Check, declared.map.Map.Map}
use Rattle.oat_map.specs.{Walk.Step, Walk.passed, Walk.moved, Walk.edge_of, Walk.path_of, Walk.bit_of, Walk.bits_of, Walk.target_of, Walk.targets_of, Walk.return_site_of, Walk.LastCall, Walk.Returns}
use Rattle.oat_map.specs.{Walk.RowGoes, Walk.Goes, Walk.Leads}
use Rattle.oat_map.specs.declared.edge.Edge.TheVariants as edges

-- a trail, and one more step
pub Leads-push : (flow : Map) (before : List Step) (from : ℕ) (steps : List Step) (middle : ℕ) (step : Step) (to : ℕ)
    → Leads flow before from steps middle → Goes flow (before ++ steps) middle step to
    → Leads flow before from (steps ++ step ∷ []) to
Leads-push flow before from [] middle step to leads goes =
    let at_start : Goes flow before middle step to = rw append-nil at goes in
    (to, rw leads at_start, refl)
Leads-push flow before from (first ∷ steps) middle step to (next_place, goes_first, leads) goes =
    let regrouped : Goes flow ((before ++ first ∷ []) ++ steps) middle step to = rw append_assoc goes in
    (next_place, goes_first, Leads-push flow (before ++ first ∷ []) next_place steps middle step to leads regrouped)

-- the matching call is one
LastCall-place : (before : List Step) (level place other back other_back : ℕ)
    → LastCall before level place back → LastCall before level other other_back → place < other → ⊥
LastCall-place before level place other back other_back one two below =
    one.last other other_back below two.call two.at_level

pub Returns-one : (before : List Step) (one two : ℕ) → Returns before one → Returns before two → one ≡ two
Returns-one before one two first second =
    let same_level : second.level ≡ first.level = omega (arith, first.open_calls, second.open_calls) in
    let match : LastCall before first.level second.place two = rw same_level at second.matching in
    let same_place : first.place ≡ second.place = omega (arith, LastCall-place _ _ _ _ _ _ first.matching match, LastCall-place _ _ _ _ _ _ match first.matching) in
    let called : option_and_then return_site_of (slice_get before second.place) ≡ Some one = rw same_place at first.matching.call in
    let both : Some one ≡ Some two = sym called ∙ match.call in
    cc

-- a step more uses up the same records on both sides
bits-cancel : (step : Step) (xs ys : List Step) (b c : List Bool)
    → bits_of (path_of (step ∷ xs)) ++ b ≡ bits_of (path_of (step ∷ ys)) ++ c
    → bits_of (path_of xs) ++ b ≡ bits_of (path_of ys) ++ c
bits-cancel passed xs ys b c e = e
bits-cancel (moved (edges.Branch from bit to)) xs ys b c e = cc
bits-cancel (moved (edges.Jump from to)) xs ys b c e = e
bits-cancel (moved (edges.Call from to)) xs ys b c e = e
bits-cancel (moved (edges.ICall from to)) xs ys b c e = e
bits-cancel (moved (edges.Ret from to)) xs ys b c e = e
bits-cancel (moved (edges.End op)) xs ys b c e = e
bits-cancel (moved (edges.Stray from to)) xs ys b c e = e

targets-cancel : (step : Step) (xs ys : List Step) (b c : List ℕ)
    → targets_of (path_of (step ∷ xs)) ++ b ≡ targets_of (path_of (step ∷ ys)) ++ c
    → targets_of (path_of xs) ++ b ≡ targets_of (path_of ys) ++ c
targets-cancel passed xs ys b c e = e
targets-cancel (moved (edges.ICall from to)) xs ys b c e = cc
targets-cancel (moved (edges.Jump from to)) xs ys b c e = e
targets-cancel (moved (edges.Branch from bit to)) xs ys b c e = e
targets-cancel (moved (edges.Call from to)) xs ys b c e = e
targets-cancel (moved (edges.Ret from to)) xs ys b c e = e
targets-cancel (moved (edges.End op)) xs ys b c e = e
targets-cancel (moved (edges.Stray from to)) xs ys b c e = e

-- with the same records, one row allows one step
pub RowGoes-one : (flow : Map) (row : Row) (before : List Step) (x y : Step) (to other : ℕ)
    (xs ys : List Step) (b c : List Bool) (t u : List ℕ)
    → RowGoes flow row before x to → RowGoes flow row before y other
    → bits_of (path_of (x ∷ xs)) ++ b ≡ bits_of (path_of (y ∷ ys)) ++ c
    → targets_of (path_of (x ∷ xs)) ++ t ≡ targets_of (path_of (y ∷ ys)) ++ u
    → (x ≡ y) × (to ≡ other)
RowGoes-one flow (Jump at target) before x y to other xs ys b c t u p q bits targets = (p.0 ∙ sym q.0, p.1 ∙ sym q.1)
RowGoes-one flow (Branch at taken others) before x y to other xs ys b c t u (inl p) (inl q) bits targets = (p.0 ∙ sym q.0, p.1 ∙ sym q.1)
RowGoes-one flow (Branch at taken others) before x y to other xs ys b c t u (inr p) (inr q) bits targets = (p.0 ∙ sym q.0, p.1 ∙ sym q.1)
RowGoes-one flow (Branch at taken others) before x y to other xs ys b c t u (inl p) (inr q) bits targets =
    let differ = rw (p.0, q.0) at bits in absurd (cc)
RowGoes-one flow (Branch at taken others) before x y to other xs ys b c t u (inr p) (inl q) bits targets =
    let differ = rw (p.0, q.0) at bits in absurd (cc)
RowGoes-one flow (Call at target) before x y to other xs ys b c t u p q bits targets = (p.0 ∙ sym q.0, p.1 ∙ sym q.1)
RowGoes-one flow (ICall at params) before x y to other xs ys b c t u p q bits targets =
    let both = rw (p.0, q.0) at targets in
    let same : to ≡ other = cc in
    (p.0 ∙ ap (λ a. moved (edges.ICall at a)) same ∙ sym q.0, same)
RowGoes-one flow (Ret at) before x y to other xs ys b c t u p q bits targets =
    let same : to ≡ other = Returns-one before to other p.1 q.1 in
    (p.0 ∙ ap (λ a. moved (edges.Ret at a)) same ∙ sym q.0, same)
RowGoes-one flow (Begin at op) before x y to other xs ys b c t u p q bits targets = absurd p
RowGoes-one flow (End at op) before x y to other xs ys b c t u p q bits targets = absurd p
RowGoes-one flow (UseCell at cell) before x y to other xs ys b c t u p q bits targets = (p.0 ∙ sym q.0, p.1 ∙ sym q.1)
RowGoes-one flow (DefCell at cell) before x y to other xs ys b c t u p q bits targets = (p.0 ∙ sym q.0, p.1 ∙ sym q.1)
RowGoes-one flow (UseAt at cell len) before x y to other xs ys b c t u p q bits targets = (p.0 ∙ sym q.0, p.1 ∙ sym q.1)
RowGoes-one flow (DefAt at cell len) before x y to other xs ys b c t u p q bits targets = (p.0 ∙ sym q.0, p.1 ∙ sym q.1)
RowGoes-one flow (Check at) before x y to other xs ys b c t u p q bits targets = (p.0 ∙ sym q.0, p.1 ∙ sym q.1)

pub Goes-one : (flow : Map) (before : List Step) (from : ℕ) (x y : Step) (to other : ℕ)
    (xs ys : List Step) (b c : List Bool) (t u : List ℕ)
    → Goes flow before from x to → Goes flow before from y other
    → bits_of (path_of (x ∷ xs)) ++ b ≡ bits_of (path_of (y ∷ ys)) ++ c
    → targets_of (path_of (x ∷ xs)) ++ t ≡ targets_of (path_of (y ∷ ys)) ++ u
    → (x ≡ y) × (to ≡ other)
Goes-one flow before from x y to other xs ys b c t u (row, at_row, goes) (row', at_row', goes') bits targets =
    let both : Some row ≡ Some row' = sym at_row ∙ at_row' in
    let same : row ≡ row' = cc in
    RowGoes-one flow row before x y to other xs ys b c t u goes (rw same goes') bits targets

cons-both : (x y : Step) (ys zs : List Step) → x ≡ y → ys ≡ zs → y ∷ ys ≡ x ∷ zs
cons-both x y ys zs same rest = cc

-- the longer of two trails with the same records goes on where the shorter one leads
abbrev pub Continues : Map → List Step → List Step → ℕ → List Step → ℕ → Type 0
Continues flow before xs to ys other =
    (rest : List Step) × (ys ≡ xs ++ rest) × Leads flow (before ++ xs) to rest other

pub Leads-continues : (flow : Map) (before : List Step) (from : ℕ) (xs ys : List Step) (to other : ℕ)
    (b c : List Bool) (t u : List ℕ)
    → Leads flow before from xs to → Leads flow before from ys other
    → bits_of (path_of xs) ++ b ≡ bits_of (path_of ys) ++ c
    → targets_of (path_of xs) ++ t ≡ targets_of (path_of ys) ++ u
    → length xs ≤ length ys → Continues flow before xs to ys other
Leads-continues flow before from [] ys to other b c t u at_once leads bits targets shorter =
    (ys, refl, rw (append-nil, ← at_once) leads)
Leads-continues flow before from (x ∷ xs) [] to other b c t u leads at_once bits targets shorter = absurd (omega arith)
Leads-continues flow before from (x ∷ xs) (y ∷ ys) to other b c t u (middle, goes, leads) (middle', goes', leads') bits targets shorter =
    let same = Goes-one flow before from x y middle middle' xs ys b c t u goes goes' bits targets in
    let bits_of_tails = bits-cancel x xs ys b c (rw (← same.0) at bits) in
    let targets_of_tails = targets-cancel x xs ys t u (rw (← same.0) at targets) in
    let tail : Leads flow (before ++ x ∷ []) middle ys other = rw (same.0, same.1) leads' in
    let on = Leads-continues flow (before ++ x ∷ []) middle xs ys to other b c t u leads tail bits_of_tails targets_of_tails (omega arith) in
    (on.0, cons-both x y ys (xs ++ on.0) same.0 on.1, rw append_assoc at on.2)

-- the records that are left behind some steps are those of the steps that follow, and what is left then
pub bits-left : (steps rest : List Step) (b c : List Bool)
    → bits_of (path_of steps) ++ b ≡ bits_of (path_of (steps ++ rest)) ++ c → b ≡ bits_of (path_of rest) ++ c
bits-left steps rest b c e =
    append_cancel_left (bits_of (path_of steps)) b (bits_of (path_of rest) ++ c)
    (e ∙ (rw (filter_map-append edge_of steps rest, filter_map-append bit_of (path_of steps) (path_of rest), append_assoc) refl))

pub targets-left : (steps rest : List Step) (b c : List ℕ)
    → targets_of (path_of steps) ++ b ≡ targets_of (path_of (steps ++ rest)) ++ c → b ≡ targets_of (path_of rest) ++ c
targets-left steps rest b c e =
    append_cancel_left (targets_of (path_of steps)) b (targets_of (path_of rest) ++ c)
    (e ∙ (rw (filter_map-append edge_of steps rest, filter_map-append target_of (path_of steps) (path_of rest), append_assoc) refl))
