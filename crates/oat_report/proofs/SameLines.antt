-- Edges of a map with one line are the same edge, and the edges of walks are edges of their map.
use Rattle.std.proofs.Common.{◌≡◌, ℕ, ◌<◌, ◌^◌, true, not, ◌&&◌, ltb, List, [], ◌∷◌, ◌++◌, length, map, get_or, Option, Some, None, refl, sym, ap, subst, ◌∙◌, inl, inr, append_assoc, append-nil}
use Rattle.std.proofs.Common.{arith}
use Rattle.std.specs.{Prelude.All, Prelude.Contains, Prelude.find, Prelude.nat_lt, Prelude.reverse, Prelude.unwrap_or, List.slice_get, List.list_all, Char.is_ascii_digit, Option.option_map}
use Rattle.std.specs.{Option.option_and_then}
use Rattle.std.proofs.lemmas.{Bool.and_parts, Bool.eqb-true, Bool.false≢true, List.Elements.All-contains, List.Elements.All-from_recursion, List.Elements.All-nil, List.Elements.All-cons}
use Rattle.std.proofs.lemmas.{List.Elements.All-head, List.Elements.All-tail, List.Elements.All-push, List.Sums.count_by-le-length, Option.slice_get_within, Option.get_or_from_slice_get}
use Rattle.oat_lines.proofs.Steps.{some_is}
use Rattle.oat_map.proofs.NameTests.{test_from_name}
use Rattle.oat_shape.proofs.Laid.{laid}
use Rattle.oat_ir.specs.{End}
use Rattle.oat_verify.specs.{IsName, is_name_byte, Row, Jump, Branch, Call, ICall, Ret, Begin, UseCell, DefCell, UseAt, DefAt, Check, Edge, Function, Block, Map, address_of, after, begins, start}
use Rattle.oat_verify.specs.{IsOperation, PlaceName, places, place_of, function_below, place_name, is_numbered, is_numbered_before, site, call_site, name_of, Step, passed, moved, path_of}
use Rattle.oat_verify.specs.{return_site_of, Returns, RowGoes, Leads, Image, IsWellFormedImage, IsFunction, IsBlock, IsRow, IsReturnSite}
use Rattle.oat_report.specs.{PathLine.edge_line, SameLines.BeginsShort, SameLines.IsEdgeOf, SameLines.WalksTakeEdges, SameLines.IsOfMapType, SameLines.IsToldByLines, SameLines.ShapedMapsAreTold}
use Rattle.oat_report.specs.{SameLines.OneEdgeALine, SameLines.OnePathOfLines}
use Rattle.oat_report.proofs.{Splitting.IsWord, Splitting.IsPlaceWord, Splitting.IsSiteWord, Splitting.IsNameWord, Splitting.one_name, Listing.found, Listing.last_found, Sites.IsNamed, Sites.named_by}
use Rattle.oat_report.proofs.{Sites.entry_is_place, Sites.one_named, Sites.row_of_site, Sites.one_return_site}
use Rattle.oat_map.specs.declared.edge.Edge.TheVariants as edges

-- ---- names have the bytes of names

word_of : (text : List ℕ) → IsName text → IsWord text
word_of text name =
    let a = and_parts (ltb 0 (length text) && ltb (length text) 33 && list_all is_name_byte text) (not (is_ascii_digit (get_or text 0 0))) (test_from_name text name) in
    (and_parts (ltb 0 (length text) && ltb (length text) 33) (list_all is_name_byte text) a.0).1

module _ (flow : Map) (typed : IsOfMapType flow) where
  pub function_named : (f : Function) → Contains flow.functions f → IsName f.name
  function_named f has = All-contains (λ (g : Function). IsName g.name) flow.functions f typed.names has

  below_word : (place : ℕ) → IsWord (function_below flow place)
  below_word place = from (find (λ f. nat_lt f.entry place) (reverse flow.functions)) refl
    where
      from : (o : Option Function) → find (λ f. nat_lt f.entry place) (reverse flow.functions) ≡ o → IsWord (unwrap_or (option_map (λ f. f.name) o) [])
      from None is = refl
      from (Some f) is = let last = last_found (λ g. nat_lt g.entry place) flow.functions f is in word_of f.name (function_named f (last.0, last.1, last.2))

  pub place_word : (place : ℕ) → IsPlaceWord (place_name flow place)
  place_word place = from (place_name flow place) refl
    where
      word : (name : PlaceName) → IsNamed flow place name → IsPlaceWord (Some name)
      word name (inl (f, has, at, is)) =
          subst (λ (n : PlaceName). IsPlaceWord (Some n)) (sym is) (word_of f.name (function_named f has), tt)
      word name (inr (b, has, at, is)) =
          subst (λ (n : PlaceName). IsPlaceWord (Some n)) (sym is)
          (below_word place, word_of b.label (All-contains (λ (c : Block). IsName c.label) flow.blocks b typed.labels has))

      from : (o : Option PlaceName) → place_name flow place ≡ o → IsPlaceWord o
      from None is = tt
      from (Some name) is = word name (named_by flow place name is)

  found_word : (place : Option ℕ) → IsPlaceWord (option_and_then (place_name flow) place)
  found_word None = tt
  found_word (Some place) = place_word place

  pub site_word : (address : ℕ) → IsSiteWord (site flow address)
  site_word address =
      let few = typed.counted in
      (found_word (place_of flow address), omega (arith, few, count_by-le-length (is_numbered_before flow address) flow.rows))

  pub name_word : (edge : Edge) → IsEdgeOf flow edge → IsNameWord (name_of flow edge)
  name_word (edges.Jump from to) is = (site_word from, place_word to)
  name_word (edges.Branch from bit to) is = (site_word from, place_word to)
  name_word (edges.Call from to) is = (site_word from, place_word to)
  name_word (edges.ICall from to) is = (site_word from, place_word to)
  name_word (edges.Ret from to) is = (site_word from, site_word _)
  name_word (edges.End op) (at, begun) = let low : op < 2 ^ 16 = All-contains BeginsShort flow.rows (Begin at op) typed.operations begun in omega (arith, low)
  name_word (edges.Stray from to) is = is

-- ---- edges by their names

module _ (flow : Map) (told : IsToldByLines flow) where
  same_row : (r s : Row) → Contains flow.rows r → Contains flow.rows s → is_numbered r ≡ true → is_numbered s ≡ true
      → site flow (address_of r) ≡ site flow (address_of s) → r ≡ s
  same_row = row_of_site flow told.functions_rise told.named told.rows_rise

  edge_of_name : (edge other : Edge) → IsEdgeOf flow edge → IsEdgeOf flow other → name_of flow edge ≡ name_of flow other → edge ≡ other
  edge_of_name (edges.Jump a t) (edges.Jump b u) is others same =
      let sites : site flow a ≡ site flow b = cc in
      let row = same_row (Jump a t) (Jump b u) is others refl refl sites in cc
  edge_of_name (edges.Branch a x t) (edges.Branch b y u) (taken, other, has, to) (taken', other', has', to') same =
      let sites : site flow a ≡ site flow b = cc in
      let bits : x ≡ y = cc in
      let row = same_row (Branch a taken other) (Branch b taken' other') has has' refl refl sites in cc
  edge_of_name (edges.Call a t) (edges.Call b u) is others same =
      let sites : site flow a ≡ site flow b = cc in
      let row = same_row (Call a t) (Call b u) is others refl refl sites in cc
  edge_of_name (edges.ICall a t) (edges.ICall b u) (n, has, target) (m, has', target') same =
      let sites : site flow a ≡ site flow b = cc in
      let names : place_name flow t ≡ place_name flow u = cc in
      let row = same_row (ICall a n) (ICall b m) has has' refl refl sites in
      let to = one_named flow told.functions_rise told.named told.rows_rise t u
      (subst (Contains (places flow)) target.entry (entry_is_place flow target.function target.among))
      (subst (Contains (places flow)) target'.entry (entry_is_place flow target'.function target'.among)) names in
      cc
  edge_of_name (edges.Ret a t) (edges.Ret b u) (has, back) (has', back') same =
      let sites : site flow a ≡ site flow b = cc in
      let calls : call_site flow t ≡ call_site flow u = cc in
      let row = same_row (Ret a) (Ret b) has has' refl refl sites in
      let to = one_return_site flow told.functions_rise told.named told.rows_rise t u back back' calls in
      cc
  edge_of_name (edges.End op) (edges.End other) is others same = cc
  edge_of_name (edges.Stray from to) (edges.Stray other there) is others same = cc
  edge_of_name edge other is others same = absurd cc

pub one_edge_a_line : OneEdgeALine
one_edge_a_line flow edge other told is others same =
    edge_of_name flow told edge other is others
    (one_name (name_of flow edge) (name_of flow other) (name_word flow told.typed edge is) (name_word flow told.typed other others) same)

-- ---- the map of an image

begins_short : (row : Row) → IsRow row → BeginsShort row
begins_short (Begin at op) fits = let high = fits.1.1 in omega (arith, high)
begins_short row fits = tt

pub typed_of : (image : Image) → IsWellFormedImage image → IsOfMapType image.map
typed_of image formed = record {
  names = λ k d below. (All-from_recursion IsFunction image.map.functions formed.functions.each k d below).name;
  labels = λ k d below. (All-from_recursion IsBlock image.map.blocks formed.blocks.each k d below).label;
  operations = λ k d below. begins_short (get_or image.map.rows k d) (All-from_recursion IsRow image.map.rows formed.rows.each k d below);
  counted = let few = formed.rows.limited in omega (arith, few);
}

pub shaped_maps_are_told : ShapedMapsAreTold
shaped_maps_are_told image formed shaped = record {
  typed = typed_of image formed;
  rows_rise = (laid image formed shaped).ordered;
  functions_rise = formed.functions_rise;
  named = shaped.named;
}

-- ---- edges of walks

abbrev IsStepOf : Map → Step → Type 0
IsStepOf flow passed = Unit {0}
IsStepOf flow (moved edge) = IsEdgeOf flow edge

calls_back : (flow : Map) (step : Step) (back : ℕ) → IsStepOf flow step → return_site_of step ≡ Some back → IsReturnSite flow.rows back
calls_back flow (moved (edges.Call from to)) back is site = (Call from to, is, refl, some_is _ back site)
calls_back flow (moved (edges.ICall from to)) back (params, has, target) site = (ICall from params, has, refl, some_is _ back site)
calls_back flow step back is site = absurd cc

-- a call that was made behind these steps is that of a row
returned : (flow : Map) (before : List Step) (to : ℕ) → All (IsStepOf flow) before → Returns before to → IsReturnSite flow.rows to
returned flow before to taken returns = from (slice_get before returns.place) refl returns.matching.call
  where
    from : (o : Option Step) → slice_get before returns.place ≡ o → option_and_then return_site_of o ≡ Some to → IsReturnSite flow.rows to
    from None at site = absurd cc
    from (Some step) at site =
        let read = get_or_from_slice_get before returns.place step step at in
        calls_back flow step to (subst (IsStepOf flow) read (taken returns.place step (slice_get_within before returns.place step at))) site

row_goes : (flow : Map) (row : Row) (before : List Step) (step : Step) (to : ℕ) → Contains flow.rows row → All (IsStepOf flow) before
    → RowGoes flow row before step to → IsStepOf flow step
row_goes flow (Jump at target) before step to has taken goes = subst (IsStepOf flow) (sym goes.0) has
row_goes flow (Branch at one other) before step to has taken (inl goes) = subst (IsStepOf flow) (sym goes.0) (one, other, has, refl)
row_goes flow (Branch at one other) before step to has taken (inr goes) = subst (IsStepOf flow) (sym goes.0) (one, other, has, refl)
row_goes flow (Call at target) before step to has taken goes = subst (IsStepOf flow) (sym goes.0) has
row_goes flow (ICall at params) before step to has taken goes = subst (IsStepOf flow) (sym goes.0) (params, has, goes.1)
row_goes flow (Ret at) before step to has taken goes = subst (IsStepOf flow) (sym goes.0) (has, returned flow before to taken goes.1)
row_goes flow (Begin at op) before step to has taken goes = absurd goes
row_goes flow (End at op) before step to has taken goes = absurd goes
row_goes flow (UseCell at cell) before step to has taken goes = subst (IsStepOf flow) (sym goes.0) tt
row_goes flow (DefCell at cell) before step to has taken goes = subst (IsStepOf flow) (sym goes.0) tt
row_goes flow (UseAt at cell len) before step to has taken goes = subst (IsStepOf flow) (sym goes.0) tt
row_goes flow (DefAt at cell len) before step to has taken goes = subst (IsStepOf flow) (sym goes.0) tt
row_goes flow (Check at) before step to has taken goes = subst (IsStepOf flow) (sym goes.0) tt

leads : (flow : Map) (before : List Step) (from : ℕ) (steps : List Step) (to : ℕ) → All (IsStepOf flow) before
    → Leads flow before from steps to → All (IsStepOf flow) (before ++ steps)
leads flow before from [] to taken way = rw append-nil taken
leads flow before from (step ∷ steps) to taken (middle, (row, is_next, goes), rest) =
    let has = (found _ flow.rows row is_next).0 in
    let one = row_goes flow row before step middle has taken goes in
    let more = leads flow (before ++ step ∷ []) middle steps to (All-push (IsStepOf flow) before step taken one) rest in
    rw append_assoc at more

edges_of : (flow : Map) (steps : List Step) → All (IsStepOf flow) steps → All (IsEdgeOf flow) (path_of steps)
edges_of flow [] taken = All-nil (IsEdgeOf flow)
edges_of flow (passed ∷ steps) taken = edges_of flow steps (All-tail (IsStepOf flow) passed steps taken)
edges_of flow (moved edge ∷ steps) taken =
    All-cons (IsEdgeOf flow) edge (path_of steps) (All-head (IsStepOf flow) (moved edge) steps taken)
    (edges_of flow steps (All-tail (IsStepOf flow) (moved edge) steps taken))

begin_of : (op : ℕ) (row : Row) → begins op row ≡ true → (at : ℕ) × (row ≡ Begin at op)
begin_of op (Begin at other) passes = (at, ap (λ (o : ℕ). Begin at o) (eqb-true other op passes))
begin_of op row passes = absurd (false≢true passes)

-- an operation that starts somewhere is one of the map
operation_of : (flow : Map) (op from : ℕ) → start flow.rows op ≡ Some from → IsOperation flow op
operation_of flow op from starts = by (find (begins op) flow.rows) refl starts
  where
    by : (o : Option Row) → find (begins op) flow.rows ≡ o → option_map after o ≡ Some from → IsOperation flow op
    by None none starts = absurd cc
    by (Some row) is starts =
        let at = found (begins op) flow.rows row is in
        let begin = begin_of op row at.1 in
        (begin.0, subst (Contains flow.rows) begin.1 at.0)

pub walks_take_edges : WalksTakeEdges
walks_take_edges flow op steps walk =
    let way = walk.partial in
    let front = leads flow [] way.from walk.front walk.place (All-nil (IsStepOf flow)) way.leads in
    rw walk.whole
    (edges_of flow (walk.front ++ moved (edges.End op) ∷ [])
    (All-push (IsStepOf flow) walk.front (moved (edges.End op)) front (operation_of flow op way.from way.starts)))

-- ---- paths

pub one_path_of_lines : OnePathOfLines
one_path_of_lines flow [] [] told is others same = refl
one_path_of_lines flow [] (e ∷ other) told is others same = absurd (let count : Path ℕ 0 (length (map (edge_line flow) (e ∷ other))) = ap length same in omega arith)
one_path_of_lines flow (e ∷ path) [] told is others same = absurd (let count : Path ℕ (length (map (edge_line flow) (e ∷ path))) 0 = ap length same in omega arith)
one_path_of_lines flow (e ∷ path) (d ∷ other) told is others same =
    let parts = cons_parts (edge_line flow e) (edge_line flow d) (map (edge_line flow) path) (map (edge_line flow) other) same in
    let edge = one_edge_a_line flow e d told (All-head (IsEdgeOf flow) e path is) (All-head (IsEdgeOf flow) d other others) parts.0 in
    let rest = one_path_of_lines flow path other told (All-tail (IsEdgeOf flow) e path is) (All-tail (IsEdgeOf flow) d other others) parts.1 in
    ap (λ (x : Edge). x ∷ path) edge ∙ ap (λ (xs : List Edge). d ∷ xs) rest
  where
    cons_parts : {X : Type 0} (x y : X) (xs ys : List X) → x ∷ xs ≡ y ∷ ys → (x ≡ y) × (xs ≡ ys)
    cons_parts x y xs ys equal = (cc, cc)
