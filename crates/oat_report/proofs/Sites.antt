-- In a map with the shape's names, the name of a place is that of one address, and a site is that of one row.
use Rattle.std.proofs.Common.{◌≡◌, ℕ, suc, ◌<◌, ◌⊎◌, true, false, ◌&&◌, eqb, ltb, List, [], ◌∷◌, length, map, get_or, filter, fold, count_by, Option, Some, None, refl, sym, ap, subst, ◌∙◌, inl, inr}
use Rattle.std.proofs.Common.{arith}
use Rattle.std.specs.{Prelude.Contains, Prelude.find, Prelude.nat_le, Prelude.nat_lt, Prelude.reverse, Prelude.unwrap_or, List.slice_get, List.Sorted.IsStrictlyIncreasing, Option.option_map}
use Rattle.std.specs.{Option.option_or, Option.option_and_then}
use Rattle.std.proofs.lemmas.{Bool.cases_lt, Bool.and_parts, Bool.false≢true, Bool.eqb-true, Bool.eq-eqb, Bool.ltb-true, Bool.lt-ltb, Bool.le-ltb, List.get_or_default, List.get_or-map}
use Rattle.std.proofs.lemmas.{List.length-map, List.Elements.All-contains, List.Elements.All-contains_itself, List.Elements.All-filter, List.Elements.Contains-append_left}
use Rattle.std.proofs.lemmas.{List.Elements.Contains-append_cases, List.Kept.AllPairs-from_increasing, Option.slice_get_within, Option.slice_get_read, Option.get_or_from_slice_get}
use Rattle.oat_lines.proofs.Steps.{some_is}
use Rattle.oat_verify.specs.{Row, Call, ICall, Function, Block, Map, address_of, after, is_call, is_returned_to, entries_of, starts_of, IsOrdered, PlaceName, Site, places, later_of, place_of}
use Rattle.oat_verify.specs.{function_below, place_name, is_numbered, is_same_place, is_numbered_before, site, call_site, S8, IsFunctionOf, IsPlaced, Everywhere, IsReturnSite}
use Rattle.oat_report.proofs.Listing.{count_more, found, not_found, contained_by, contains_image, one_item, last_found, none_last}

-- ---- the greatest place

later_one : (best : Option ℕ) (x p : ℕ) (xs : List ℕ) → later_of best x ≡ Some p → (best ≡ Some p) ⊎ Contains (x ∷ xs) p
later_one None x p xs is = inr (0, omega arith, some_is x p is)
later_one (Some o) x p xs is =
    let greater = some_is _ p is in
    elim (cases_lt o x) [
      | inl less ↦ let new : x ≡ p = omega arith in inr (0, omega arith, new)
      | inr not_less ↦ let old : o ≡ p = omega arith in inl (ap Some old)
    ]

greatest_among : (best : Option ℕ) (xs : List ℕ) (p : ℕ) → fold later_of best xs ≡ Some p → (best ≡ Some p) ⊎ Contains xs p
greatest_among best [] p is = inl is
greatest_among best (x ∷ xs) p is =
    elim (greatest_among (later_of best x) xs p is) [
      | inl now ↦ later_one best x p xs now
      | inr among ↦ inr (suc among.0, omega (arith, among.1), among.2)
    ]

is_place : (flow : Map) (address p : ℕ) → place_of flow address ≡ Some p → Contains (places flow) p
is_place flow address p is =
    let kept = filter (λ place. nat_le place address) (places flow) in
    elim (greatest_among None kept p is) [
      | inl none ↦ absurd cc
      | inr among ↦
          All-contains (Contains (places flow)) kept p
          (All-filter (λ place. nat_le place address) (Contains (places flow)) (places flow) (All-contains_itself (places flow))) among
    ]

-- ---- names of places

abbrev name_of_entry : Function → PlaceName
name_of_entry function = record { function = function.name; block = None }

abbrev name_of_block : Map → ℕ → Block → PlaceName
name_of_block flow place block = record { function = function_below flow place; block = Some block.label }

abbrev pub IsNamed : Map → ℕ → PlaceName → Type 0
IsNamed flow p name =
    ((f : Function) × Contains flow.functions f × (f.entry ≡ p) × (name ≡ name_of_entry f))
    ⊎ ((b : Block) × Contains flow.blocks b × (b.start ≡ p) × (name ≡ name_of_block flow p b))

named_from : (flow : Map) (p : ℕ) (name : PlaceName) (function : Option Function) (block : Option Block)
    → find (λ f. eqb f.entry p) flow.functions ≡ function → find (λ b. eqb b.start p) flow.blocks ≡ block
    → option_or (option_map name_of_entry function) (option_map (name_of_block flow p) block) ≡ Some name → IsNamed flow p name
named_from flow p name (Some f) block is_f is_b is =
    let at = found (λ g. eqb g.entry p) flow.functions f is_f in
    inl (f, at.0, eqb-true f.entry p at.1, sym (some_is (name_of_entry f) name is))
named_from flow p name None (Some b) is_f is_b is =
    let at = found (λ c. eqb c.start p) flow.blocks b is_b in
    inr (b, at.0, eqb-true b.start p at.1, sym (some_is (name_of_block flow p b) name is))
named_from flow p name None None is_f is_b is = absurd cc

pub named_by : (flow : Map) (p : ℕ) (name : PlaceName) → place_name flow p ≡ Some name → IsNamed flow p name
named_by flow p name is = named_from flow p name _ _ refl refl is

has_name : (flow : Map) (p : ℕ) (function : Option Function) (block : Option Block)
    → find (λ f. eqb f.entry p) flow.functions ≡ function → find (λ b. eqb b.start p) flow.blocks ≡ block → Contains (places flow) p
    → (name : PlaceName) × (option_or (option_map name_of_entry function) (option_map (name_of_block flow p) block) ≡ Some name)
has_name flow p (Some f) block is_f is_b place = (name_of_entry f, refl)
has_name flow p None (Some b) is_f is_b place = (name_of_block flow p b, refl)
has_name flow p None None is_f is_b place =
    elim (Contains-append_cases (entries_of flow.functions) (starts_of flow.blocks) p place) [
      | inl entry ↦
          let f = contained_by (λ (g : Function). g.entry) flow.functions p entry in
          absurd (not_found (λ g. eqb g.entry p) flow.functions f.0 is_f f.1 (eq-eqb f.0.entry p f.2))
      | inr start ↦
          let b = contained_by (λ (c : Block). c.start) flow.blocks p start in
          absurd (not_found (λ c. eqb c.start p) flow.blocks b.0 is_b b.1 (eq-eqb b.0.start p b.2))
    ]

pub place_has_name : (flow : Map) (p : ℕ) → Contains (places flow) p → (name : PlaceName) × (place_name flow p ≡ Some name)
place_has_name flow p place = has_name flow p _ _ refl refl place

pub entry_is_place : (flow : Map) (f : Function) → Contains flow.functions f → Contains (places flow) f.entry
entry_is_place flow f has =
    Contains-append_left (entries_of flow.functions) (starts_of flow.blocks) f.entry (contains_image (λ (g : Function). g.entry) flow.functions f has)

-- ---- the function of a place

below_from : (flow : Map) (place : ℕ) (function : Option Function) → IsStrictlyIncreasing (entries_of flow.functions)
    → find (λ f. nat_lt f.entry place) (reverse flow.functions) ≡ function
    → (entry : ℕ) × Contains (entries_of flow.functions) entry × (entry < place)
    → (f : Function) × IsFunctionOf flow place f × (unwrap_or (option_map (λ g. g.name) function) [] ≡ f.name)
below_from flow place None rises none (entry, has, below) =
    let f = contained_by (λ (g : Function). g.entry) flow.functions entry has in
    absurd (none_last (λ g. nat_lt g.entry place) flow.functions f.0 none f.1 (lt-ltb f.0.entry place (rw f.2 below)))
below_from flow place (Some f) rises is above =
    let last = last_found (λ g. nat_lt g.entry place) flow.functions f is in (
      f,
      record {
        has = (last.0, last.1, last.2);
        below = ltb-true f.entry place last.3;
        greatest = λ g (i, within, item) below.
            elim (cases_lt last.0 i) [
              | inl later ↦ absurd (false≢true (sym (last.4 i g later within item) ∙ lt-ltb g.entry place below))
              | inr not_later ↦
                  elim (cases_lt i last.0) [
                    | inl before ↦
                        let pair = AllPairs-from_increasing (entries_of flow.functions) rises i last.0 0 before (rw length-map last.1) in
                        let low = get_or-map (λ (h : Function). h.entry) flow.functions i g 0 within ∙ ap (λ (h : Function). h.entry) item in
                        let high = get_or-map (λ (h : Function). h.entry) flow.functions last.0 f 0 last.1 ∙ ap (λ (h : Function). h.entry) last.2 in
                        omega arith
                    | inr not_before ↦
                        let same : i ≡ last.0 = omega arith in
                        let one : g ≡ f = sym item ∙ get_or_default flow.functions i g f within ∙ ap (λ j. get_or flow.functions j f) same ∙ last.2 in
                        let equal = ap (λ (h : Function). h.entry) one in
                        omega arith
                  ]
            ];
      },
      refl,
    )

-- ---- in a map whose rows and entries rise, and whose names are those of the shape

module _ (flow : Map) (rises : IsStrictlyIncreasing (entries_of flow.functions)) (names : Everywhere (S8 flow)) (ordered : IsOrdered flow.rows) where
  one_function : (f g : Function) → Contains flow.functions f → Contains flow.functions g → f.name ≡ g.name → f ≡ g
  one_function f g has_f has_g same =
      one_item flow.functions f g has_f has_g
      (λ j k less at_f at_g. (names g.entry).functions k g at_g refl j f less at_f same)
      (λ j k less at_g at_f. (names f.entry).functions k f at_f refl j g less at_g (sym same))

  placed : (k : ℕ) (b : Block) → slice_get flow.blocks k ≡ Some b → IsPlaced flow k b
  placed k b at = (names b.start).blocks k b at refl

  function_of : (b : Block) → Contains flow.blocks b → (f : Function) × IsFunctionOf flow b.start f × (function_below flow b.start ≡ f.name)
  function_of b (k, within, is) =
      below_from flow b.start _ rises refl (placed k b (slice_get_read flow.blocks (length flow.blocks) k b refl within (sym is))).above

  one_block : (b c : Block) → Contains flow.blocks b → Contains flow.blocks c
      → function_below flow b.start ≡ function_below flow c.start → b.label ≡ c.label → b ≡ c
  one_block b c has_b has_c same label =
      let f = function_of b has_b in
      let g = function_of c has_c in
      let one = one_function f.0 g.0 f.1.has g.1.has (sym f.2 ∙ same ∙ g.2) in
      let of_c : IsFunctionOf flow c.start f.0 = subst (IsFunctionOf flow c.start) (sym one) g.1 in
      one_item flow.blocks b c has_b has_c
      (λ j k less at_b at_c. (placed k c at_c).label j b f.0 less at_b label f.1 of_c)
      (λ j k less at_c at_b. (placed k b at_b).label j c f.0 less at_c (sym label) of_c f.1)

  one_place : (p q : ℕ) (name : PlaceName) → IsNamed flow p name → IsNamed flow q name → p ≡ q
  one_place p q name (inl (f, has_f, at_f, is_f)) (inl (g, has_g, at_g, is_g)) =
      let same = one_function f g has_f has_g (ap (λ (n : PlaceName). n.function) (sym is_f ∙ is_g)) in
      sym at_f ∙ ap (λ (h : Function). h.entry) same ∙ at_g
  one_place p q name (inl (f, has_f, at_f, is_f)) (inr (c, has_c, at_c, is_c)) =
      let differ : Path (Option (List ℕ)) None (Some c.label) = ap (λ (n : PlaceName). n.block) (sym is_f ∙ is_c) in absurd cc
  one_place p q name (inr (b, has_b, at_b, is_b)) (inl (g, has_g, at_g, is_g)) =
      let differ : Path (Option (List ℕ)) (Some b.label) None = ap (λ (n : PlaceName). n.block) (sym is_b ∙ is_g) in absurd cc
  one_place p q name (inr (b, has_b, at_b, is_b)) (inr (c, has_c, at_c, is_c)) =
      let function = ap (λ (n : PlaceName). n.function) (sym is_b ∙ is_c) in
      let label = some_is b.label c.label (ap (λ (n : PlaceName). n.block) (sym is_b ∙ is_c)) in
      let same = one_block b c has_b has_c (ap (function_below flow) at_b ∙ function ∙ ap (function_below flow) (sym at_c)) label in
      sym at_b ∙ ap (λ (d : Block). d.start) same ∙ at_c

  pub one_named : (p q : ℕ) → Contains (places flow) p → Contains (places flow) q → place_name flow p ≡ place_name flow q → p ≡ q
  one_named p q place other same =
      let name = place_has_name flow p place in
      one_place p q name.0 (named_by flow p name.0 name.1) (named_by flow q name.0 (sym same ∙ name.1))

  -- ---- sites

  one_place_of : (a b : ℕ) (p q : Option ℕ) → place_of flow a ≡ p → place_of flow b ≡ q
      → option_and_then (place_name flow) p ≡ option_and_then (place_name flow) q → p ≡ q
  one_place_of a b None None is_p is_q same = refl
  one_place_of a b None (Some q) is_p is_q same =
      let name = place_has_name flow q (is_place flow b q is_q) in
      let differ = same ∙ name.1 in absurd cc
  one_place_of a b (Some p) None is_p is_q same =
      let name = place_has_name flow p (is_place flow a p is_p) in
      let differ = sym same ∙ name.1 in absurd cc
  one_place_of a b (Some p) (Some q) is_p is_q same = ap Some (one_named p q (is_place flow a p is_p) (is_place flow b q is_q) same)

  same_itself : (place : Option ℕ) → is_same_place place place ≡ true
  same_itself None = refl
  same_itself (Some place) = eq-eqb place place refl

  -- of two rows of one place, the higher one has more before it
  number_rises : (r s : Row) → Contains flow.rows r → is_numbered r ≡ true → place_of flow (address_of r) ≡ place_of flow (address_of s)
      → address_of r < address_of s
      → count_by (is_numbered_before flow (address_of r)) flow.rows < count_by (is_numbered_before flow (address_of s)) flow.rows
  number_rises r s (k, within, is) numbered same less =
      let self : ltb (address_of r) (address_of r) ≡ false = le-ltb (address_of r) (address_of r) (omega arith) in
      count_more (is_numbered_before flow (address_of r)) (is_numbered_before flow (address_of s))
      (λ row before.
      let outer = and_parts (is_numbered row && ltb (address_of row) (address_of r)) _ before in
      let inner = and_parts (is_numbered row) _ outer.0 in
      let low = ltb-true (address_of row) (address_of r) inner.1 in
      rw (inner.0, lt-ltb (address_of row) (address_of s) (omega arith), ← same) outer.1)
      flow.rows k r within is
      (rw (numbered, self) refl)
      (rw (numbered, lt-ltb (address_of r) (address_of s) less, same) (same_itself (place_of flow (address_of s))))

  one_row : (r s : Row) → Contains flow.rows r → Contains flow.rows s → address_of r ≡ address_of s → r ≡ s
  one_row r s has_r has_s same =
      one_item flow.rows r s has_r has_s (λ j k less at_r at_s. apart j k r s less at_r at_s same) (λ j k less at_s at_r. apart j k s r less at_s at_r (sym same))
    where
      apart : (j k : ℕ) (x y : Row) → j < k → slice_get flow.rows j ≡ Some x → slice_get flow.rows k ≡ Some y → address_of x ≡ address_of y → ⊥
      apart j k x y less at_x at_y equal =
          let within_x = slice_get_within flow.rows j x at_x in
          let within_y = slice_get_within flow.rows k y at_y in
          let pair = AllPairs-from_increasing (map address_of flow.rows) ordered j k 0 less (rw length-map within_y) in
          let low = get_or-map address_of flow.rows j x 0 within_x ∙ ap address_of (get_or_from_slice_get flow.rows j x x at_x) in
          let high = get_or-map address_of flow.rows k y 0 within_y ∙ ap address_of (get_or_from_slice_get flow.rows k y y at_y) in
          omega arith

  pub row_of_site : (r s : Row) → Contains flow.rows r → Contains flow.rows s → is_numbered r ≡ true → is_numbered s ≡ true
      → site flow (address_of r) ≡ site flow (address_of s) → r ≡ s
  row_of_site r s has_r has_s numbered_r numbered_s same =
      let place = one_place_of (address_of r) (address_of s) _ _ refl refl (ap (λ (t : Site). t.place) same) in
      let number = ap (λ (t : Site). t.number) same in
      elim (cases_lt (address_of r) (address_of s)) [
        | inl less ↦ let more = number_rises r s has_r numbered_r place less in absurd (omega arith)
        | inr not_less ↦
            elim (cases_lt (address_of s) (address_of r)) [
              | inl less ↦ let more = number_rises s r has_s numbered_s (sym place) less in absurd (omega arith)
              | inr not_more ↦ one_row r s has_r has_s (omega arith)
            ]
      ]

  -- ---- the call that a return site is named by

  call_numbered : (row : Row) → is_call row ≡ true → is_numbered row ≡ true
  call_numbered (Call at to) call = refl
  call_numbered (ICall at params) call = refl
  call_numbered row call = absurd (false≢true call)

  -- the site of a return is that of a call that is returned to there
  abbrev IsCallBack : ℕ → Type 0
  IsCallBack to = (call : Row) × Contains flow.rows call × (is_numbered call ≡ true) × (after call ≡ to) × (call_site flow to ≡ site flow (address_of call))

  call_back : (to : ℕ) → IsReturnSite flow.rows to → IsCallBack to
  call_back to (row, has, call, back) = from (find (is_returned_to to) flow.rows) refl
    where
      from : (o : Option Row) → find (is_returned_to to) flow.rows ≡ o → IsCallBack to
      from None none = absurd (not_found (is_returned_to to) flow.rows row none has (rw call (eq-eqb (after row) to back)))
      from (Some c) is =
          let at = found (is_returned_to to) flow.rows c is in
          let parts = and_parts (is_call c) (eqb (after c) to) at.1 in
          (c, at.0, call_numbered c parts.0, eqb-true (after c) to parts.1, rw is refl)

  pub one_return_site : (to other : ℕ) → IsReturnSite flow.rows to → IsReturnSite flow.rows other → call_site flow to ≡ call_site flow other → to ≡ other
  one_return_site to other back back' same =
      let c = call_back to back in
      let d = call_back other back' in
      let row = row_of_site c.0 d.0 c.1 d.1 c.2 d.2 (sym c.4 ∙ same ∙ d.4) in
      sym c.3 ∙ ap after row ∙ d.3
