-- The sites of a built image have the names that the program's source has.
use Rattle.std.proofs.Common.{◌≡◌, ℕ, zero, suc, ◌+◌, ◌-◌, ◌*◌, ◌<◌, Bool, true, false, cond, List, [], ◌∷◌, ◌++◌, length, take, drop, refl, sym, ap, ◌∙◌, subst, Option, Some, arith, append_assoc}
use Rattle.std.proofs.Common.{inl, inr}
use Rattle.std.specs.Prelude.{slice_get, Contains, count_by, nat_eq, nat_lt}
use Rattle.std.proofs.lemmas.{Bool.cases_lt, Bool.eq-eqb, Bool.ne_eqb, Bool.lt-ltb, Bool.le-ltb, List.length-take-le, List.Elements.Contains-append_left}
use Rattle.oat_asm.proofs.Giving.{get_right}
use Rattle.oat_parts.specs.{code_base, PlaceName, Site, place_name, site, Item, address, Symbols.FunctionSymbol, Symbols.IsSymbolTable, Parts.AreInParts, Built.built_address, Built.built_map}
use Rattle.oat_parts.specs.{Making.FunctionCode, Making.blocks_code, Making.code_from, Making.words_become, Making.IsStretch, Making.AreCodes}
use Rattle.oat_parts.proofs.{Lists.get_before, Lists.all_get, Assembling.none_labelled, Making.codes_are_in_parts}
use Rattle.oat_check.specs.{Func, Naming.source_block_name}
use Rattle.oat_symbols.specs.{Programs.symbol_for, Programs.all_symbols, Programs.label_of_block, Programs.with_first, Programs.main_at, Programs.symbols_of, Codes.codes_from, Codes.codes_of}
use Rattle.oat_symbols.specs.{Codes.IsCodeOf, Codes.items_for, Names.HasSourceNames, Names.is_site_item, Names.SitesAreNamedBySource}
use Rattle.oat_symbols.proofs.{Programs.programs_have_symbols, Programs.main_within, Programs.symbols_many, Programs.split_at, Codes.codes_are_of_the_program, Sites.sites_are_counted, Sites.label_at}
use Rattle.oat_symbols.proofs.{SourceNames.own_symbol, SourceNames.places_are_named}
use Rattle.oat_asm.specs.declared.item.Item.TheVariants as item

-- ---- a block among the items

-- items, of which these stand behind a label
record Split (whole : List Item) (l : ℕ) (body : List Item) : Type 0 where
  before : List Item
  behind : List Item
  is : whole ≡ before ++ item.Label l ∷ (body ++ behind)

split_behind : (front whole : List Item) (l : ℕ) (body : List Item) → Split whole l body → Split (front ++ whole) l body
split_behind front whole l body s = record {
  before = front ++ s.before;
  behind = s.behind;
  is = ap (λ (zs : List Item). front ++ zs) s.is ∙ sym (append_assoc front s.before (item.Label l ∷ (body ++ s.behind)));
}

split_before : (whole rest : List Item) (l : ℕ) (body : List Item) → Split whole l body → Split (whole ++ rest) l body
split_before whole rest l body s = record {
  before = s.before;
  behind = s.behind ++ rest;
  is = ap (λ (zs : List Item). zs ++ rest) s.is ∙ append_assoc s.before (item.Label l ∷ (body ++ s.behind)) rest
      ∙ ap (λ (zs : List Item). s.before ++ item.Label l ∷ zs) (append_assoc body s.behind rest);
}

split_blocks : (n b : ℕ) (bs : List (List Item)) (body : List Item) → slice_get bs b ≡ Some body → Split (blocks_code n bs) (n + b) body
split_blocks n b [] body at = absurd cc
split_blocks n zero (x ∷ bs) body at =
    let same : x ≡ body = cc in
    let number : n ≡ n + 0 = omega arith in
    record {
      before = [];
      behind = blocks_code (n + 1) bs;
      is = ap (λ (zs : List Item). item.Label n ∷ (zs ++ blocks_code (n + 1) bs)) same ∙ ap (λ (k : ℕ). item.Label k ∷ (body ++ blocks_code (n + 1) bs)) number;
    }
split_blocks n (suc b) (x ∷ bs) body at =
    let number : n + 1 + b ≡ n + suc b = omega arith in
    subst (λ (k : ℕ). Split (blocks_code n (x ∷ bs)) k body) number
    (split_behind (item.Label n ∷ x) (blocks_code (n + 1) bs) (n + 1 + b) body (split_blocks (n + 1) b bs body at))

split_code : (es : List FunctionSymbol) (cs : List FunctionCode) (k b : ℕ) (e : FunctionSymbol) (c : FunctionCode) (body : List Item) → slice_get es k ≡ Some e → slice_get cs k ≡ Some c
    → slice_get c.blocks b ≡ Some body → Split (code_from es cs) (e.first + b) body
split_code [] cs k b e c body one two at = absurd cc
split_code (d ∷ es) [] k b e c body one two at = absurd cc
split_code (d ∷ es) (x ∷ cs) zero b e c body one two at =
    let same_e : d ≡ e = cc in
    let same_c : c ≡ x = cc in
    let has = subst (λ (y : FunctionCode). slice_get y.blocks b ≡ Some body) same_c at in
    subst (λ (y : FunctionSymbol). Split (code_from (d ∷ es) (x ∷ cs)) (y.first + b) body) same_e
    (split_behind (item.Label d.label ∷ x.prologue) (blocks_code d.first x.blocks ++ code_from es cs) (d.first + b) body
    (split_before (blocks_code d.first x.blocks) (code_from es cs) (d.first + b) body (split_blocks d.first b x.blocks body has)))
split_code (d ∷ es) (x ∷ cs) (suc k) b e c body one two at =
    split_behind (item.Label d.label ∷ x.prologue) (blocks_code d.first x.blocks ++ code_from es cs) (e.first + b) body
    (split_behind (blocks_code d.first x.blocks) (code_from es cs) (e.first + b) body (split_code es cs k b e c body one two at))

-- ---- a function and its code

-- where element f stands once the one at m is first
moved : ℕ → ℕ → ℕ
moved m f = cond (nat_eq f m) 0 (cond (nat_lt f m) (suc f) f)

moved_is : (m f k : ℕ) (b c : Bool) → nat_eq f m ≡ b → nat_lt f m ≡ c → cond b 0 (cond c (suc f) f) ≡ k → moved m f ≡ k
unfolding moved
moved_is m f k b c e d is = ap (λ (x : Bool). cond x 0 (cond (nat_lt f m) (suc f) f)) e ∙ ap (λ (x : Bool). cond b 0 (cond x (suc f) f)) d ∙ is

picked : {X : Type 0} (front back : List X) (y x : X) (f : ℕ) → slice_get (front ++ y ∷ back) f ≡ Some x → slice_get (y ∷ (front ++ back)) (moved (length front) f) ≡ Some x
picked front back y x f at =
    let n = length front in
    let all = y ∷ (front ++ back) in
    elim (cases_lt f n) [
      | inl less ↦
          ap (slice_get all) (moved_is n f (suc f) false true (ne_eqb f n (λ e. absurd (omega arith))) (lt-ltb f n less) refl)
          ∙ get_before front back f less ∙ sym (get_before front (y ∷ back) f less) ∙ at
      | inr most ↦ elim (cases_lt n f) [
        | inl more ↦
            let j = f - n - 1 in
            let there : suc (n + j) ≡ f = omega arith in
            ap (slice_get all) (moved_is n f (suc (n + j)) false false (ne_eqb f n (λ e. absurd (omega arith))) (le-ltb f n most) (sym there))
            ∙ get_right front back j (n + j) refl ∙ sym (get_right front (y ∷ back) (suc j) f (omega arith)) ∙ at
        | inr few ↦
            let same : f ≡ n = omega arith in
            ap (slice_get all) (moved_is n f 0 true false (eq-eqb f n same) (le-ltb f n most) refl)
            ∙ sym (get_right front (y ∷ back) 0 f (omega arith)) ∙ at
      ]
    ]

first_at : {X : Type 0} (m f : ℕ) (xs : List X) (x : X) → m < length xs → slice_get xs f ≡ Some x → slice_get (with_first m xs) (moved m f) ≡ Some x
first_at m f xs x less at =
    let s = split_at m xs less in
    let front = take m xs in
    let back = drop (m + 1) xs in
    let long : length front ≡ m = length-take-le m xs (omega arith) in
    ap (λ ys. slice_get (ys ++ (front ++ back)) (moved m f)) s.2
    ∙ ap (λ (n : ℕ). slice_get (s.0 ∷ (front ++ back)) (moved n f)) (sym long)
    ∙ picked front back s.0 x f (subst (λ ys. slice_get ys f ≡ Some x) s.1 at)

code_at : (code : ℕ → Func → FunctionCode) (f : ℕ) (funcs : List Func) (k : ℕ) (func : Func) → slice_get funcs k ≡ Some func → slice_get (codes_from code f funcs) k ≡ Some (code (f + k) func)
code_at code f [] k func at = absurd cc
code_at code f (g ∷ gs) zero func at =
    let same : g ≡ func = cc in
    let one : f ≡ f + 0 = omega arith in
    ap (λ (h : Func). Some (code f h)) same ∙ ap (λ (n : ℕ). Some (code n func)) one
code_at code f (g ∷ gs) (suc k) func at =
    let one : f + 1 + k ≡ f + suc k = omega arith in
    code_at code (f + 1) gs k func at ∙ ap (λ (n : ℕ). Some (code n func)) one

codes_many : (code : ℕ → Func → FunctionCode) (f : ℕ) (funcs : List Func) → length (codes_from code f funcs) ≡ length funcs
codes_many code f [] = refl
codes_many code f (g ∷ gs) = ap suc (codes_many code (f + 1) gs)

-- ---- sites

as_named : (s : Site) (o p : Option PlaceName) (n k : ℕ) → s ≡ record { place = o; number = n } → o ≡ p → n ≡ k → s ≡ record { place = p; number = k }
as_named s o p n k is place number = is ∙ ap (λ (x : Option PlaceName). record { place = x; number = n }) place ∙ ap (λ (x : ℕ). record { place = p; number = x }) number

pub sites_are_named : SitesAreNamedBySource
sites_are_named program code ok named own at func block front back m is has body counted =
    let t = symbols_of program in
    let codes = codes_of code program in
    let items = items_for program codes in
    let are : AreCodes t t.functions codes = codes_are_of_the_program program code own in
    let table : IsSymbolTable t = programs_have_symbols program ok named in
    let made : AreInParts t items = codes_are_in_parts t codes are in
    let main = main_within program ok in
    let many = symbols_many program 0 (length program.funcs) program.funcs in
    let coded = codes_many code 0 program.funcs in
    let first = label_of_block program at.func 0 in
    let e = symbol_for program at.func first func in
    let c : FunctionCode = code at.func func in
    let here : IsCodeOf t func c = own at.func func is in
    let none : 0 + at.func ≡ at.func = omega arith in
    let one = first_at (main_at program) at.func (all_symbols program) e (omega arith) (own_symbol program at.func func is) in
    let two = first_at (main_at program) at.func (codes_from code 0 program.funcs) c (omega arith) (code_at code 0 program.funcs at.func func is ∙ ap (λ (n : ℕ). Some (code n func)) none) in
    let s : Split items (first + at.block) (front ++ item.Mark m ∷ back) = split_code t.functions codes (moved (main_at program) at.func) at.block e c (front ++ item.Mark m ∷ back) one two body in
    let label : first + at.block ≡ label_of_block program at.func at.block = omega arith in
    let l = label_of_block program at.func at.block in
    let split : items ≡ s.before ++ item.Label l ∷ (front ++ item.Mark m ∷ (back ++ s.behind)) =
    s.is ∙ ap (λ (k : ℕ). s.before ++ item.Label k ∷ ((front ++ item.Mark m ∷ back) ++ s.behind)) label
    ∙ ap (λ (zs : List Item). s.before ++ item.Label l ∷ zs) (append_assoc front (item.Mark m ∷ back) s.behind) in
    let stretch : IsStretch t [] (front ++ item.Mark m ∷ back) = all_get (IsStretch t []) c.blocks at.block (front ++ item.Mark m ∷ back) here.blocks body in
    let free = λ (x : ℕ) (in_front : Contains front (item.Label x)). none_labelled t [] (front ++ item.Mark m ∷ back) stretch.made x (Contains-append_left front (item.Mark m ∷ back) (item.Label x) in_front) in
    let found = sites_are_counted t items s.before front (back ++ s.behind) l m table made split free in
    let placed = label_at t items s.before front (back ++ s.behind) l m table made split free in
    let names : HasSourceNames program (built_map t items) (built_address items) = places_are_named program codes ok named are in
    let there : built_address items l + 4 * words_become front ≡ address code_base (words_become s.before + words_become front) = omega arith in
    as_named (site (built_map t items) (built_address items l + 4 * words_become front)) (place_name (built_map t items) (built_address items l)) (source_block_name program at) (count_by is_site_item front) at.number
    (ap (site (built_map t items)) there ∙ found) (names.blocks at func block is has) counted
