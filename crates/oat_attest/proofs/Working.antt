-- The worked windows and paths.
use Rattle.std.proofs.Common.{◌+◌, ◌*◌, ◌≡◌, ℕ, pos, suc, zero, List, [], ◌∷◌, ◌++◌, map, Some, length, ◌≤◌, refl, sym, ap, subst, ◌∙◌, arith, inl, Contains, append-nil}
use Rattle.std.specs.{List.slice_get, Option.option_and_then}
use Rattle.oat_map.proofs.WalkLemmas.{Returns-one}
use Rattle.oat_journal.specs.{Row, Step, passed, moved, Returns, return_site_of, Run.Entry, Run.pc_of, AddReg, SubsReg, Movz, Movk, Ldr, LdrReg, BCond, Svc, word_in}
use Rattle.oat_attest.specs.{Headline.IsUseOf, Headline.IsLoadOf, Headline.AllReadByLoad, Lockstep.Placed, Lockstep.placed_of, Lockstep.Makes, Lockstep.Executes, Lockstep.PassesCells}
use Rattle.oat_attest.specs.{Lockstep.AllReturnsMatch, Worked.two_uses, Worked.two_uses_map, Worked.made_at, Worked.use_at, Worked.both_passed, Worked.cells_used, Worked.TwoUses, Worked.one_element}
use Rattle.oat_attest.specs.{Worked.made_at_element, Worked.use_element, Worked.OneElement, Worked.three_calls, Worked.SecondIsFalse}
use Rattle.oat_attest.proofs.{Lists.get_contains, Stretches.none_read, Stretches.read_cons, Accesses.loads_use}
use Rattle.oat_map.specs.declared.edge.Edge.TheVariants as edges
use Rattle.oat_map.specs.declared.row.Row.TheVariants as rows

-- ---- two uses

paired : (memory : ℕ → ℕ) → Executes two_uses 1 [] 0x10008 both_passed (use_at memory 0x10008 ++ use_at memory 0x1001C) 0x10030 []
paired memory = (
  rows.UseCell 0x10008 0,
  0x1001C,
  use_at memory 0x1001C,
  (refl, refl),
  record {
    stands = (_, refl, refl);
    at_row = refl;
    way = [];
    quiet = tt;
    group = use_at memory 0x10008;
    made = (0, _, refl, refl);
    shows = refl;
    whole = refl;
  },
  (
    rows.UseCell 0x1001C 0,
    0x10030,
    [],
    (refl, refl),
    record {
      stands = (_, refl, refl);
      at_row = refl;
      way = [];
      quiet = tt;
      group = use_at memory 0x1001C;
      made = (0, _, refl, refl);
      shows = refl;
      whole = refl;
    },
    (refl, refl),
  ),
)

first_at : (x y : Placed) (xs ys : List Placed) → x ∷ xs ≡ y ∷ ys → x.at ≡ y.at
first_at x y xs ys h = ap (λ (p : Placed). p.at) (let same : x ≡ y = cc in same)

apart : (memory : ℕ → ℕ) (to : ℕ) (rest : List Entry) → (m : Makes two_uses 1 0x10008 (rows.UseCell 0x10008 0) [] to (use_at memory 0x10008 ++ use_at memory 0x1001C) rest)
    → m.group ≡ use_at memory 0x1001C → ⊥
apart memory to rest m is =
    let same = first_at _ _ _ _ (sym (ap (map placed_of) is) ∙ m.made.3) in
    absurd (omega arith)

some_entry : (e f : Entry) → Some e ≡ Some f → e ≡ f
some_entry e f h = cc

other_place : (there : ℕ) → there ≡ 0x1001C → there ≡ 0x10008 → ⊥
other_place there one two = omega arith

exchanged : (memory : ℕ → ℕ) (place : ℕ) (rest : List Entry) → Executes two_uses 1 [] 0x10008 both_passed (use_at memory 0x1001C ++ use_at memory 0x10008) place rest → ⊥
exchanged memory place rest (row, to, others, goes, m, on) =
    let (first, is, stands) = m.stands in
    other_place (pc_of first) (ap pc_of (sym (some_entry _ _ is))) stands

-- what stands at these places of the map
use_row : (k : ℕ) (row : Row) (call : Entry) → pc_of call ≡ 0x1002C → slice_get two_uses_map.rows k ≡ Some row → IsUseOf row call → row ≡ rows.UseCell 0x1001C 0
use_row zero row call there is by =
    let same : rows.Begin 0x10000 1 ≡ row = cc in
    absurd (subst (λ (r : Row). IsUseOf r call) (sym same) by)
use_row (suc zero) row call there is by =
    let same : rows.UseCell 0x10008 0 ≡ row = cc in
    let own : IsUseOf (rows.UseCell 0x10008 0) call = subst (λ (r : Row). IsUseOf r call) (sym same) by in
    let at : pc_of call ≡ 0x10018 = own in
    absurd (omega arith)
use_row (suc (suc zero)) row call there is by = let same : rows.UseCell 0x1001C 0 ≡ row = cc in sym same
use_row (suc (suc (suc zero))) row call there is by =
    let same : rows.End 0x10030 1 ≡ row = cc in
    absurd (subst (λ (r : Row). IsUseOf r call) (sym same) by)
use_row (suc (suc (suc (suc k)))) row call there is by = absurd (cc)

-- no instruction of the window is the second row's load
no_load : (memory : ℕ → ℕ) (k : ℕ) (load : Entry) → slice_get (made_at memory 0x10010 (Ldr 10 11 0) ∷ made_at memory 0x10028 (Movz 9 0 0) ∷ made_at memory 0x1002C (Svc 7) ∷ []) k ≡ Some load
    → pc_of load ≡ 0x10024 → ⊥
no_load memory zero load is there = let here : 0x10010 ≡ pc_of load = ap pc_of (some_entry _ _ is) in omega arith
no_load memory (suc zero) load is there = let here : 0x10028 ≡ pc_of load = ap pc_of (some_entry _ _ is) in omega arith
no_load memory (suc (suc zero)) load is there = let here : 0x1002C ≡ pc_of load = ap pc_of (some_entry _ _ is) in omega arith
no_load memory (suc (suc (suc k))) load is there = absurd (cc)

other_load : (memory : ℕ → ℕ) → AllReadByLoad two_uses (made_at memory 0x10010 (Ldr 10 11 0) ∷ made_at memory 0x10028 (Movz 9 0 0) ∷ made_at memory 0x1002C (Svc 7) ∷ []) → ⊥
other_load memory all =
    let r = all 2 0 (word_in memory 0x40000000) 0 _ refl refl refl in
    let row = use_row r.among.0 r.row _ refl (get_contains two_uses_map.rows r.row r.among) r.called in
    let loads = subst (λ (x : Row). IsLoadOf x r.load 0x40000000) row r.loaded in
    no_load memory r.before r.load r.stands loads.0

-- the uses of a group whose row stands there
group_read : (memory : ℕ → ℕ) (at : ℕ) (rest : List Entry) → Contains two_uses_map.rows (rows.UseCell at 0) → AllReadByLoad two_uses rest → AllReadByLoad two_uses (use_at memory at ++ rest)
group_read memory at rest among all =
    read_cons two_uses (made_at memory at (Movz 11 0 0)) _ (λ c v u. cc)
    (read_cons two_uses (made_at memory (at + 4) (Movk 11 1 0x4000)) _ (λ c v u. cc)
    (loads_use two_uses (rows.UseCell at 0) (made_at memory (at + 8) (Ldr 10 11 0)) (made_at memory (at + 12) (Movz 9 0 0) ∷ []) (made_at memory (at + 16) (Svc 7)) rest
    0 (word_in memory 0x40000000) 0 among (refl, refl, (refl, refl, tt)) refl refl refl refl (refl, refl, refl) (omega arith) refl all))

own_load : (memory : ℕ → ℕ) → AllReadByLoad two_uses (use_at memory 0x10008 ++ use_at memory 0x1001C)
own_load memory =
    group_read memory 0x10008 (use_at memory 0x1001C) (1, omega arith, refl)
    (subst (AllReadByLoad two_uses) (append-nil (use_at memory 0x1001C)) (group_read memory 0x1001C [] (2, omega arith, refl) (none_read two_uses)))

same_cells : (memory : ℕ → ℕ) → PassesCells two_uses_map [] 0x10008 both_passed (cells_used (use_at memory 0x1001C ++ use_at memory 0x10008))
same_cells memory =
    (rows.UseCell 0x10008 0, refl, 0x1001C, (refl, refl), 0 ∷ [], 0 ∷ [], (0, refl, refl), (rows.UseCell 0x1001C 0, refl, 0x10030, (refl, refl), 0 ∷ [], [], (0, refl, refl), refl, refl), refl)

pub two_uses_are_paired : (memory : ℕ → ℕ) → TwoUses memory
two_uses_are_paired memory = record {
  paired = paired memory;
  apart = apart memory;
  exchanged = exchanged memory;
  same_cells = same_cells memory;
  own_load = own_load memory;
  other_load = other_load memory;
}

-- ---- one element

executed : (memory : ℕ → ℕ) → Executes one_element 1 [] 0x10008 (passed ∷ []) (use_element memory 1) 0x10030 []
executed memory = (
  rows.UseAt 0x10008 0 2,
  0x10030,
  [],
  (refl, refl),
  record {
    stands = (_, refl, refl);
    at_row = refl;
    way = [];
    quiet = tt;
    group = use_element memory 1;
    made = (1, _, (1, omega arith, refl), refl);
    shows = refl;
    whole = refl;
  },
  (refl, refl),
)

own_element : (memory : ℕ → ℕ) → AllReadByLoad one_element (use_element memory 1)
own_element memory =
    read_cons one_element (made_at_element memory 1 0x10008 (Movz 11 0 2)) _ (λ c v u. cc)
    (read_cons one_element (made_at_element memory 1 0x1000C (SubsReg 31 12 11)) _ (λ c v u. cc)
    (read_cons one_element (made_at_element memory 1 0x10010 (BCond 3 (pos 2))) _ (λ c v u. cc)
    (read_cons one_element (made_at_element memory 1 0x10018 (Movz 11 0 0)) _ (λ c v u. cc)
    (read_cons one_element (made_at_element memory 1 0x1001C (Movk 11 1 0x4000)) _ (λ c v u. cc)
    (loads_use one_element (rows.UseAt 0x10008 0 2) (made_at_element memory 1 0x10020 (LdrReg 10 11 12)) (made_at_element memory 1 0x10024 (Movz 9 0 0) ∷ made_at_element memory 1 0x10028 (AddReg 9 9 12 0) ∷ [])
    (made_at_element memory 1 0x1002C (Svc 7)) [] 1 (word_in memory 0x40000008) 1 (1, omega arith, refl) (refl, refl, (refl, refl, (refl, refl, tt))) refl refl (1, omega arith, refl) refl (refl, refl, refl) refl refl
    (none_read one_element))))))

-- the one row with uses
element_row : (k : ℕ) (row : Row) (call : Entry) → slice_get one_element.map.rows k ≡ Some row → IsUseOf row call → row ≡ rows.UseAt 0x10008 0 2
element_row zero row call is by = let same : rows.Begin 0x10000 1 ≡ row = cc in absurd (subst (λ (r : Row). IsUseOf r call) (sym same) by)
element_row (suc zero) row call is by = let same : rows.UseAt 0x10008 0 2 ≡ row = cc in sym same
element_row (suc (suc zero)) row call is by = let same : rows.End 0x10030 1 ≡ row = cc in absurd (subst (λ (r : Row). IsUseOf r call) (sym same) by)
element_row (suc (suc (suc k))) row call is by = absurd (cc)

other_element : (memory : ℕ → ℕ) → AllReadByLoad one_element (use_element memory 0) → ⊥
other_element memory all =
    let r = all 8 1 (word_in memory 0x40000008) 1 _ refl refl refl in
    let row = element_row r.among.0 r.row _ (get_contains one_element.map.rows r.row r.among) r.called in
    let loads = subst (λ (x : Row). IsLoadOf x r.load 0x40000008) row r.loaded in
    let place : pc_of r.load ≡ 0x10020 = loads.0 in
    let apart = r.apart in
    let behind = r.behind in
    let before : r.before ≡ 5 = omega arith in
    let load = some_entry _ _ (subst (λ (k : ℕ). slice_get (use_element memory 0) k ≡ Some r.load) before r.stands) in
    let address : 0x40000000 + 8 * 0 ≡ 0x40000008 = ap (λ (e : Entry). e.found.regs.x 11 + 8 * e.found.regs.x 12) load ∙ loads.2 in
    absurd (omega arith)

pub one_element_is_read : (memory : ℕ → ℕ) → OneElement memory
one_element_is_read memory = record { executed = executed memory; own_element = own_element memory; other_element = other_element memory }

-- ---- three calls

-- no step stands behind the last one
none_past : (steps : List Step) (later site : ℕ) → length steps ≤ later → option_and_then return_site_of (slice_get steps later) ≡ Some site → ⊥
none_past [] later site past called = cc
none_past (step ∷ steps) zero site past called = omega arith
none_past (step ∷ steps) (suc later) site past called = none_past steps later site (omega arith) called

-- the calls that are open before the third return, and before the second
third_matches : Returns (map moved three_calls) 0x108
third_matches = record {
  level = 0;
  open_calls = refl;
  place = 4;
  matching = record { call = refl; at_level = refl; last = λ later site past called. absurd (none_past (map moved three_calls) later site (omega arith) called) };
}

second_matches : Returns (map moved (edges.Call 0x100 0x200 ∷ edges.Ret 0x200 0x104 ∷ edges.Call 0x104 0x200 ∷ [])) 0x108
second_matches = record {
  level = 0;
  open_calls = refl;
  place = 2;
  matching = record { call = refl; at_level = refl; last = λ later site past called. absurd (none_past (map moved (edges.Call 0x100 0x200 ∷ edges.Ret 0x200 0x104 ∷ edges.Call 0x104 0x200 ∷ [])) later site (omega arith) called) };
}

earlier : AllReturnsMatch three_calls → ⊥
earlier all =
    let second = all (edges.Call 0x100 0x200 ∷ edges.Ret 0x200 0x104 ∷ edges.Call 0x104 0x200 ∷ []) (edges.Call 0x104 0x200 ∷ []) 0x200 0x104 refl in
    let same = Returns-one _ 0x104 0x108 second second_matches in
    omega arith

pub second_is_false : SecondIsFalse
second_is_false = record {
  parting = record {
    common = three_calls;
    from = 0x200;
    run_to = 0x104;
    to = 0x108;
    shown = edges.Ret 0x200 0x104;
    run_rest = [];
    rest = edges.End 1 ∷ [];
    later = [];
    run_is = refl;
    path_is = refl;
    returned = inl refl;
    returns_are = refl;
    matching = third_matches;
    false_return = λ same. omega arith;
  };
  third = refl;
  earlier = earlier;
  not_first = λ p is. earlier (subst AllReturnsMatch is p.first);
}
