-- The drill is well formed and keeps the checking rules, whatever its constants are.
use Rattle.std.proofs.Common.{◌≡◌, ◌<◌, ℕ, zero, suc, List, [], ◌∷◌, ◌++◌, length, map, None, refl, ℤ, arith, true, false, Bool, lit<, ltb-true}
use Rattle.std.specs.{Prelude.All, Prelude.not, Prelude.◌&&◌, Prelude.nat_lt, Fmt.digits, List.AllByRecursion, List.IsDistinct, List.list_all, List.range_with_len}
use Rattle.std.proofs.lemmas.List.Elements.{All-append, All-from_recursion}
use Rattle.oat_check.specs.{Program, BlockIr, Instr, Binary, RefTo, ICall, Input, Output, Add, are_one_global, have_one_name, have_one_operation, are_one_local, have_one_label, IsGlobal, IsLocal}
use Rattle.oat_check.specs.{IsBlockIr, IsFunc, IsProgram, IsInstr, HasLocal, Rules.first_fault}
use Rattle.oat_make.specs.{Drill.drill_with, Drill.helper, Drill.helper_name, Drill.helper_call, Drill.round_instrs, Drill.drill_work, Drill.drill_main, Drill.drill_limit, Drill.drill_constant}
use Rattle.oat_make.specs.{Laws.DrillsAreChecked, Laws.DrillsFit}

-- ---- what computes to true

pub both : (a b : Bool) → (a && b) ≡ true → (a ≡ true) × (b ≡ true)
both true b is = (refl, is)
both false b is = absurd (cc)

not_is : (a : Bool) → not a ≡ true → a ≡ false
not_is true is = absurd (cc)
not_is false is = refl

abbrev is_new : {X : Type 0} → (X → X → Bool) → X → List X → Bool
is_new same x ys = list_all (λ y. not (same x y)) ys

abbrev all_differ : {X : Type 0} → (X → X → Bool) → List X → Bool
all_differ same [] = true
all_differ same (x ∷ xs) = is_new same x xs && all_differ same xs

new_item : {X : Type 0} (same : X → X → Bool) (x : X) (ys : List X) → is_new same x ys ≡ true → AllByRecursion (λ y. same x y ≡ false) ys
new_item same x [] is = tt
new_item same x (y ∷ ys) is = let b = both (not (same x y)) (is_new same x ys) is in (not_is (same x y) b.0, new_item same x ys b.1)

are_distinct : {X : Type 0} (same : X → X → Bool) (xs : List X) → all_differ same xs ≡ true → IsDistinct same xs
unfolding IsDistinct
are_distinct same [] is = tt
are_distinct same (x ∷ xs) is = let b = both (is_new same x xs) (all_differ same xs) is in (new_item same x xs b.0, are_distinct same xs b.1)

-- ---- functions

abbrev pub instrs_at : List BlockIr → ℕ → List Instr
instrs_at [] n = []
instrs_at (b ∷ bs) zero = b.instrs
instrs_at (b ∷ bs) (suc n) = instrs_at bs n

-- a round's behind the calls
abbrev pub last_instrs : List Instr
last_instrs = RefTo 5 0 ∷ ICall 3 5 (3 ∷ []) ∷ Output 3 ∷ Binary Add 1 1 2 ∷ []

module _ (p : Program) (some : 0 < length p.globals) (many : length p.funcs ≡ 18) where
  helper_formed : (name : List ℕ) (constant : ℤ) → IsFunc p (helper name constant)
  helper_formed name constant =
      let f = helper name constant in record {
        role = tt;
        few_params = omega arith;
        params_first = omega arith;
        locals = All-from_recursion IsLocal f.locals (tt, (tt, (tt, (tt, tt))));
        local_names = are_distinct are_one_local f.locals refl;
        begun = omega arith;
        labels = are_distinct have_one_label f.blocks refl;
        blocks = All-from_recursion (IsBlockIr p f) f.blocks (
          (All-from_recursion (IsInstr p f) (instrs_at f.blocks 0) (lit< tt, ((lit< tt, lit< tt, lit< tt), ((lit< tt, some), ((lit< tt, lit< tt, lit< tt), tt)))), (lit< tt, lit< tt, lit< tt)),
          (
            (All-from_recursion (IsInstr p f) (instrs_at f.blocks 1) ((lit< tt, lit< tt, lit< tt), tt), lit< tt),
            ((All-from_recursion (IsInstr p f) (instrs_at f.blocks 2) tt, lit< tt), tt),
          ),
        );
      }

  helpers_formed : (constant : ℕ → ℤ) (js : List ℕ) → AllByRecursion (IsFunc p) (map (λ j. helper (helper_name j) (constant j)) js)
  helpers_formed constant [] = tt
  helpers_formed constant (j ∷ js) = (helper_formed (helper_name j) (constant j), helpers_formed constant js)

  calls_formed : (js : List ℕ) → list_all (λ j. nat_lt j 18) js ≡ true → AllByRecursion (IsInstr p drill_work) (map helper_call js)
  calls_formed [] is = tt
  calls_formed (j ∷ js) is =
      let b = both (nat_lt j 18) (list_all (λ j. nat_lt j 18) js) is in
      let low : j < 18 = ltb-true j 18 b.0 in
      ((lit< tt, omega arith, (omega arith, All-from_recursion (HasLocal drill_work) (3 ∷ []) (lit< tt, tt))), calls_formed js b.1)

  round_formed : All (IsInstr p drill_work) round_instrs
  round_formed =
      let is_instr : Instr → Type 0 = IsInstr p drill_work in
      All-append is_instr (Input 3 ∷ []) (map helper_call (range_with_len 0 16) ++ last_instrs) (All-from_recursion is_instr (Input 3 ∷ []) (lit< tt, tt))
      (All-append is_instr (map helper_call (range_with_len 0 16)) last_instrs (All-from_recursion is_instr (map helper_call (range_with_len 0 16)) (calls_formed (range_with_len 0 16) refl))
      (All-from_recursion is_instr last_instrs ((lit< tt, omega arith), ((lit< tt, lit< tt, (omega arith, All-from_recursion (HasLocal drill_work) (3 ∷ []) (lit< tt, tt))), (lit< tt, ((lit< tt, lit< tt, lit< tt), tt))))))

  work_formed : IsFunc p drill_work
  work_formed = record {
    role = (omega arith, omega arith);
    few_params = omega arith;
    params_first = omega arith;
    locals = All-from_recursion IsLocal drill_work.locals (tt, (tt, (tt, (tt, (tt, (omega arith, tt))))));
    local_names = are_distinct are_one_local drill_work.locals refl;
    begun = omega arith;
    labels = are_distinct have_one_label drill_work.blocks refl;
    blocks = All-from_recursion (IsBlockIr p drill_work) drill_work.blocks (
      (All-from_recursion (IsInstr p drill_work) (instrs_at drill_work.blocks 0) (lit< tt, tt), lit< tt),
      (
        (All-from_recursion (IsInstr p drill_work) (instrs_at drill_work.blocks 1) ((lit< tt, lit< tt, lit< tt), tt), (lit< tt, lit< tt, lit< tt)),
        ((round_formed, lit< tt), ((All-from_recursion (IsInstr p drill_work) (instrs_at drill_work.blocks 3) tt, lit< tt), tt)),
      ),
    );
  }

  main_formed : IsFunc p drill_main
  main_formed = record {
    role = (refl, refl);
    few_params = omega arith;
    params_first = omega arith;
    locals = All-from_recursion IsLocal drill_main.locals (tt, (tt, tt));
    local_names = are_distinct are_one_local drill_main.locals refl;
    begun = omega arith;
    labels = are_distinct have_one_label drill_main.blocks refl;
    blocks = All-from_recursion (IsBlockIr p drill_main) drill_main.blocks (
      (All-from_recursion (IsInstr p drill_main) (instrs_at drill_main.blocks 0) (lit< tt, ((lit< tt, omega arith, (omega arith, All-from_recursion (HasLocal drill_main) (0 ∷ []) (lit< tt, tt))), tt)), tt),
      tt,
    );
  }

  funcs_formed : (constant : ℕ → ℤ) → All (IsFunc p) (map (λ j. helper (helper_name j) (constant j)) (range_with_len 0 16) ++ (drill_work ∷ drill_main ∷ []))
  funcs_formed constant =
      All-append (IsFunc p) (map (λ j. helper (helper_name j) (constant j)) (range_with_len 0 16)) (drill_work ∷ drill_main ∷ [])
      (All-from_recursion (IsFunc p) (map (λ j. helper (helper_name j) (constant j)) (range_with_len 0 16)) (helpers_formed constant (range_with_len 0 16))) (All-from_recursion (IsFunc p) (drill_work ∷ drill_main ∷ []) (work_formed, (main_formed, tt)))

pub formed : (limit : ℤ) (constant : ℕ → ℤ) → IsProgram (drill_with limit constant)
unfolding digits
formed limit constant =
    let p = drill_with limit constant in record {
      globals = All-from_recursion IsGlobal p.globals (tt, tt);
      global_names = are_distinct are_one_global p.globals refl;
      funcs = funcs_formed p (lit< tt) refl constant;
      func_names = are_distinct have_one_name p.funcs refl;
      operations = are_distinct have_one_operation p.funcs refl;
      size = omega arith;
    }

-- ---- the rules and the bound

accepted : (limit : ℤ) (constant : ℕ → ℤ) → first_fault (drill_with limit constant) ≡ None
accepted limit constant = refl

pub drills_are_checked : DrillsAreChecked
drills_are_checked n = record { well_formed = formed (drill_limit n) (drill_constant n); accepted = accepted (drill_limit n) (drill_constant n) }

pub drills_fit : DrillsFit
drills_fit = record { words = λ n. refl; fits = λ n. omega arith }
