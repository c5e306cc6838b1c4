-- The drill's text is what is printed for its program, and so a text of it; it is short. The case is well formed, and leaves room for the run.
use Rattle.std.proofs.Common.{◌≡◌, ◌+◌, ◌<◌, ◌%◌, ◌^◌, ◌≤◌, Bool, true, ℕ, ℤ, pos, List, [], ◌∷◌, ◌++◌, map, refl, subst, lit<, arith}
use Rattle.std.specs.{Prelude.All, Prelude.IsTrue, Fmt.digits, List.AllByRecursion, List.flat_map, List.list_all, List.range_with_len}
use Rattle.std.proofs.Math.Nat.{mod-lt}
use Rattle.std.proofs.lemmas.{Bool.lt-ltb, List.Elements.All-append, List.Elements.All-from_recursion}
use Rattle.oat_map.proofs.NameTests.{name_from_test}
use Rattle.oat_check.specs.{IsName, is_name, Local, Input}
use Rattle.oat_text.specs.{ended, is_i64, Grammar.IsProgramText, Grammar.program_text, Laws.HasGlobalValues, Laws.HasConstant, Laws.HasBlockValues, Laws.HasFuncValues, Laws.HasValues}
use Rattle.oat_text.specs.{Laws.PrintedIsText}
use Rattle.oat_case.specs.Limits.{IsWellFormedCase}
use Rattle.oat_make.specs.{Drill.helper, Drill.helper_name, Drill.helper_call, Drill.round_instrs, Drill.drill_work, Drill.drill_main, Drill.drill_with, Drill.drill_limit, Drill.drill_constant}
use Rattle.oat_make.specs.{Drill.draw, Drill.drill_program, Text.drill_case, Text.drill_lines, Laws.DrillsAreWritten, Laws.DrillsCanBeAttested}
use Rattle.oat_make.proofs.{Formed.both, Formed.formed, Formed.instrs_at, Formed.last_instrs, Running.drills_complete}

printed_so : (limit : ℤ) (constant : ℕ → ℤ) → program_text (drill_with limit constant) ≡ flat_map ended (drill_lines limit constant)
unfolding digits
printed_so limit constant = refl

-- ---- names, and numbers of 64 bits

named : (text : List ℕ) → is_name text ≡ true → IsName text
named text is = name_from_test text is

abbrev are_named : List Local → Bool
are_named ls = list_all (λ l. is_name l.name) ls

locals_named : (ls : List Local) → are_named ls ≡ true → AllByRecursion (λ l. IsName l.name) ls
locals_named [] is = tt
locals_named (l ∷ ls) is = let b = both (is_name l.name) (are_named ls) is in (named l.name b.0, locals_named ls b.1)

helper_values : (name : List ℕ) (a : ℤ) → is_name name ≡ true → IsTrue (is_i64 a) → HasFuncValues (helper name a)
helper_values name a is fits =
    let f = helper name a in record {
      name = named name is;
      locals = All-from_recursion (λ l. IsName l.name) f.locals (locals_named f.locals refl);
      blocks = All-from_recursion HasBlockValues f.blocks (
        record { label = named _ refl; instrs = All-from_recursion HasConstant (instrs_at f.blocks 0) (fits, (tt, (tt, (tt, tt)))) },
        (
          record { label = named _ refl; instrs = All-from_recursion HasConstant (instrs_at f.blocks 1) (tt, tt) },
          (record { label = named _ refl; instrs = All-from_recursion HasConstant (instrs_at f.blocks 2) tt }, tt),
        ),
      );
    }

helpers_values : (constant : ℕ → ℤ) → ((j : ℕ) → IsTrue (is_i64 (constant j))) → (js : List ℕ) → list_all (λ j. is_name (helper_name j)) js ≡ true
    → AllByRecursion HasFuncValues (map (λ j. helper (helper_name j) (constant j)) js)
helpers_values constant fit [] is = tt
helpers_values constant fit (j ∷ js) is =
    let b = both (is_name (helper_name j)) (list_all (λ j. is_name (helper_name j)) js) is in
    (helper_values (helper_name j) (constant j) b.0 (fit j), helpers_values constant fit js b.1)

calls_values : (js : List ℕ) → AllByRecursion HasConstant (map helper_call js)
calls_values [] = tt
calls_values (j ∷ js) = (tt, calls_values js)

round_values : All HasConstant round_instrs
round_values =
    All-append HasConstant (Input 3 ∷ []) (map helper_call (range_with_len 0 16) ++ last_instrs) (All-from_recursion HasConstant (Input 3 ∷ []) (tt, tt))
    (All-append HasConstant (map helper_call (range_with_len 0 16)) last_instrs (All-from_recursion HasConstant (map helper_call (range_with_len 0 16)) (calls_values (range_with_len 0 16)))
    (All-from_recursion HasConstant last_instrs (tt, (tt, (tt, (tt, tt))))))

work_values : HasFuncValues drill_work
work_values = record {
  name = named drill_work.name refl;
  locals = All-from_recursion (λ l. IsName l.name) drill_work.locals (locals_named drill_work.locals refl);
  blocks = All-from_recursion HasBlockValues drill_work.blocks (
    record { label = named _ refl; instrs = All-from_recursion HasConstant (instrs_at drill_work.blocks 0) (refl, tt) },
    (
      record { label = named _ refl; instrs = All-from_recursion HasConstant (instrs_at drill_work.blocks 1) (tt, tt) },
      (
        record { label = named _ refl; instrs = round_values },
        (record { label = named _ refl; instrs = All-from_recursion HasConstant (instrs_at drill_work.blocks 3) tt }, tt),
      ),
    ),
  );
}

main_values : HasFuncValues drill_main
main_values = record {
  name = named drill_main.name refl;
  locals = All-from_recursion (λ l. IsName l.name) drill_main.locals (locals_named drill_main.locals refl);
  blocks = All-from_recursion HasBlockValues drill_main.blocks (record { label = named _ refl; instrs = All-from_recursion HasConstant (instrs_at drill_main.blocks 0) (refl, (tt, tt)) }, tt);
}

values : (limit : ℤ) (constant : ℕ → ℤ) → IsTrue (is_i64 limit) → ((j : ℕ) → IsTrue (is_i64 (constant j))) → HasValues (drill_with limit constant)
unfolding digits
values limit constant fits fit = record {
  globals = All-from_recursion HasGlobalValues (drill_with limit constant).globals ((named _ refl, fits), tt);
  funcs =
      All-append HasFuncValues (map (λ j. helper (helper_name j) (constant j)) (range_with_len 0 16)) (drill_work ∷ drill_main ∷ [])
      (All-from_recursion HasFuncValues (map (λ j. helper (helper_name j) (constant j)) (range_with_len 0 16)) (helpers_values constant fit (range_with_len 0 16) refl)) (All-from_recursion HasFuncValues (drill_work ∷ drill_main ∷ []) (work_values, (main_values, tt)));
}

small : (n m : ℕ) → 0 < m → m ≤ 1000 → IsTrue (is_i64 (pos (n % m)))
small n m some few = let l : n % m < m = mod-lt n some in rw (lt-ltb (n % m) (2 ^ 63) (omega arith)) refl

pub drills_are_written : PrintedIsText → DrillsAreWritten
drills_are_written printed n =
    let limit : ℤ = drill_limit n in
    let constant : ℕ → ℤ = drill_constant n in
    subst (λ text. IsProgramText text (drill_program n)) (printed_so limit constant)
    (printed (drill_program n) (formed limit constant) (values limit constant (small (draw n 0) 1000 (lit< tt) (omega arith)) (λ j. small (draw n (1 + j)) 100 (lit< tt) (omega arith))))

-- ---- the case

pub case_formed : (n : ℕ) → IsWellFormedCase (drill_case n)
case_formed n = record { key = refl; operation = refl; steps = refl; calls = tt; writes = tt; order = tt }

pub drills_can_be_attested : DrillsCanBeAttested
drills_can_be_attested n = record {
  well_formed = case_formed n;
  no_writes = refl;
  operation = refl;
  completed = (drills_complete n 11499 (omega arith)).completed;
  room = omega arith;
}
