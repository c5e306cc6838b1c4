-- The meaning computed on worked texts.
use Rattle.std.specs.Prelude.{◌≡◌, ℕ, suc, ℤ, List, [], ◌∷◌, length, Option, Some, None, pos, negsuc, true, false, codes, replicate}
use Rattle.oat_map.specs.declared.trap.TrapKind.TheVariants.{DivZero, Index, Depth, InputEnd}
use Rattle.oat_ir.specs.declared.program.GlobalItem.TheVariants.{Scalar, Array, CriticalArray}
use Rattle.oat_ir.specs.declared.func.Role.{Role}
use Rattle.oat_ir.specs.declared.func.Role.TheVariants.{Plain, Operation, Main}
use Rattle.oat_events.specs.Source.{Finish, halted, trapped, CellValue, outputs_of, has_completed, loads_of_call, stores_up_to_call}
use Rattle.oat_tree.specs.Syntax.{Word, Expr, number, name, element, call, input, negative, binary, no_exprs, Stmt, declare, assign, assign_element, choose, repeat, put, return, halt, call_only, no_stmts, Item, global, function, Tree, body_of_list, exprs_of_list}
use Rattle.oat_tree.specs.declared.operator.Operator.TheVariants.{Less, ShiftLeft, ShiftRight, Plus, Minus, Times, Quotient, Remainder}
use Rattle.oat_langrun.specs.Meaning.{lang_run, lang_events}

-- ---- texts

abbrev pub text_of : Role → Word → List Word → List Stmt → Item
text_of role label params body = function (record { name = label; role = role; params = params; body = body_of_list body })

abbrev pub main_of : List Stmt → Item
main_of body = text_of Main (codes "main") [] body

abbrev pub fn_of : Word → List Word → List Stmt → Item
fn_of label params body = text_of Plain label params body

abbrev pub calling : Word → List Expr → Expr
calling f es = call f (exprs_of_list es)

-- the name of one letter
abbrev pub a : Word
a = codes "a"

abbrev pub f : Word
f = codes "f"

abbrev pub g : Word
g = codes "g"

abbrev pub i : Word
i = codes "i"

abbrev pub t : Word
t = codes "t"

abbrev pub x : Word
x = codes "x"

abbrev pub end_of : Tree → List ℤ → ℕ → Option Finish
end_of tree inputs n = (lang_run tree inputs n).end

abbrev pub shown_of : Tree → List ℤ → ℕ → List ℤ
shown_of tree inputs n = outputs_of (lang_events tree inputs n)

-- ends within n steps and no sooner, with these outputs
pub record RunsTo (tree : Tree) (inputs : List ℤ) (before : ℕ) (why : Finish) (out : List ℤ) : Type 0 where
  pub before_end : end_of tree inputs before ≡ None
  pub ended : end_of tree inputs (suc before) ≡ Some why
  pub outputs : shown_of tree inputs (suc before) ≡ out

-- ---- an attested loop

-- critical limit = 50; fn scale(v) { return v * 3; } operation 7 measure(n) { .. } main { out measure(5); }
abbrev pub attested_loop : Tree
attested_loop =
    global (Scalar (codes "limit") (pos 50) true)
    ∷ fn_of (codes "scale") (codes "v" ∷ []) (return (binary Times (name (codes "v")) (number 3)) ∷ [])
    ∷ text_of (Operation 7) (codes "measure") (codes "n" ∷ []) (
    declare i (number 0)
    ∷ declare t (number 0)
    ∷ repeat (binary Less (name i) (name (codes "n"))) (body_of_list (
    declare x (calling (codes "scale") (input ∷ []))
    ∷ choose (binary Less (name (codes "limit")) (name x)) (body_of_list (assign x (name (codes "limit")) ∷ [])) no_stmts
    ∷ put (name x)
    ∷ assign t (binary Plus (name t) (name x))
    ∷ assign i (binary Plus (name i) (number 1)) ∷ []
    ))
    ∷ return (name t) ∷ []
    )
    ∷ main_of (put (calling (codes "measure") (number 5 ∷ [])) ∷ []) ∷ []

abbrev pub loop_inputs : List ℤ
loop_inputs = pos 10 ∷ pos 20 ∷ pos 16 ∷ pos 17 ∷ pos 0 ∷ []

abbrev pub cell_value : ℕ → ℕ → CellValue
cell_value c value = record { cell = c; value = value }

pub record AttestedLoop : Type 0 where
  pub runs : end_of attested_loop loop_inputs 400 ≡ Some halted
  pub outputs : shown_of attested_loop loop_inputs 400 ≡ pos 30 ∷ pos 50 ∷ pos 48 ∷ pos 50 ∷ pos 0 ∷ pos 178 ∷ []
  pub completed : has_completed 7 0 (lang_events attested_loop loop_inputs 400) ≡ true
  pub once : has_completed 7 1 (lang_events attested_loop loop_inputs 400) ≡ false
  pub loads : loads_of_call 7 0 (lang_events attested_loop loop_inputs 400)
      ≡ cell_value 0 50 ∷ cell_value 0 50 ∷ cell_value 0 50 ∷ cell_value 0 50 ∷ cell_value 0 50 ∷ cell_value 0 50 ∷ cell_value 0 50 ∷ []

-- ---- traps

-- main { out 0 - 9223372036854775807 - 1; out 7 / 0; }: one begun, five nodes, one begun, three nodes of which the last traps
abbrev pub dividing_text : Tree
dividing_text =
    main_of (put (binary Minus (binary Minus (number 0) (number 9223372036854775807)) (number 1)) ∷ put (binary Quotient (number 7) (number 0)) ∷ []) ∷ []

-- array a[2]; main { a[2] = in; }, where e and f come before the test
abbrev pub indexing_text : Expr → Tree
indexing_text e = global (Array a 2) ∷ main_of (assign_element a (number 2) e ∷ []) ∷ []

-- array a[2]; main { out a[0 - 1]; }
abbrev pub indexing_below_text : Tree
indexing_below_text = global (Array a 2) ∷ main_of (put (element a (binary Minus (number 0) (number 1))) ∷ []) ∷ []

-- fn f(x) { return f(in); } main { out f(in); }: each call takes three steps behind the main one's
abbrev pub deep_text : Tree
deep_text = fn_of f (x ∷ []) (return (calling f (input ∷ [])) ∷ []) ∷ main_of (put (calling f (input ∷ [])) ∷ []) ∷ []

abbrev pub many_inputs : List ℤ
many_inputs = replicate 300 (pos 1)

pub record TrapsStop : Type 0 where
  pub dividing : RunsTo dividing_text [] 9 (trapped DivZero) (negsuc 9223372036854775807 ∷ [])
  pub indexing : RunsTo (indexing_text (number 1)) [] 2 (trapped Index) []
  pub indexing_below : RunsTo indexing_below_text [] 4 (trapped Index) []
  -- the value is looked at before the index
  pub dividing_first : RunsTo (indexing_text (binary Quotient (number 1) (number 0))) [] 4 (trapped DivZero) []
  pub input_first : (lang_run (indexing_text input) (pos 1 ∷ []) 3).inputs ≡ []
  pub no_input : RunsTo (main_of (put input ∷ []) ∷ []) [] 1 (trapped InputEnd) []
  -- the call that traps has evaluated its argument
  pub deep : RunsTo deep_text many_inputs 770 (trapped Depth) []
  pub deep_inputs : length (lang_run deep_text many_inputs 771).inputs ≡ 43

-- ---- order

-- fn f() { out 1; return 10; } fn g() { out 2; return 3; } main { out f() - g(); }
abbrev pub ordered_text : Tree
ordered_text =
    fn_of f [] (put (number 1) ∷ return (number 10) ∷ [])
    ∷ fn_of g [] (put (number 2) ∷ return (number 3) ∷ [])
    ∷ main_of (put (binary Minus (calling f []) (calling g [])) ∷ []) ∷ []

-- main { var i = 0; while i < 2 { var t = i + 10; out t; i = i + 1; } }
abbrev pub looping_text : Tree
looping_text =
    main_of (
    declare i (number 0)
    ∷ repeat (binary Less (name i) (number 2)) (body_of_list (
    declare t (binary Plus (name i) (number 10)) ∷ put (name t) ∷ assign i (binary Plus (name i) (number 1)) ∷ []
    )) ∷ []
    ) ∷ []

-- fn f() { out 1; halt; } main { f(); out 2; }
abbrev pub halting_text : Tree
halting_text = fn_of f [] (put (number 1) ∷ halt ∷ []) ∷ main_of (call_only f no_exprs ∷ put (number 2) ∷ []) ∷ []

-- fn f(x) { x = 5; } main { out f(3); }
abbrev pub ending_text : Tree
ending_text = fn_of f (x ∷ []) (assign x (number 5) ∷ []) ∷ main_of (put (calling f (number 3 ∷ [])) ∷ []) ∷ []

-- fn f() { return 1; } main { out f(); }: a call has no step at its return
abbrev pub returning_text : Tree
returning_text = fn_of f [] (return (number 1) ∷ []) ∷ main_of (put (calling f []) ∷ []) ∷ []

-- fn f() { return 1; } fn g() { return f(); } main { out g(); }: one return sets off the next
abbrev pub passing_on_text : Tree
passing_on_text = fn_of f [] (return (number 1) ∷ []) ∷ fn_of g [] (return (calling f []) ∷ []) ∷ main_of (put (calling g []) ∷ []) ∷ []

pub record StepsAreOrdered : Type 0 where
  pub from_left : RunsTo ordered_text [] 12 halted (pos 1 ∷ pos 2 ∷ pos 7 ∷ [])
  pub empty : RunsTo (main_of [] ∷ []) [] 0 halted []
  pub put : RunsTo (main_of (put (number 1) ∷ []) ∷ []) [] 2 halted (pos 1 ∷ [])
  -- one begun of two nodes, one begun, three tests of four steps, two bodies of four, two and four, and the end
  pub looping : RunsTo looping_text [] 35 halted (pos 10 ∷ pos 11 ∷ [])
  pub halting : RunsTo halting_text [] 4 halted (pos 1 ∷ [])
  pub ending : RunsTo ending_text [] 6 halted (pos 0 ∷ [])
  pub returning : RunsTo returning_text [] 4 halted (pos 1 ∷ [])
  pub passing_on : RunsTo passing_on_text [] 6 halted (pos 1 ∷ [])
  pub passed_on : shown_of passing_on_text [] 6 ≡ pos 1 ∷ []

-- ---- operators and cells

-- main { out 1 << 65; out -8 >> 1; out -7 / 2; out -7 % 2; }
abbrev pub computing_text : Tree
computing_text =
    main_of (
    put (binary ShiftLeft (number 1) (number 65))
    ∷ put (binary ShiftRight (negative (number 8)) (number 1))
    ∷ put (binary Quotient (negative (number 7)) (number 2))
    ∷ put (binary Remainder (negative (number 7)) (number 2)) ∷ []
    ) ∷ []

-- critical a[3]; operation 7 w() { a[1] = 4; return a[1] + a[0]; } main { a[0] = 2; out w(); }
abbrev pub storing_text : Tree
storing_text =
    global (CriticalArray a 3)
    ∷ text_of (Operation 7) (codes "w") [] (assign_element a (number 1) (number 4) ∷ return (binary Plus (element a (number 1)) (element a (number 0))) ∷ [])
    ∷ main_of (assign_element a (number 0) (number 2) ∷ put (calling (codes "w") []) ∷ []) ∷ []

pub record CellsAreShown : Type 0 where
  pub computing : shown_of computing_text [] 30 ≡ pos 2 ∷ negsuc 3 ∷ negsuc 2 ∷ negsuc 0 ∷ []
  pub storing : shown_of storing_text [] 30 ≡ pos 6 ∷ []
  pub loads : loads_of_call 7 0 (lang_events storing_text [] 30) ≡ cell_value 1 4 ∷ cell_value 0 2 ∷ []
  pub stores : stores_up_to_call 7 0 (lang_events storing_text [] 30) ≡ cell_value 0 2 ∷ cell_value 1 4 ∷ []
