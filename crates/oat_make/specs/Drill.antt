-- The drill of a number (docs/FORMATS.md, "Drill"): a program that calls sixteen functions in a loop over 80 inputs. Its constants and inputs are drawn from the number.
use Rattle.std.specs.{Prelude.ℕ, Prelude.zero, Prelude.suc, Prelude.◌+◌, Prelude.◌*◌, Prelude.◌/◌, Prelude.◌%◌, Prelude.◌^◌, Prelude.true, Prelude.List, Prelude.[], Prelude.◌∷◌, Prelude.◌++◌}
use Rattle.std.specs.{Prelude.map, Prelude.ℤ, Prelude.pos, Prelude.codes, Prelude.decimal, List.range_with_len}
use Rattle.oat_check.specs.{Program, Scalar, Func, Plain, Operation, Fn, Add, Sub, Lt, Instr, Const, Binary, Load, RefTo, Call, ICall, Input, Output, numbers, WorkedPrograms.code_block}
use Rattle.oat_check.specs.{WorkedPrograms.number_func, WorkedPrograms.main_func}
use Rattle.oat_text.specs.{Jump, Branch, Ret}

-- ---- the program, with any limit and any constants

-- adds its constant, and takes the limit away from more than that
abbrev pub helper : List ℕ → ℤ → Func
helper name constant =
    number_func name Plain 1 (codes "v" ∷ codes "k" ∷ codes "m" ∷ codes "c" ∷ [])
    (code_block (codes "b0") (Const 1 constant ∷ Binary Add 0 0 1 ∷ Load 2 0 ∷ Binary Lt 3 2 0 ∷ []) (Branch 3 1 2)
    ∷ code_block (codes "over") (Binary Sub 0 0 2 ∷ []) (Ret 0)
    ∷ code_block (codes "under") [] (Ret 0) ∷ [])

abbrev pub helper_name : ℕ → List ℕ
helper_name j = codes "h" ++ decimal j

abbrev pub helper_call : ℕ → Instr
helper_call j = Call 3 j (3 ∷ [])

-- a round: an input goes through all helpers, and once more through the first
abbrev pub round_instrs : List Instr
round_instrs = Input 3 ∷ (map helper_call (range_with_len 0 16) ++ (RefTo 5 0 ∷ ICall 3 5 (3 ∷ []) ∷ Output 3 ∷ Binary Add 1 1 2 ∷ []))

abbrev pub drill_work : Func
drill_work = record {
  name = codes "work";
  role = Operation 1;
  params = 1;
  locals = numbers (codes "n" ∷ codes "i" ∷ codes "one" ∷ codes "x" ∷ codes "c" ∷ []) ++ (record { name = codes "f"; ty = Fn 1 } ∷ []);
  blocks =
      code_block (codes "b0") (Const 2 (pos 1) ∷ []) (Jump 1)
      ∷ code_block (codes "test") (Binary Lt 4 1 0 ∷ []) (Branch 4 2 3)
      ∷ code_block (codes "body") round_instrs (Jump 1)
      ∷ code_block (codes "done") [] (Ret 1) ∷ [];
}

abbrev pub drill_main : Func
drill_main = main_func (codes "n" ∷ codes "s" ∷ []) (Const 0 (pos 80) ∷ Call 1 16 (0 ∷ []) ∷ [])

abbrev pub drill_with : ℤ → (ℕ → ℤ) → Program
drill_with limit constant = record {
  globals = Scalar (codes "limit") limit true ∷ [];
  funcs = map (λ j. helper (helper_name j) (constant j)) (range_with_len 0 16) ++ (drill_work ∷ drill_main ∷ []);
}

-- ---- the draws of a number n, counted from 0

abbrev pub stirred : ℕ → ℕ
stirred state = (state * 6364136223846793005 + 1442695040888963407) % 2 ^ 64

-- behind k draws
abbrev pub drill_state : ℕ → ℕ → ℕ
drill_state n zero = n
drill_state n (suc k) = stirred (drill_state n k)

abbrev pub draw : ℕ → ℕ → ℕ
draw n k = drill_state n (suc k) / 2 ^ 33

abbrev pub drill_limit : ℕ → ℤ
drill_limit n = pos (draw n 0 % 1000)

abbrev pub drill_constant : ℕ → ℕ → ℤ
drill_constant n j = pos (draw n (1 + j) % 100)

abbrev pub drill_input : ℕ → ℕ → ℤ
drill_input n k = pos (draw n (17 + k) % 1000)

abbrev pub drill_program : ℕ → Program
drill_program n = drill_with (drill_limit n) (drill_constant n)

abbrev pub drill_inputs : ℕ → List ℤ
drill_inputs n = map (drill_input n) (range_with_len 0 80)
