-- The text of the drill's program, line by line, and the drill's case (docs/FORMATS.md, "Drill").
use Rattle.std.specs.{Prelude.ℕ, Prelude.ℤ, Prelude.List, Prelude.[], Prelude.◌∷◌, Prelude.◌++◌, Prelude.None, Prelude.map, Prelude.replicate, Prelude.codes, Fmt.signed_decimal, Int.w64}
use Rattle.std.specs.{Int.to_be_bytes, List.flat_map, List.range_with_len}
use Rattle.oat_text.specs.{ended}
use Rattle.oat_case.specs.declared.case.Case.{Case}
use Rattle.oat_make.specs.Drill.{drill_limit, drill_constant, drill_inputs, helper_name}

abbrev pub helper_lines : ℕ → ℤ → List (List ℕ)
helper_lines j constant =
    (codes "func " ++ helper_name j ++ codes " v:i64") ∷ codes "local k i64" ∷ codes "local m i64" ∷ codes "local c i64"
    ∷ codes "block b0" ∷ (codes "const k " ++ signed_decimal constant) ∷ codes "add v v k" ∷ codes "load m limit" ∷ codes "lt c m v" ∷ codes "branch c over under"
    ∷ codes "block over" ∷ codes "sub v v m" ∷ codes "ret v"
    ∷ codes "block under" ∷ codes "ret v"
    ∷ codes "end" ∷ []

abbrev pub call_line : ℕ → List ℕ
call_line j = codes "call x " ++ helper_name j ++ codes " x"

abbrev pub work_lines : List (List ℕ)
work_lines =
    (codes "operation 1 work n:i64" ∷ codes "local i i64" ∷ codes "local one i64" ∷ codes "local x i64" ∷ codes "local c i64" ∷ codes "local f fn/1"
    ∷ codes "block b0" ∷ codes "const one 1" ∷ codes "jump test"
    ∷ codes "block test" ∷ codes "lt c i n" ∷ codes "branch c body done"
    ∷ codes "block body" ∷ codes "in x" ∷ [])
    ++ map call_line (range_with_len 0 16)
    ++ (codes "ref f h0" ∷ codes "icall x f x" ∷ codes "out x" ∷ codes "add i i one" ∷ codes "jump test"
    ∷ codes "block done" ∷ codes "ret i"
    ∷ codes "end" ∷ [])

abbrev pub main_lines : List (List ℕ)
main_lines = codes "main" ∷ codes "local n i64" ∷ codes "local s i64" ∷ codes "block b0" ∷ codes "const n 80" ∷ codes "call s work n" ∷ codes "halt" ∷ codes "end" ∷ []

-- with any limit and any constants
abbrev pub drill_lines : ℤ → (ℕ → ℤ) → List (List ℕ)
drill_lines limit constant =
    (codes "critical limit " ++ signed_decimal limit) ∷ (flat_map (λ j. helper_lines j (constant j)) (range_with_len 0 16) ++ (work_lines ++ main_lines))

abbrev pub drill_text : ℕ → List ℕ
drill_text n = flat_map ended (drill_lines (drill_limit n) (drill_constant n))

abbrev pub drill_case : ℕ → Case
drill_case n = record {
  session = record { key = replicate 32 75; nonce = replicate 8 0 ++ to_be_bytes w64 n; op = 1; calls = None };
  steps = 4194304;
  inputs = drill_inputs n;
  writes = [];
}
