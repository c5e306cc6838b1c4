-- The worked program has all that the laws ask of a program and its code.
use Rattle.std.proofs.Common.{[], ◌∷◌, refl, subst, arith, inl, inr}
use Rattle.std.specs.{Prelude.Contains, Prelude.codes, List.IsDistinct}
use Rattle.std.proofs.lemmas.List.Elements.{All-from_recursion}
use Rattle.oat_map.proofs.NameTests.{name_from_test}
use Rattle.oat_parts.specs.{SubImm, Svc, FetchesByTheTable, IsName, Call, Ret, Begin, End, Parts.simple, Parts.mark, Making.AreCodes}
use Rattle.oat_parts.proofs.Lists.{not_in_none, cons_cases}
use Rattle.oat_check.specs.{Func, BlockIr, HasLocal, IsInstr, IsLocal, IsBlockIr, IsFunc, IsProgram, IsGlobal, idle, idle_main, idle_program, Rules.IsChecked}
use Rattle.oat_symbols.specs.{Programs.symbols_of, Programs.HasValidNames, Worked.idle_codes, Worked.IdleIsBuilt}
use Rattle.oat_symbols.proofs.Codes.{programs_are_built}
use Rattle.oat_check.specs.instr as instr

is_func : IsFunc idle_program idle
unfolding IsDistinct
is_func = record {
  role = (omega arith, omega arith);
  few_params = omega arith;
  params_first = omega arith;
  locals = All-from_recursion IsLocal idle.locals (tt, tt);
  local_names = (tt, tt);
  begun = omega arith;
  labels = (tt, tt);
  blocks = All-from_recursion (IsBlockIr idle_program idle) idle.blocks ((All-from_recursion (IsInstr idle_program idle) [] tt, omega arith), tt);
}

is_main_func : IsFunc idle_program idle_main
unfolding IsDistinct
is_main_func = record {
  role = (refl, refl);
  few_params = omega arith;
  params_first = omega arith;
  locals = All-from_recursion IsLocal idle_main.locals (tt, tt);
  local_names = (tt, tt);
  begun = omega arith;
  labels = (tt, tt);
  blocks = All-from_recursion (IsBlockIr idle_program idle_main) idle_main.blocks
      ((All-from_recursion (IsInstr idle_program idle_main) (instr.Call 0 0 [] ∷ []) ((omega arith, omega arith, (omega arith, All-from_recursion (HasLocal idle_main) [] tt)), tt), tt), tt);
}

is_program : IsProgram idle_program
unfolding IsDistinct
is_program = record {
  globals = All-from_recursion IsGlobal [] tt;
  global_names = tt;
  funcs = All-from_recursion (IsFunc idle_program) idle_program.funcs (is_func, (is_main_func, tt));
  func_names = ((refl, tt), (tt, tt));
  operations = ((refl, tt), (tt, tt));
  size = omega arith;
}

checked : IsChecked idle_program
checked = record { well_formed = is_program; accepted = refl }

-- what holds of both functions holds of each
of_both : (P : Func → Type 0) → P idle → P idle_main → (f : Func) → Contains idle_program.funcs f → P f
of_both P one two f has =
    elim (cons_cases idle (idle_main ∷ []) f has) [
      | inl same ↦ subst P same one
      | inr later ↦ elim (cons_cases idle_main [] f later) [
        | inl same ↦ subst P same two
        | inr none ↦ absurd (not_in_none f none)
      ]
    ]

of_one : (P : BlockIr → Type 0) (b : BlockIr) → P b → (c : BlockIr) → Contains (b ∷ []) c → P c
of_one P b one c has =
    elim (cons_cases b [] c has) [
      | inl same ↦ subst P same one
      | inr none ↦ absurd (not_in_none c none)
    ]

named : HasValidNames idle_program
named = record {
  functions = of_both (λ (f : Func). IsName f.name) (name_from_test (codes "idle") refl) (name_from_test (codes "main") refl);
  blocks = λ f b has also.
      of_both (λ (g : Func). (c : BlockIr) → Contains g.blocks c → IsName c.label)
      (of_one (λ (c : BlockIr). IsName c.label) _ (name_from_test (codes "b0") refl)) (of_one (λ (c : BlockIr). IsName c.label) _ (name_from_test (codes "b0") refl)) f has b also;
}

are_codes : AreCodes (symbols_of idle_program) (symbols_of idle_program).functions idle_codes
are_codes = (
  record {
    prologue = record {
      made = record { parts = simple (SubImm 31 31 16) ∷ []; are = refl; each = (((omega arith, (omega arith, (omega arith, tt))), refl), tt); paced = (tt, refl); labelled = refl; begins = refl };
      word = omega arith;
    };
    blocks = (
      record {
        made = record {
          parts = mark (Call 0) ∷ simple (Svc 0) ∷ [];
          are = refl;
          each = ((1, omega arith, refl), (((omega arith, tt), refl), tt));
          paced = (tt, (tt, refl));
          labelled = refl;
          begins = refl;
        };
        word = omega arith;
      },
      tt,
    );
    count = refl;
  },
  (
    record {
      prologue = record { made = record { parts = mark (Begin 1) ∷ []; are = refl; each = ((omega arith, omega arith), tt); paced = (tt, refl); labelled = refl; begins = refl }; word = omega arith };
      blocks = (
        record {
          made = record {
            parts = mark (End 1) ∷ mark Ret ∷ [];
            are = refl;
            each = (((omega arith, omega arith), (0, omega arith, refl)), (tt, tt));
            paced = (tt, (tt, refl));
            labelled = refl;
            begins = refl;
          };
          word = omega arith;
        },
        tt,
      );
      count = refl;
    },
    tt,
  ),
)

pub idle_is_built : FetchesByTheTable → IdleIsBuilt
idle_is_built fetches = record {
  checked = checked;
  named = named;
  codes = are_codes;
  few = omega arith;
  rows = refl;
  built = (programs_are_built fetches idle_program idle_codes checked named are_codes).1 (omega arith);
}
