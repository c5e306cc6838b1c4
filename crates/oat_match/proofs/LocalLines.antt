-- The source's step at each line whose operands are locals alone.
use Rattle.std.proofs.Common.{◌≡◌, ℕ, ℤ, Bool, true, false, cond, eqb, eqb-true, ◌&&◌, List, [], ◌∷◌, Option, Some, None, FitsSigned, refl, sym, subst, ◌∙◌, arith}
use Rattle.std.specs.{Prelude.slice_get, Int.w64, List.AllByRecursion}
use Rattle.std.proofs.lemmas.Bool.{and_parts, eqb-false}
use Rattle.oat_check.proofs.Checking.{OneTy, alike}
use Rattle.oat_globals.specs.{Program, Func, BinOp, DivZero, InputEnd, halted, trapped, Running, number, result_of, IsChecked, are_alike, holds_number, local_ty, SourceState, branches, computes, does}
use Rattle.oat_globals.specs.{goes_to, jumps, line_place, sets, silent, takes_in, Output, CodeStands, World, home_in, line_address, IsLineAt}
use Rattle.oat_locals.specs.{Code.binary_code, Code.branch_code, Code.const_code, Code.copy_code, Code.halt_code, Code.input_code, Code.jump_code, Code.output_code, Lines.IsBinaryLine}
use Rattle.oat_locals.specs.{Lines.IsCopyLine, Lines.IsInputLine, Terminators.BlockBegins, Terminators.IsBranchLine}
use Rattle.oat_locals.proofs.LineLaws.{binaries-lead, divisions-trap, consts-lead, copies-lead, inputs-lead, input-ends-trap, outputs-lead, jumps-lead, taken-branches-lead, other-branches-lead}
use Rattle.oat_locals.proofs.LineLaws.{branches-are-apart, halts-end}
use Rattle.oat_symbols.specs.Programs.{label_of_block}
use Rattle.oat_match.specs.{Compiled.IsCompiled, Matching.GoesAlike, Matching.StepIsMatched, Matching.words_held}
use Rattle.oat_match.proofs.{Landing.assigns, Landing.comes, Landing.ends, Landing.steps, Operands.local_inside, Operands.number_local}
use Rattle.oat_check.specs.Steps as source

module _ (p : Program) (ok : IsChecked p) (w : World) (c : IsCompiled p w) (s : SourceState) (m : Running) (going : s.end ≡ None) (r : GoesAlike p w s m) (func : Func) (is : slice_get p.funcs s.frame.func ≡ Some func) where
  pub const_matched : (x : ℕ) (value : ℤ) → holds_number func x ≡ true → IsLineAt w s.frame (const_code (home_in w s.frame x) value) → StepIsMatched p w (silent (sets s x (number value))) m
  const_matched x value typed line =
      assigns p w s m going r x (number value) 5 (omega arith) (consts-lead w c.world s.frame s.callers (words_held p s.globals) x value m r.is_at (record { line = line; to = number_local p ok w c.data_of s.frame func is x typed }))

  pub copy_matched : (x y : ℕ) → are_alike (local_ty func x) (local_ty func y) ≡ true → IsLineAt w s.frame (copy_code (home_in w s.frame x) (home_in w s.frame y)) → StepIsMatched p w (silent (sets s x (s.frame.locals y))) m
  copy_matched x y typed line =
      let t : OneTy (local_ty func x) (local_ty func y) = alike (local_ty func x) (local_ty func y) typed in
      let this : IsCopyLine w s.frame x y = record {
        line = line;
        to_local = local_inside p ok w c.data_of s.frame.func func is x t.ty t.first;
        from_local = local_inside p ok w c.data_of s.frame.func func is y t.ty t.second;
        types = c.data_of.types s.frame.func func is y t.ty t.second ∙ sym (c.data_of.types s.frame.func func is x t.ty t.first);
      } in
      assigns p w s m going r x (s.frame.locals y) 2 (omega arith) (copies-lead w c.world s.frame s.callers (words_held p s.globals) x y m r.is_at this)

  pub binary_matched : (op : BinOp) (x y z : ℕ) → (holds_number func x && holds_number func y && holds_number func z) ≡ true → IsLineAt w s.frame (binary_code op (home_in w s.frame x) (home_in w s.frame y) (home_in w s.frame z))
      → StepIsMatched p w (computes s x (result_of op (s.frame.locals y) (s.frame.locals z))) m
  binary_matched op x y z typed line = by (result_of op (s.frame.locals y) (s.frame.locals z)) refl where
    this : IsBinaryLine w s.frame op x y z
    this =
        let both = and_parts (holds_number func x && holds_number func y) (holds_number func z) typed in
        let first = and_parts (holds_number func x) (holds_number func y) both.0 in
        record {
          line = line;
          to = number_local p ok w c.data_of s.frame func is x first.0;
          left = number_local p ok w c.data_of s.frame func is y first.1;
          right = number_local p ok w c.data_of s.frame func is z both.1;
        }

    by : (o : Option ℕ) → result_of op (s.frame.locals y) (s.frame.locals z) ≡ o → StepIsMatched p w (computes s x o) m
    by (Some value) found = assigns p w s m going r x value 6 (omega arith) (binaries-lead w c.world s.frame s.callers (words_held p s.globals) op x y z value m r.is_at this found)
    by None found = ends p w s m going r (trapped DivZero) 4 (omega arith) (divisions-trap w c.world s.frame s.callers (words_held p s.globals) op x y z m r.is_at this found)

  fit_of : (xs : List ℤ) → s.inputs ≡ xs → AllByRecursion (FitsSigned w64) xs
  fit_of xs e = subst (AllByRecursion (FitsSigned w64)) e r.fit

  pub input_matched : (x : ℕ) → holds_number func x ≡ true → IsLineAt w s.frame (input_code (home_in w s.frame x)) → StepIsMatched p w (takes_in s x s.inputs) m
  input_matched x typed line = by s.inputs refl where
    this : IsInputLine w s.frame x
    this = record { line = line; to = number_local p ok w c.data_of s.frame func is x typed }

    by : (xs : List ℤ) → s.inputs ≡ xs → StepIsMatched p w (takes_in s x xs) m
    by [] none = ends p w s m going r (trapped InputEnd) 1 (omega arith) (input-ends-trap w c.world s.frame s.callers (words_held p s.globals) x m r.is_at this (r.inputs ∙ none))
    by (value ∷ rest) some =
        let fit : AllByRecursion (FitsSigned w64) (value ∷ rest) = fit_of (value ∷ rest) some in
        comes p w s m going r (silent (sets (record s { inputs = rest }) x (number value))) [] rest m.outputs 2 (omega arith) going refl fit.1 refl
        (inputs-lead w c.world s.frame s.callers (words_held p s.globals) x value rest m r.is_at this (r.inputs ∙ some) fit.0)

  pub output_matched : (x : ℕ) → holds_number func x ≡ true → IsLineAt w s.frame (output_code (home_in w s.frame x)) → StepIsMatched p w (does p s s.frame.locals (Output x)) m
  output_matched x typed line =
      comes p w s m going r (does p s s.frame.locals (Output x)) _ m.inputs _ 2 (omega arith) going (sym r.inputs) (fit_of m.inputs (sym r.inputs)) refl
      (outputs-lead w c.world s.frame s.callers (words_held p s.globals) x m r.is_at (record { line = line; from = number_local p ok w c.data_of s.frame func is x typed }))

  -- ---- terminators, at the places of their blocks

  pub jump_matched : (to : ℕ) → BlockBegins w s.frame to (label_of_block p s.frame.func to) → CodeStands w (line_address w s.frame) (jump_code (label_of_block p s.frame.func to))
      → StepIsMatched p w (goes_to s (jumps (line_place s.frame) to) to) m
  jump_matched to begins code =
      steps p w s m going r (goes_to s (jumps (line_place s.frame) to) to) _ 1 (omega arith) going refl refl
      (jumps-lead w c.world s.frame s.callers (words_held p s.globals) to (label_of_block p s.frame.func to) m r.is_at (record { code = code; block = begins }))

  pub branch_matched : (x first second : ℕ) → holds_number func x ≡ true → BlockBegins w s.frame first (label_of_block p s.frame.func first) → BlockBegins w s.frame second (label_of_block p s.frame.func second)
      → CodeStands w (line_address w s.frame) (branch_code (home_in w s.frame x) (label_of_block p s.frame.func first) (label_of_block p s.frame.func second))
      → StepIsMatched p w (cond (eqb (s.frame.locals x) 0) (goes_to s (branches (line_place s.frame) false second) second) (goes_to s (branches (line_place s.frame) true first) first)) m
  branch_matched x first second typed begins also code = by (eqb (s.frame.locals x) 0) refl where
    taken : ℕ
    taken = label_of_block p s.frame.func first

    other : ℕ
    other = label_of_block p s.frame.func second

    this : IsBranchLine w s.frame x first second taken other
    this = record {
      code = code;
      from = number_local p ok w c.data_of s.frame func is x typed;
      first_block = begins;
      second_block = also;
      apart = branches-are-apart w s.frame (home_in w s.frame x) taken other c.shaped code;
    }

    by : (t : Bool) → eqb (s.frame.locals x) 0 ≡ t
        → StepIsMatched p w (cond t (goes_to s (branches (line_place s.frame) false second) second) (goes_to s (branches (line_place s.frame) true first) first)) m
    by true zero =
        steps p w s m going r (goes_to s (branches (line_place s.frame) false second) second) _ 4 (omega arith) going refl refl
        (other-branches-lead w c.world s.frame s.callers (words_held p s.globals) x first second taken other m r.is_at this (eqb-true (s.frame.locals x) 0 zero))
    by false some =
        steps p w s m going r (goes_to s (branches (line_place s.frame) true first) first) _ 3 (omega arith) going refl refl
        (taken-branches-lead w c.world s.frame s.callers (words_held p s.globals) x first second taken other m r.is_at this (eqb-false (s.frame.locals x) 0 some))

  pub halt_matched : CodeStands w (line_address w s.frame) halt_code → StepIsMatched p w (source.ends_by s halted) m
  halt_matched code = ends p w s m going r halted 1 (omega arith) (halts-end w c.world s.frame s.callers (words_held p s.globals) m r.is_at code)
