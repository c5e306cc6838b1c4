-- The start of a compiled program's run: its prologue leads to where the source starts, and its cells hold what the source's hold.
use Rattle.std.proofs.Common.{◌≡◌, ◌+◌, ◌*◌, ◌≤◌, ℕ, ℤ, List, [], inl, Option, option_map, Some, None, refl, sym, ap, subst, ◌∙◌, arith}
use Rattle.std.specs.{Prelude.slice_get, Prelude.unwrap_or, Option.option_and_then, List.sum_by}
use Rattle.std.proofs.Math.Path.{fun_ext}
use Rattle.oat_check.proofs.{Checking.func_formed, Kept.keeps}
use Rattle.oat_frames.proofs.FrameLaws.{start-leads}
use Rattle.oat_globals.specs.{code_base, global_address, word_in, Program, Func, BlockIr, Role, Main, Ty, I64, Fn, IsFunc, IsRole, start_memory, cell_values, cell_words, first_values, size_in_words}
use Rattle.oat_globals.specs.{word_values, IsConsistent, CellWordsAreThere, CellsAreWords, IsChecked, main_number, source_start, operation_number, IsFunctionAt, prologue_end, CodeStands, prologue}
use Rattle.oat_globals.specs.{StepsTo, GlobalsAt, Represents, World, main_frame, started, Operations.role_words}
use Rattle.oat_match.specs.{Compiled.FunctionBegins, Compiled.IsCompiled, Matching.CellsStartAlike, Matching.StartsAreMatched, Matching.words_held}
use Rattle.oat_match.proofs.{Placing.block_begins, Placing.function_at, Words.FirstWord, Words.IsFirst, Words.first_word_at}

-- ---- words

module _ (p : Program) (w : World) (c : IsCompiled p w) where
  first_represents : (ty : Ty) (value : ℕ) → IsFirst ty value → Represents w ty value value
  first_represents I64 value small = record { known = small; is = refl }
  first_represents (Fn k) value null = subst (λ (n : ℕ). Represents w (Fn k) n n) (sym null) (record { known = inl refl; is = refl })

  globals_start : GlobalsAt w (start_memory w.image.words) (words_held p (first_values p))
  globals_start i l =
      let all : w.globals ≡ sum_by size_in_words p.globals = c.data_of.globals in
      let f : FirstWord p.globals i = first_word_at p.globals i (omega arith) in
      let ty_is : w.global_ty i ≡ f.ty = c.data_of.global_types i f.ty f.ty_is in
      let held : words_held p (first_values p) i ≡ f.value = ap (λ (o : Option ℕ). unwrap_or o 0) f.is in
      let word : word_in (start_memory w.image.words) (global_address i) ≡ f.value = c.words i f.value f.is in
      subst (λ (t : Ty). Represents w t (words_held p (first_values p) i) (word_in (start_memory w.image.words) (global_address i))) (sym ty_is)
      (subst (λ (v : ℕ). Represents w f.ty v (word_in (start_memory w.image.words) (global_address i))) (sym held)
      (subst (λ (v : ℕ). Represents w f.ty f.value v) (sym word) (first_represents f.ty f.value f.first)))

-- ---- main

same_role : (a b : Role) → Some a ≡ Some b → a ≡ b
same_role a b h = cc

module _ (p : Program) (ok : IsChecked p) (w : World) (c : IsCompiled p w) (inputs : List ℤ) (main : ℕ) (func : Func) (is : slice_get p.funcs main ≡ Some func) (role : func.role ≡ Main) where
  no_params : func.params ≡ 0
  no_params =
      let formed : IsFunc p func = func_formed p ok main func is in
      (subst (λ (r : Role). IsRole r func) role formed.role).1

  start : w.label main ≡ code_base → (block : BlockIr) → slice_get func.blocks 0 ≡ Some block → StepsTo w 257 (main_frame main) [] (words_held p (first_values p)) [] (started w.image inputs)
  start at block there =
      let here : IsFunctionAt w main 0 = function_at p ok w c main func is 0 (sym no_params) in
      let begins : FunctionBegins p w main func = c.functions main func is in
      start-leads w c.world main inputs (words_held p (first_values p)) at
      (subst (λ (a : ℕ). CodeStands w a (prologue (w.is_leaf main) 0 (w.locals main))) at here.start)
      (block_begins p ok w c main 0 func block is there ∙ begins.first ∙ ap (λ (r : Role). prologue_end w main + 4 * role_words (operation_number r)) role ∙ nothing (prologue_end w main))
      (globals_start p w c) where
        nothing : (n : ℕ) → n + 4 * 0 ≡ n
        nothing n = omega arith

pub starts_are_matched : StartsAreMatched
starts_are_matched p ok w c inputs fit =
    let first : IsConsistent p (source_start p inputs) = (keeps p ok inputs).good in
    let role : first.stands.func.role ≡ Main = same_role first.stands.func.role Main (sym (ap (option_map (λ f. f.role)) first.stands.func_is) ∙ first.callers) in
    let s : StepsTo w 257 (main_frame (main_number p.funcs)) [] (words_held p (first_values p)) [] (started w.image inputs) =
    start p ok w c inputs (main_number p.funcs) first.stands.func first.stands.func_is role c.main first.stands.block first.stands.block_is in
    record {
      to = s.to;
      count = s.count;
      few = let l : s.count ≤ 257 = s.few in omega arith;
      runs = s.runs;
      related = record { consistent = first; alike = record { inputs = s.inputs; fit = fit; is_at = s.is_at } };
    }

-- ---- cells

pub cells_start_alike : CellsAreWords → CellWordsAreThere → CellsStartAlike
cells_start_alike are there p w c = fun_ext (λ cell. by cell (slice_get (cell_words p.globals) cell) refl) where
  by : (cell : ℕ) (o : Option ℕ) → slice_get (cell_words p.globals) cell ≡ o
      → option_map (λ index. word_in (start_memory w.image.words) (global_address index)) (slice_get w.image.cells cell) ≡ cell_values p.globals (first_values p) cell
  by cell o is =
      ap (λ (cells : List ℕ). option_map (λ index. word_in (start_memory w.image.words) (global_address index)) (slice_get cells cell)) c.cells
      ∙ ap (option_map (λ index. word_in (start_memory w.image.words) (global_address index))) is
      ∙ alike o is
      ∙ sym (are p (first_values p) cell ∙ ap (option_and_then (word_values p.globals (first_values p))) is) where
        alike : (o : Option ℕ) → slice_get (cell_words p.globals) cell ≡ o
            → option_map (λ index. word_in (start_memory w.image.words) (global_address index)) o ≡ option_and_then (word_values p.globals (first_values p)) o
        alike None is = refl
        alike (Some word) is =
            let v = there p (first_values p) cell word is in
            ap Some (c.words word v.0 v.1) ∙ sym v.1
