-- Runs start good, so each of their steps is lawful: the programs are a source as the end to end promise wants it.
use Rattle.std.proofs.Common.{◌≡◌, ℕ, suc, Bool, true, false, cond, ◌||◌, List, [], ◌∷◌, Some, refl, ap, arith, ltb}
use Rattle.std.specs.{Prelude.slice_get, Prelude.is_some, List.list_any, Prelude.◌+◌, Prelude.◌<◌, Prelude.◌≤◌, Prelude.take, Prelude.get_or, Prelude.Option, Prelude.Some, Prelude.None, List.sum_by}
use Rattle.std.proofs.lemmas.{Bool.ltb-true, List.Sums.sum_by_more_le, Option.cond_some, Option.slice_get_within, Option.get_or_from_slice_get}
use Rattle.oat_events.specs.Source.{Finish}
use Rattle.oat_ir.specs.{declared.program.Program.Program, declared.func.Func.Func, declared.func.Role.TheVariants.Main, declared.program.GlobalItem.GlobalItem}
use Rattle.oat_check.specs.{Globals.of_global, Globals.size_in_words, Keeping.RunsStartConsistent, Keeping.StepsAreLawful, Rules.is_main, RunLaws.WordsAreFew, Runs.main_number, Steps.SourceState}
use Rattle.oat_check.specs.{Steps.at_line, Steps.current_line, Steps.silent, Steps.source_step}
use Rattle.oat_check.proofs.{Checking.has_main, Checking.func_formed, Checking.keeps_rules, Locals.zero_value, Locals.first_globals, Frames.there, Lines.role_is, Lines.main_role, Lines.step_lawful}

pub record IsMain (p : Program) (n : ℕ) (fs : List Func) : Type 0 where
  pub func : Func
  pub is : slice_get fs n ≡ Some func
  pub main : is_main func ≡ true

finds_main : (p : Program) (fs : List Func) → list_any is_main fs ≡ true → IsMain p (main_number fs) fs
finds_main p [] h = absurd (cc)
finds_main p (f ∷ fs) h = by (is_main f) refl h (finds_main p fs) where
  by : (t : Bool) → is_main f ≡ t → (t || list_any is_main fs) ≡ true → (list_any is_main fs ≡ true → IsMain p (main_number fs) fs) → IsMain p (cond t 0 (suc (main_number fs))) (f ∷ fs)
  by true e k rest = record { func = f; is = refl; main = e }
  by false e k rest = let m = rest k in record { func = m.func; is = m.is; main = m.main }

pub runs_start_consistent : RunsStartConsistent
runs_start_consistent p ok inputs =
    let m = finds_main p p.funcs (has_main p ok) in
    let b = there m.func.blocks 0 (func_formed p ok (main_number p.funcs) m.func m.is).begun in
    record {
      stands = record { func = m.func; block = b.item; func_is = m.is; block_is = b.is; inside = omega arith; locals = λ x ty at. zero_value p ty };
      callers = role_is p (main_number p.funcs) m.func Main m.is (main_role m.func.role m.main);
      few = omega arith;
      globals = first_globals p;
    }

pub steps_are_lawful : StepsAreLawful
steps_are_lawful p ok s g = step_lawful p ok s g

-- an ended run stays as it is, and shows nothing
pub ended_step : (p : Program) (s : SourceState) (why : Finish) → s.end ≡ Some why → source_step p s ≡ silent s
ended_step p s why is = ap (λ o. cond (is_some o) (silent s) (at_line p s (current_line p s.frame))) is

pub words_are_few : WordsAreFew
words_are_few p ok g i word at = by (slice_get p.globals g) refl where
  h : (ltb i (of_global size_in_words (slice_get p.globals g)) ≡ true) × (sum_by size_in_words (take g p.globals) + i ≡ word)
  h = cond_some (ltb i (of_global size_in_words (slice_get p.globals g))) _ _ at

  l : i < of_global size_in_words (slice_get p.globals g)
  l = ltb-true _ _ h.0

  by : (o : Option GlobalItem) → slice_get p.globals g ≡ o → word < 65536
  by None is = let z : of_global size_in_words (slice_get p.globals g) ≡ 0 = ap (of_global size_in_words) is in let m : i < of_global size_in_words (slice_get p.globals g) = l in absurd (omega arith)
  by (Some item) is =
      let z : of_global size_in_words (slice_get p.globals g) ≡ size_in_words item = ap (of_global size_in_words) is in
      let m : i < of_global size_in_words (slice_get p.globals g) = l in
      let e : sum_by size_in_words (take g p.globals) + i ≡ word = h.1 in
      let s : sum_by size_in_words (take g p.globals) + size_in_words (get_or p.globals g item) ≤ sum_by size_in_words p.globals = sum_by_more_le size_in_words p.globals g item (slice_get_within p.globals g item is) in
      let x : size_in_words (get_or p.globals g item) ≡ size_in_words item = ap size_in_words (get_or_from_slice_get p.globals g item item is) in
      let w : sum_by size_in_words p.globals ≤ 65536 = (keeps_rules p ok.accepted).words in
      omega arith
