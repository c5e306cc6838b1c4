-- The source's step at each line on global data, and at a reference.
use Rattle.std.proofs.Common.{◌≡◌, ◌+◌, ◌<◌, ◌≤◌, ◌^◌, ◌&&◌, inl, inr, ℕ, true, [], ◌∷◌, Option, Some, None, refl, sym, subst, arith}
use Rattle.std.specs.Prelude.{slice_get}
use Rattle.std.proofs.lemmas.Bool.{and_parts, cases_lt}
use Rattle.oat_globals.specs.{Ldr, Str, Program, Func, Load, LoadX, RefTo, Store, StoreX, Index, trapped, Running, cell_number, length_at, is_referenced, instruction, ElementsAreNumbered, IsChecked}
use Rattle.oat_globals.specs.{has_types, holds_number, is_as_scalar, names_array, SourceState, does, reads, writes, World, home_in, home_load, home_store, IsLineAt, IsNumberLocal, Code.define_at_code}
use Rattle.oat_globals.specs.{Code.define_code, Code.load_code, Code.loadx_code, Code.ref_code, Code.store_code, Code.storex_code, Code.use_at_code, Code.use_code, Elements.IsArrayAt}
use Rattle.oat_globals.proofs.GlobalLaws.{critical_element_loads_lead, critical_element_loads_trap, critical_element_stores_lead, critical_element_stores_trap, critical_loads_lead}
use Rattle.oat_globals.proofs.GlobalLaws.{critical_stores_lead, element_loads_lead, element_stores_lead, elements_trap, loads_lead, references_lead, stores_lead}
use Rattle.oat_match.specs.{Code.by_cell, Code.first_word_of, Compiled.IsCompiled, Matching.GoesAlike, Matching.StepIsMatched, Matching.words_held}
use Rattle.oat_match.proofs.{Landing.assigns, Landing.beyond, Landing.ends, Landing.inside, Landing.reads_at, Landing.writes_at, Operands.array_at, Operands.critical_element, Operands.critical_scalar}
use Rattle.oat_match.proofs.{Operands.may_refer, Operands.number_local, Operands.plain_array, Operands.scalar_pair}
use Rattle.oat_asm.specs.declared.item.Item.TheVariants as item

plus_none : (n : ℕ) → n + 0 ≡ n
plus_none n = omega arith

module _ (numbered : ElementsAreNumbered) (p : Program) (ok : IsChecked p) (w : World) (c : IsCompiled p w) (s : SourceState) (m : Running) (going : s.end ≡ None) (r : GoesAlike p w s m) (func : Func) (is : slice_get p.funcs s.frame.func ≡ Some func) where
  -- ---- scalars

  pub load_matched : (x g : ℕ) → is_as_scalar p func x g ≡ true
      → IsLineAt w s.frame (by_cell (cell_number p g 0) (load_code (home_in w s.frame x) (first_word_of p g)) (λ cell. use_code (home_in w s.frame x) (first_word_of p g) cell))
      → StepIsMatched p w (does p s s.frame.locals (Load x g)) m
  load_matched x g typed line = by (cell_number p g 0) refl line where
    n : ℕ
    n = first_word_of p g + 0

    by : (o : Option ℕ) → cell_number p g 0 ≡ o → IsLineAt w s.frame (by_cell o (load_code (home_in w s.frame x) (first_word_of p g)) (λ cell. use_code (home_in w s.frame x) (first_word_of p g) cell))
        → StepIsMatched p w (does p s s.frame.locals (Load x g)) m
    by None none here =
        let fit = scalar_pair p ok w c.data_of s.frame func is g x typed in
        let line2 : IsLineAt w s.frame (load_code (home_in w s.frame x) n) = subst (λ (k : ℕ). IsLineAt w s.frame (load_code (home_in w s.frame x) k)) (sym (plus_none (first_word_of p g))) here in
        reads_at p w s m going r numbered x g 0 n None 4 (omega arith) fit.0 refl none (loads_lead w c.world s.frame s.callers (words_held p s.globals) x n m r.is_at line2 fit.1)
    by (Some cell) some here =
        let fit = scalar_pair p ok w c.data_of s.frame func is g x typed in
        let line2 : IsLineAt w s.frame (use_code (home_in w s.frame x) n cell) = subst (λ (k : ℕ). IsLineAt w s.frame (use_code (home_in w s.frame x) k cell)) (sym (plus_none (first_word_of p g))) here in
        reads_at p w s m going r numbered x g 0 n (Some cell) 6 (omega arith) fit.0 refl some
        (critical_loads_lead w c.world s.frame s.callers (words_held p s.globals) x n cell m r.is_at line2 (critical_scalar p ok w c.data_of s.frame func is g cell x typed some))

  pub store_matched : (g x : ℕ) → is_as_scalar p func x g ≡ true
      → IsLineAt w s.frame (by_cell (cell_number p g 0) (store_code (first_word_of p g) (home_in w s.frame x)) (λ cell. define_code (first_word_of p g) cell (home_in w s.frame x)))
      → StepIsMatched p w (does p s s.frame.locals (Store g x)) m
  store_matched g x typed line = by (cell_number p g 0) refl line where
    n : ℕ
    n = first_word_of p g + 0

    by : (o : Option ℕ) → cell_number p g 0 ≡ o → IsLineAt w s.frame (by_cell o (store_code (first_word_of p g) (home_in w s.frame x)) (λ cell. define_code (first_word_of p g) cell (home_in w s.frame x)))
        → StepIsMatched p w (does p s s.frame.locals (Store g x)) m
    by None none here =
        let fit = scalar_pair p ok w c.data_of s.frame func is g x typed in
        let line2 : IsLineAt w s.frame (store_code n (home_in w s.frame x)) = subst (λ (k : ℕ). IsLineAt w s.frame (store_code k (home_in w s.frame x))) (sym (plus_none (first_word_of p g))) here in
        writes_at p w s m going r numbered g 0 n (s.frame.locals x) None 4 (omega arith) fit.0 refl none (stores_lead w c.world s.frame s.callers (words_held p s.globals) n x m r.is_at line2 fit.1)
    by (Some cell) some here =
        let fit = scalar_pair p ok w c.data_of s.frame func is g x typed in
        let line2 : IsLineAt w s.frame (define_code n cell (home_in w s.frame x)) = subst (λ (k : ℕ). IsLineAt w s.frame (define_code k cell (home_in w s.frame x))) (sym (plus_none (first_word_of p g))) here in
        writes_at p w s m going r numbered g 0 n (s.frame.locals x) (Some cell) 6 (omega arith) fit.0 refl some
        (critical_stores_lead w c.world s.frame s.callers (words_held p s.globals) n cell x m r.is_at line2 (critical_scalar p ok w c.data_of s.frame func is g cell x typed some))

  pub ref_matched : (x callee : ℕ) → has_types p func (instruction (RefTo x callee)) ≡ true → is_referenced p callee ≡ true → IsLineAt w s.frame (ref_code (home_in w s.frame x) callee)
      → StepIsMatched p w (does p s s.frame.locals (RefTo x callee)) m
  ref_matched x callee typed named line =
      let fit = may_refer p ok w c.data_of s.frame func is x callee typed named in
      assigns p w s m going r x (callee + 1) 3 (omega arith) (references_lead w c.world s.frame s.callers (words_held p s.globals) x callee fit.0 m r.is_at line fit.1)

  -- ---- elements

  few_words : (base len : ℕ) → IsArrayAt w base len → len < 2 ^ 32
  few_words base len array = let a : base + len ≤ w.globals = array.inside in let b : w.globals ≤ 65536 = c.world.globals in omega arith

  pub loadx_matched : (x g i : ℕ) → (holds_number func x && names_array p g && holds_number func i) ≡ true
      → IsLineAt w s.frame (by_cell (cell_number p g 0) (loadx_code (home_in w s.frame x) (first_word_of p g) (length_at p g) (home_in w s.frame i)) (λ cell. use_at_code (home_in w s.frame x) (first_word_of p g) cell (length_at p g) (home_in w s.frame i)))
      → StepIsMatched p w (does p s s.frame.locals (LoadX x g i)) m
  loadx_matched x g i typed line = by (cell_number p g 0) refl line where
    one : ((holds_number func x && names_array p g) ≡ true) × (holds_number func i ≡ true)
    one = and_parts (holds_number func x && names_array p g) (holds_number func i) typed

    two : (holds_number func x ≡ true) × (names_array p g ≡ true)
    two = and_parts (holds_number func x) (names_array p g) one.0

    j : ℕ
    j = s.frame.locals i

    by : (o : Option ℕ) → cell_number p g 0 ≡ o → IsLineAt w s.frame (by_cell o (loadx_code (home_in w s.frame x) (first_word_of p g) (length_at p g) (home_in w s.frame i)) (λ cell. use_at_code (home_in w s.frame x) (first_word_of p g) cell (length_at p g) (home_in w s.frame i)))
        → StepIsMatched p w (does p s s.frame.locals (LoadX x g i)) m
    by None none here =
        let array : IsArrayAt w (first_word_of p g) (length_at p g) = array_at p ok w c.data_of g two.1 in
        let index : IsNumberLocal w s.frame i = number_local p ok w c.data_of s.frame func is i one.1 in
        elim (cases_lt (s.frame.locals i) (length_at p g)) [
          | inl l ↦ inside p w s m going r g (s.frame.locals i) (reads p s x g (s.frame.locals i)) l
              (reads_at p w s m going r numbered x g (s.frame.locals i) (first_word_of p g + s.frame.locals i) None 10 (omega arith) l refl (plain_array p ok w c.data_of g two.1 none (s.frame.locals i))
              (element_loads_lead w c.world s.frame s.callers (words_held p s.globals) x (first_word_of p g) (length_at p g) i m r.is_at here (record { array = array; index = index; local = number_local p ok w c.data_of s.frame func is x two.0 }) l))
          | inr more ↦ beyond p w s m going r g (s.frame.locals i) (reads p s x g (s.frame.locals i)) more
              (ends p w s m going r (trapped Index) 6 (omega arith)
              (elements_trap w c.world s.frame s.callers (words_held p s.globals) (first_word_of p g) (length_at p g) i (item.Inst (Ldr 9 11 0) ∷ home_store 9 (home_in w s.frame x) ∷ []) m r.is_at here.code index (few_words (first_word_of p g) (length_at p g) array) more))
        ]
    by (Some cell) some here =
        let fit = critical_element p ok w c.data_of s.frame func is g i x cell two.1 one.1 two.0 some in
        elim (cases_lt (s.frame.locals i) (length_at p g)) [
          | inl l ↦ inside p w s m going r g (s.frame.locals i) (reads p s x g (s.frame.locals i)) l
              (reads_at p w s m going r numbered x g (s.frame.locals i) (first_word_of p g + s.frame.locals i) (Some (cell + s.frame.locals i)) 11 (omega arith) l refl (fit.1 (s.frame.locals i) l)
              (critical_element_loads_lead w c.world s.frame s.callers (words_held p s.globals) x (first_word_of p g) cell (length_at p g) i m r.is_at here fit.0 l))
          | inr more ↦ beyond p w s m going r g (s.frame.locals i) (reads p s x g (s.frame.locals i)) more
              (ends p w s m going r (trapped Index) 5 (omega arith)
              (critical_element_loads_trap w c.world s.frame s.callers (words_held p s.globals) x (first_word_of p g) cell (length_at p g) i m r.is_at here fit.0 more))
        ]

  pub storex_matched : (g i x : ℕ) → (names_array p g && holds_number func i && holds_number func x) ≡ true
      → IsLineAt w s.frame (by_cell (cell_number p g 0) (storex_code (first_word_of p g) (length_at p g) (home_in w s.frame i) (home_in w s.frame x)) (λ cell. define_at_code (first_word_of p g) cell (length_at p g) (home_in w s.frame i) (home_in w s.frame x)))
      → StepIsMatched p w (does p s s.frame.locals (StoreX g i x)) m
  storex_matched g i x typed line = by (cell_number p g 0) refl line where
    one : ((names_array p g && holds_number func i) ≡ true) × (holds_number func x ≡ true)
    one = and_parts (names_array p g && holds_number func i) (holds_number func x) typed

    two : (names_array p g ≡ true) × (holds_number func i ≡ true)
    two = and_parts (names_array p g) (holds_number func i) one.0

    by : (o : Option ℕ) → cell_number p g 0 ≡ o → IsLineAt w s.frame (by_cell o (storex_code (first_word_of p g) (length_at p g) (home_in w s.frame i) (home_in w s.frame x)) (λ cell. define_at_code (first_word_of p g) cell (length_at p g) (home_in w s.frame i) (home_in w s.frame x)))
        → StepIsMatched p w (does p s s.frame.locals (StoreX g i x)) m
    by None none here =
        let array : IsArrayAt w (first_word_of p g) (length_at p g) = array_at p ok w c.data_of g two.0 in
        let index : IsNumberLocal w s.frame i = number_local p ok w c.data_of s.frame func is i two.1 in
        elim (cases_lt (s.frame.locals i) (length_at p g)) [
          | inl l ↦ inside p w s m going r g (s.frame.locals i) (writes p s g (s.frame.locals i) (s.frame.locals x)) l
              (writes_at p w s m going r numbered g (s.frame.locals i) (first_word_of p g + s.frame.locals i) (s.frame.locals x) None 10 (omega arith) l refl (plain_array p ok w c.data_of g two.0 none (s.frame.locals i))
              (element_stores_lead w c.world s.frame s.callers (words_held p s.globals) (first_word_of p g) (length_at p g) i x m r.is_at here (record { array = array; index = index; local = number_local p ok w c.data_of s.frame func is x one.1 }) l))
          | inr more ↦ beyond p w s m going r g (s.frame.locals i) (writes p s g (s.frame.locals i) (s.frame.locals x)) more
              (ends p w s m going r (trapped Index) 6 (omega arith)
              (elements_trap w c.world s.frame s.callers (words_held p s.globals) (first_word_of p g) (length_at p g) i (home_load 9 (home_in w s.frame x) ∷ item.Inst (Str 9 11 0) ∷ []) m r.is_at here.code index (few_words (first_word_of p g) (length_at p g) array) more))
        ]
    by (Some cell) some here =
        let fit = critical_element p ok w c.data_of s.frame func is g i x cell two.0 two.1 one.1 some in
        elim (cases_lt (s.frame.locals i) (length_at p g)) [
          | inl l ↦ inside p w s m going r g (s.frame.locals i) (writes p s g (s.frame.locals i) (s.frame.locals x)) l
              (writes_at p w s m going r numbered g (s.frame.locals i) (first_word_of p g + s.frame.locals i) (s.frame.locals x) (Some (cell + s.frame.locals i)) 11 (omega arith) l refl (fit.1 (s.frame.locals i) l)
              (critical_element_stores_lead w c.world s.frame s.callers (words_held p s.globals) (first_word_of p g) cell (length_at p g) i x m r.is_at here fit.0 l))
          | inr more ↦ beyond p w s m going r g (s.frame.locals i) (writes p s g (s.frame.locals i) (s.frame.locals x)) more
              (ends p w s m going r (trapped Index) 6 (omega arith)
              (critical_element_stores_trap w c.world s.frame s.callers (words_held p s.globals) (first_word_of p g) cell (length_at p g) i x m r.is_at here fit.0 more))
        ]
