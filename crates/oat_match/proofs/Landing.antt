-- From what the laws of single lines come to, a source step that is matched.
use Rattle.std.proofs.Common.{◌≡◌, ◌+◌, ◌<◌, ◌≤◌, ℕ, ℤ, Bool, cond, List, [], map, Option, None, FitsSigned, refl, sym, ap, subst, ◌∙◌, arith}
use Rattle.std.specs.{Int.w64, List.AllByRecursion}
use Rattle.std.proofs.lemmas.Bool.{lt-ltb, le-ltb}
use Rattle.oat_globals.specs.{Index, Program, Finish, Running, cell_number, length_at, put, ElementsAreNumbered, Next, SourceState, assigned, ends_by, in_array, reads, sets, shows, silent, traps_by}
use Rattle.oat_globals.specs.{writes, MachineEvent, seen_at, RunsTo, device_end, ComesTo, EndsWithin, StepsTo, with_result, World, on_next_line}
use Rattle.oat_locals.specs.{loads, stores}
use Rattle.oat_match.specs.{Code.first_word_of, Matching.GoesAlike, Matching.IsAlike, Matching.StepIsMatched, Matching.words_held, Placed.placement}
use Rattle.oat_match.proofs.Words.{word_read, word_written}

module _ (p : Program) (w : World) (s : SourceState) (m : Running) (going : s.end ≡ None) (r : GoesAlike p w s m) where
  -- the source goes on, with these inputs left
  pub comes : (next : Next) (events : List MachineEvent) (asked put : List ℤ) (most : ℕ) → most ≤ 300 → next.state.end ≡ None
      → next.state.inputs ≡ asked → AllByRecursion (FitsSigned w64) asked → map (seen_at (placement p w)) next.shown ≡ events
      → ComesTo w most next.state.frame next.state.callers (words_held p next.state.globals) events asked put m → StepIsMatched p w next m
  comes next events asked put most low still inputs fit shown c = record {
    to = c.to;
    count = c.count;
    some = c.some;
    few = let l : c.count ≤ most = c.few in omega arith;
    runs = subst (λ (es : List MachineEvent). RunsTo w.image c.count m c.to es) (sym shown) c.runs;
    alike = subst (λ (e : Option Finish). IsAlike p w e next.state c.to) (sym still) (record {
      inputs = c.inputs ∙ sym inputs;
      fit = subst (AllByRecursion (FitsSigned w64)) (sym inputs) fit;
      is_at = c.is_at;
    });
  }

  -- with all inputs left
  pub steps : (next : Next) (events : List MachineEvent) (most : ℕ) → most ≤ 300 → next.state.end ≡ None → next.state.inputs ≡ s.inputs
      → map (seen_at (placement p w)) next.shown ≡ events
      → StepsTo w most next.state.frame next.state.callers (words_held p next.state.globals) events m → StepIsMatched p w next m
  steps next events most low still inputs shown c =
      comes next events m.inputs m.outputs most low still (inputs ∙ sym r.inputs) (subst (AllByRecursion (FitsSigned w64)) (sym r.inputs) r.fit) shown c

  -- it ends
  pub ends : (why : Finish) (most : ℕ) → most ≤ 300 → EndsWithin w most (device_end why) m → StepIsMatched p w (ends_by s why) m
  ends why most low e = record { to = e.to; count = e.count; some = e.some; few = let l : e.count ≤ most = e.few in omega arith; runs = e.runs; alike = e.end }

  -- a local is assigned, and nothing shown
  pub assigns : (x value most : ℕ) → most ≤ 300 → StepsTo w most (with_result s.frame x value) s.callers (words_held p s.globals) [] m → StepIsMatched p w (silent (sets s x value)) m
  assigns x value most low c = steps (silent (sets s x value)) [] most low going refl refl c

  -- ---- elements: a read gives the element's value and shows its cell, and so does a write

  module _ (numbered : ElementsAreNumbered) where
    pub reads_at : (x g i n : ℕ) (o : Option ℕ) (most : ℕ) → most ≤ 300 → i < length_at p g → n ≡ first_word_of p g + i → cell_number p g i ≡ o
        → StepsTo w most (with_result s.frame x (words_held p s.globals n)) s.callers (words_held p s.globals) (map (seen_at (placement p w)) (shows o (λ cell. loads cell (words_held p s.globals n)))) m
        → StepIsMatched p w (reads p s x g i) m
    reads_at x g i n o most low h at is c =
        let value : words_held p s.globals n ≡ s.globals g i = ap (words_held p s.globals) at ∙ word_read numbered p s.globals g i h in
        steps (reads p s x g i) (map (seen_at (placement p w)) (shows o (λ cell. loads cell (s.globals g i)))) most low going refl
        (ap (λ (c : Option ℕ). map (seen_at (placement p w)) (shows c (λ cell. loads cell (s.globals g i)))) is)
        (subst (λ (v : ℕ). StepsTo w most (with_result s.frame x v) s.callers (words_held p s.globals) (map (seen_at (placement p w)) (shows o (λ cell. loads cell v))) m) value c)

    pub writes_at : (g i n value : ℕ) (o : Option ℕ) (most : ℕ) → most ≤ 300 → i < length_at p g → n ≡ first_word_of p g + i → cell_number p g i ≡ o
        → StepsTo w most (on_next_line s.frame) s.callers (assigned (words_held p s.globals) n value) (map (seen_at (placement p w)) (shows o (λ cell. stores cell value))) m
        → StepIsMatched p w (writes p s g i value) m
    writes_at g i n value o most low h at is c =
        let written : assigned (words_held p s.globals) n value ≡ words_held p (put s.globals g i value) =
        ap (λ (k : ℕ). assigned (words_held p s.globals) k value) at ∙ sym (word_written numbered p s.globals g i value h) in
        steps (writes p s g i value) (map (seen_at (placement p w)) (shows o (λ cell. stores cell value))) most low going refl
        (ap (λ (c : Option ℕ). map (seen_at (placement p w)) (shows c (λ cell. stores cell value))) is)
        (subst (λ (globals : ℕ → ℕ). StepsTo w most (on_next_line s.frame) s.callers globals (map (seen_at (placement p w)) (shows o (λ cell. stores cell value))) m) written c)

  -- inside the array the line goes on, and beyond it it traps
  pub inside : (g i : ℕ) (next : Next) → i < length_at p g → StepIsMatched p w next m → StepIsMatched p w (in_array p s g i next) m
  inside g i next h c = subst (λ (t : Bool). StepIsMatched p w (cond t next (traps_by s Index)) m) (sym (lt-ltb i (length_at p g) h)) c

  pub beyond : (g i : ℕ) (next : Next) → length_at p g ≤ i → StepIsMatched p w (traps_by s Index) m → StepIsMatched p w (in_array p s g i next) m
  beyond g i next h c = subst (λ (t : Bool). StepIsMatched p w (cond t next (traps_by s Index)) m) (sym (le-ltb i (length_at p g) h)) c
