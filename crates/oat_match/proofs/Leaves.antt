-- A function that calls is no leaf, so that all its locals have slots.
use Rattle.std.proofs.Common.{◌≡◌, ◌||◌, inl, inr, ℕ, zero, suc, Bool, true, false, not, List, [], ◌∷◌, Some, refl, sym, ap, ◌∙◌}
use Rattle.std.specs.{Prelude.slice_get, List.list_any}
use Rattle.oat_globals.specs.{Program, Func, BlockIr, Instr, instruction, is_calling, Frame, current_line, line_place, World, IsSlotted, is_leaf}
use Rattle.oat_match.specs.Compiled.{HasDataOf}
use Rattle.oat_match.proofs.Finding.{Located, LineCases, line_cases, located}

either : (b : Bool) → (b || true) ≡ true
either true = refl
either false = refl

passed_at : {X : Type 0} (test : X → Bool) (xs : List X) (k : ℕ) (x : X) → slice_get xs k ≡ Some x → test x ≡ true → list_any test xs ≡ true
passed_at test [] k x is passes = absurd (cc)
passed_at test (y ∷ ys) zero x is passes = let same : y ≡ x = cc in ap (λ (b : Bool). b || list_any test ys) (ap test same ∙ passes)
passed_at test (y ∷ ys) (suc k) x is passes = ap (λ (b : Bool). test y || b) (passed_at test ys k x is passes) ∙ either (test y)

module _ (p : Program) (w : World) (d : HasDataOf p w) where
  pub calls_slotted : (f : Frame) (i : Instr) → current_line p f ≡ Some (instruction i) → is_calling i ≡ true → IsSlotted w f.func
  calls_slotted f i here calls = by (located p (line_place f) (instruction i) here) where
    at_line : (block : BlockIr) → LineCases block f.line (instruction i) → list_any is_calling block.instrs ≡ true
    at_line block (inl found) = passed_at is_calling block.instrs f.line found.0 found.1 (ap is_calling (same found.0 found.2) ∙ calls) where
      same : (j : Instr) → instruction i ≡ instruction j → j ≡ i
      same j e = cc
    at_line block (inr end) = absurd (cc)

    by : Located p (line_place f) (instruction i) → w.is_leaf f.func ≡ false
    by l =
        d.leaves f.func l.func l.is
        ∙ ap not (passed_at (λ block. list_any is_calling block.instrs) l.func.blocks f.block l.block l.there (at_line l.block (line_cases l.block f.line (instruction i) l.here)))
