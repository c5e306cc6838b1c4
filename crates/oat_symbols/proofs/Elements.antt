-- The cells of a program are cells of its table, and those of a critical array are consecutive.
use Rattle.std.proofs.Common.{◌≡◌, ℕ, ◌+◌, ◌-◌, ◌<◌, Bool, cond, List, take, sym, ap, ◌∙◌, Option, Some, None, arith, ltb}
use Rattle.std.specs.{Prelude.slice_get, List.sum_by}
use Rattle.std.proofs.lemmas.{Bool.lt-ltb, Option.slice_get_within, List.Elements.All-contains}
use Rattle.oat_parts.specs.{IsLength, AreElements}
use Rattle.oat_parts.proofs.Lists.{get_in}
use Rattle.oat_check.specs.{Program, GlobalItem, CriticalArray, IsGlobal, IsProgram, Globals.size_in_words, Globals.size_in_cells, Globals.of_global, Globals.element_number, Globals.cell_words}
use Rattle.oat_check.specs.{Globals.cell_number, Globals.word_number, Rules.IsChecked, RunLaws.CellsHaveWords}
use Rattle.oat_symbols.specs.Programs.{HasItsCells, ProgramsHaveTheirCells}

pub numbered : (size : GlobalItem → ℕ) (items : List GlobalItem) (g i : ℕ) (item : GlobalItem) → slice_get items g ≡ Some item → i < size item
    → element_number size items g i ≡ Some (sum_by size (take g items) + i)
numbered size items g i item is less =
    ap (λ (o : Option GlobalItem). cond (ltb i (of_global size o)) (Some (sum_by size (take g items) + i)) None) is
    ∙ ap (λ (b : Bool). cond b (Some (sum_by size (take g items) + i)) None) (lt-ltb i (size item) less)

same_number : (a b : ℕ) (o : Option ℕ) → o ≡ Some a → o ≡ Some b → a ≡ b
same_number a b o one two = let e : Some a ≡ Some b = sym one ∙ two in cc

module _ (cells : CellsHaveWords) (program : Program) (ok : IsChecked program) where
  elements : (g i cell word : ℕ) → cell_number program g i ≡ Some cell → word_number program g i ≡ Some word → slice_get (cell_words program.globals) cell ≡ Some word
  elements g i cell word is has = cells program g i cell is ∙ has

  in_range : (g len : ℕ) (name : List ℕ) → slice_get program.globals g ≡ Some (CriticalArray name len) → IsLength len
  in_range g len name is =
      let formed : IsProgram program = ok.well_formed in
      All-contains IsGlobal program.globals (CriticalArray name len) formed.globals (get_in program.globals g (CriticalArray name len) is)

  array : (g cell word len : ℕ) (name : List ℕ) → slice_get program.globals g ≡ Some (CriticalArray name len) → cell_number program g 0 ≡ Some cell → word_number program g 0 ≡ Some word
      → AreElements (cell_words program.globals) cell len word
  array g cell word len name is first_cell first_word =
      let item = CriticalArray name len in
      let long = in_range g len name is in
      let some = long.0 in
      let low_cell = same_number cell (sum_by size_in_cells (take g program.globals) + 0) (cell_number program g 0) first_cell (numbered size_in_cells program.globals g 0 item is (omega arith)) in
      let low_word = same_number word (sum_by size_in_words (take g program.globals) + 0) (word_number program g 0) first_word (numbered size_in_words program.globals g 0 item is (omega arith)) in
      let each = λ (i : ℕ) (less : i < len).
      let c : sum_by size_in_cells (take g program.globals) + i ≡ cell + i = omega arith in
      let w : sum_by size_in_words (take g program.globals) + i ≡ word + i = omega arith in
      elements g i (cell + i) (word + i) (numbered size_in_cells program.globals g i item is less ∙ ap Some c) (numbered size_in_words program.globals g i item is less ∙ ap Some w) in
      record {
        first = elements g 0 cell word first_cell first_word;
        there = let last = slice_get_within (cell_words program.globals) (cell + (len - 1)) (word + (len - 1)) (each (len - 1) (omega arith)) in omega arith;
        consecutive = each;
      }

  pub has_its_cells : HasItsCells program
  has_its_cells = record {
    elements = elements;
    arrays = λ g cell word len name is first_cell first_word. (array g cell word len name is first_cell first_word, in_range g len name is);
  }

pub programs_have_their_cells : CellsHaveWords → ProgramsHaveTheirCells
programs_have_their_cells cells program ok = has_its_cells cells program ok
