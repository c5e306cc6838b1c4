-- Instructions at an address, and the groups of cells.
use Rattle.std.proofs.Common.{◌≡◌, ℕ, ◌≤◌, Bool, false, List, Some, None, sym, ◌∙◌, ap, subst, eqb, eqb-true, eq-eqb}
use Rattle.std.specs.{Prelude.IsTrue, Prelude.◌↔◌, List.slice_get, Option.option_and_then}
use Rattle.std.proofs.lemmas.Bool.{false≢true}
use Rattle.oat_a64.specs.{declared.inst.Inst.Inst, Table.Word, Fetch.inst_of, Step.word_at, Step.instruction_at}
use Rattle.oat_a64.proofs.FetchLemmas.{word_from_inst, inst_from_word}
use Rattle.oat_shape.specs.{Groups.Stands, Parts.AreIndices}
use Rattle.oat_shape.proofs.Scans.{contains_at}

-- an instruction stands where its word stands
pub stands_iff : (code : List ℕ) (address word encoded : ℕ) (inst : Inst) → word_at code address ≡ Some word → Word inst encoded
    → IsTrue (eqb word encoded) ↔ Stands code address inst
stands_iff code address word encoded inst found is =
    let fetched : instruction_at code address ≡ inst_of word = ap (option_and_then inst_of) found in (
      λ yes.
          let same : word ≡ encoded = eqb-true word encoded yes in
          fetched ∙ inst_from_word inst word (subst (Word inst) (sym same) is),
      λ stands.
          let own : Word inst word = word_from_inst inst word (sym fetched ∙ stands) in
          eq-eqb word encoded (own.1 ∙ sym is.1),
    )

-- the word of a cell is one of the first 65,536
pub cell_within : (cells : List ℕ) (cell index : ℕ) → AreIndices cells → slice_get cells cell ≡ Some index → index ≤ 65535
cell_within cells cell index within found = within index (contains_at cells cell index found)

-- a cell's group, of this kind for the word of global data that the cell is
pub cell_iff : (cells : List ℕ) (cell index : ℕ) (Group : ℕ → Type 0) (whole : Bool) → slice_get cells cell ≡ Some index
    → (IsTrue whole ↔ Group index) → IsTrue whole ↔ ((word : ℕ) × (slice_get cells cell ≡ Some word) × Group word)
cell_iff cells cell index Group whole found tells = (
  λ yes. (index, found, tells.0 yes),
  λ group.
      let read = group.1 in
      let same : group.0 ≡ index = cc in
      tells.1 (subst Group same group.2),
)

pub no_cell : (cells : List ℕ) (cell : ℕ) (Group : ℕ → Type 0) → slice_get cells cell ≡ None
    → IsTrue false ↔ ((word : ℕ) × (slice_get cells cell ≡ Some word) × Group word)
no_cell cells cell Group none = (λ yes. absurd (false≢true yes), λ group. let read = group.1 in absurd (cc))
