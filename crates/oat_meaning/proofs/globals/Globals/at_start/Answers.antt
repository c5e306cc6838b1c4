use Rattle.std.proofs.Common.{◌≡◌, ◌<◌, ◌≤◌, ℕ, ◌+◌, length, List, [], ◌∷◌, ◌++◌, take, map, replicate, get_or, sym, ap, ◌∙◌, subst, arith}
use Rattle.std.specs.List.{sum_by}
use Rattle.std.proofs.Math.Seq.{take-length}
use Rattle.std.proofs.lemmas.{List.map-append, List.map_more, List.Sums.sum_by_more}
use Rattle.oat_check.specs.{Globals.first_values, Globals.size_in_cells, Globals.size_in_words, GlobalItem, Program}
use Rattle.oat_meaning.specs.{declared.globals.Slot.Slot, Globals.AreSlotsOf, Globals.slot_words}
use Rattle.oat_meaning.proofs.Slots.{HaveSlots, cells_are_few, first_words, held, held_first, slot_pushed}
use Rattle.oat_meaning.proofs.globals.Globals.at_start.Goals as goal

pub overflow_add-first_cell : goal.overflow_add-first_cell
overflow_add-first_cell c =
    let items = c.as_slice-items.result.now in
    let few : sum_by size_in_words items ≤ 65536 = subst (λ (xs : List GlobalItem). sum_by size_in_words xs ≤ 65536) (sym c.as_slice-items.ensures) c.requires in
    let low : c.loop-item.item-index < length items = c.loop-item-test.true in
    let cells = cells_are_few items c.loop-item.item-index c.item-item.result few low in
    let own : size_in_cells (get_or items c.loop-item.item-index c.item-item.result) ≡ c.size_in_cells-cells.result = ap size_in_cells (sym c.item-item.is) ∙ sym c.size_in_cells-cells.ensures in
    let so_far = c.loop-item.invariant.cells in
    omega (arith, cells, own, so_far)

pub loop-item-preserved : goal.loop-item-preserved
loop-item-preserved c =
    let items = c.as_slice-items.result.now in
    let slots = c.loop-item.slots in
    let k = c.loop-item.item-index in
    let item = c.item-item.result in
    let low : k < length items = c.loop-item-test.true in
    let pushed = c.push_reserved.ensures in
    let slot : Slot = record { words = c.in_ok-words.words; cells = c.size_in_cells-cells.result; first_cell = c.loop-item.first_cell } in
    let own : c.in_ok-words.words.items ≡ first_words (get_or items k item) =
    c.in_ok-words.ensures.items_if_clones_equal (λ y e. e)
    ∙ (λ i. replicate (c.size_in_words.ensures i) (c.start_of.ensures i)) ∙ ap first_words c.item-item.is in
    let count : length slots.items ≡ k = sym slots.ok.0 ∙ c.loop-item.invariant.count in
    record {
      count = pushed.len ∙ ap (λ (n : ℕ). n + 1) c.loop-item.invariant.count;
      room = let room = c.loop-item.invariant.room in let capacity = pushed.capacity in omega (arith, room, capacity);
      cells =
          ap (λ (n : ℕ). n + c.size_in_cells-cells.result) c.loop-item.invariant.cells
          ∙ ap (λ (n : ℕ). sum_by size_in_cells (take k items) + n) (c.size_in_cells-cells.ensures ∙ ap size_in_cells c.item-item.is)
          ∙ sym (sum_by_more size_in_cells items k item low);
      each = subst (HaveSlots items) (sym pushed.items) (slot_pushed items slots.items k item slot c.loop-item.invariant.each count low c.item-item.is
          (record { words = sym c.in_ok-words.words.ok.0 ∙ c.in_ok-words.ensures.len ∙ c.size_in_words.ensures; cells = c.size_in_cells-cells.ensures; first_cell = c.loop-item.invariant.cells }));
      words =
          ap slot_words pushed.items ∙ map-append (λ (s : Slot). s.words.items) slots.items (slot ∷ [])
          ∙ ap (λ ws. ws ++ c.in_ok-words.words.items ∷ []) c.loop-item.invariant.words
          ∙ ap (λ (w : List ℕ). map first_words (take k items) ++ w ∷ []) own
          ∙ sym (map_more first_words items k item low);
      same = c.as_slice-items.ensures;
    }

pub invariant_of-result : goal.invariant_of-result
invariant_of-result c =
    let past = c.loop-item-test.false in
    let bound = c.loop-item.auto.item-index-end in
    let items = c.as_slice-items.result.now in
    let all : length c.loop-item.slots.items ≡ length items =
    let count = c.loop-item.invariant.count in let own = c.loop-item.slots.ok.0 in omega (arith, past, bound, count, own) in
    subst (λ (xs : List GlobalItem). AreSlotsOf xs c.loop-item.slots.items) c.as_slice-items.ensures
    (record {
      all = all;
      each = c.loop-item.invariant.each;
      few = subst (λ (xs : List GlobalItem). sum_by size_in_words xs ≤ 65536) (sym c.as_slice-items.ensures) c.requires;
    })

pub returns-clause-values : goal.returns-clause-values
returns-clause-values c =
    let past = c.loop-item-test.false in
    let bound = c.loop-item.auto.item-index-end in
    let items = c.as_slice-items.result.now in
    let p : Program = c.args.program.now in
    let whole : take c.loop-item.item-index items ≡ p.globals =
    ap (λ (n : ℕ). take n items) (let m : c.loop-item.item-index ≡ length items = omega (arith, past, bound) in m) ∙ take-length items ∙ c.as_slice-items.ensures in
    ap (held (first_values p)) (c.loop-item.invariant.words ∙ ap (map first_words) whole) ∙ held_first p
