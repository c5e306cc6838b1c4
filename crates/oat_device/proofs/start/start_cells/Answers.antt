use Rattle.std.proofs.Common.{rules, ◌≡◌, ◌+◌, ◌≤◌, ◌<◌, ℕ, List, ◌∷◌, [], ◌++◌, take, length, get_or, sym, ap, subst, ◌∙◌, arith}
use Rattle.std.proofs.lemmas.{List.map_more, List.take_all, List.Elements.All-from_recursion}
use Rattle.oat_journal.specs.{IsIndex, word_in, global_address, Run.start_memory}
use Rattle.oat_device.proofs.Starting.{words_of, access, read, read-value, cells-are}
use Rattle.oat_device.proofs.start.start_cells.Goals as goal

pub loop-index-init : goal.loop-index-init
loop-index-init c = (c.in_ok-cells.ensures.items, c.in_ok-cells.ensures.len, subst (λ (n : ℕ). length c.as_slice-index-items.result.now ≤ n) (sym c.in_ok-cells.ensures.exact) (let l = c.len.ensures in let a = c.as_slice-index-items.ensures in search rules))

pub unwrap-requires : goal.unwrap-requires
unwrap-requires c =
    let each = All-from_recursion IsIndex c.args.image.now.cells c.requires.fit.cells.each in
    let items = c.as_slice-index-items.ensures in
    let below : get_or c.args.image.now.cells c.loop-index.index-index 0 ≤ 65535 = each c.loop-index.index-index 0 (subst (λ (xs : List ℕ). c.loop-index.index-index < length xs) items c.loop-index-test.true) in
    let index : c.from.result ≡ get_or c.args.image.now.cells c.loop-index.index-index 0 = c.from.ensures ∙ ap (λ (xs : List ℕ). get_or xs c.loop-index.index-index 0) items in
    read c.read8-word.result _ _ c.read8-word.ensures (access c.from.result (subst (λ (n : ℕ). n ≤ 65535) (sym index) below))

pub push_reserved-requires : goal.push_reserved-requires
push_reserved-requires c = let some = c.loop-index.invariant.1 in let room = c.loop-index.invariant.2 in omega (arith, some, room)

pub loop-index-preserved : goal.loop-index-preserved
loop-index-preserved c =
    let memory = start_memory c.args.image.now.words in
    let items = c.as_slice-index-items.result.now in
    let i = c.loop-index.index-index in
    let value : c.unwrap.result ≡ word_in memory (global_address (get_or items i 0)) =
    read-value c.read8-word.result _ _ c.unwrap.result c.read8-word.ensures c.unwrap.ensures
    ∙ ap (λ (m : ℕ → ℕ). word_in m (global_address c.from.result)) c.requires.loaded
    ∙ ap (λ (n : ℕ). word_in memory (global_address n)) c.from.ensures
    in (
      c.push_reserved.ensures.items
          ∙ ap (λ (xs : List ℕ). xs ++ c.unwrap.result ∷ []) c.loop-index.invariant.0
          ∙ ap (λ (v : ℕ). words_of memory (take i items) ++ v ∷ []) value
          ∙ sym (map_more (λ (index : ℕ). word_in memory (global_address index)) items i 0 (omega arith)),
      c.push_reserved.ensures.len ∙ ap (λ (n : ℕ). n + 1) c.loop-index.invariant.1,
      subst (λ (n : ℕ). length items ≤ n) (sym c.push_reserved.ensures.capacity) c.loop-index.invariant.2,
    )

pub returns-clause-words : goal.returns-clause-words
returns-clause-words c =
    let memory = start_memory c.args.image.now.words in
    cells-are memory c.loop-index.cells.items c.args.image.now.cells
    (c.loop-index.invariant.0
    ∙ ap (words_of memory) (take_all c.loop-index.index-index c.as_slice-index-items.result.now (omega arith) ∙ c.as_slice-index-items.ensures))
