use Rattle.std.proofs.Common.{◌<◌, length, refl, sym, ap, ◌∙◌, subst, length-set}
use Rattle.oat_check.specs.Globals.{first_values, length_at, put}
use Rattle.oat_meaning.specs.{declared.globals.Slot.Slot, Globals.Stored, Globals.values_of}
use Rattle.oat_meaning.proofs.Slots.{slot_put, slot_set, slot_there}
use Rattle.oat_meaning.proofs.globals.Globals.put.Goals as goal

pub invariant_of-self : goal.invariant_of-self
invariant_of-self c =
    let slots = c.self.inside.slots.items in
    let slot = c.index_mut-slot.result.now in
    let is = c.index_mut-slot.ensures.value in
    let has = subst (λ (s : Stored). c.args.i < length_at s.program c.args.global) (sym c.self.view_is) c.requires in
    let there = slot_there c.self.inside.program.now.globals slots c.args.global c.args.i slot c.self.invariant has in
    slot_set c.self.inside.program.now.globals slots c.args.global _ slot c.self.invariant there.0
    (length-set slot.words.items c.args.i c.args.value ∙ ap (λ (s : Slot). length s.words.items) is) (ap (λ (s : Slot). s.cells) is) (ap (λ (s : Slot). s.first_cell) is)

pub returns-clause-values : goal.returns-clause-values
returns-clause-values c =
    let slots = c.self.inside.slots.items in
    let slot = c.index_mut-slot.result.now in
    let is = c.index_mut-slot.ensures.value in
    let has = subst (λ (s : Stored). c.args.i < length_at s.program c.args.global) (sym c.self.view_is) c.requires in
    let there = slot_there c.self.inside.program.now.globals slots c.args.global c.args.i slot c.self.invariant has in
    slot_put (first_values c.self.inside.program.now) slots c.args.global c.args.i c.args.value slot _ there.0 is
    (subst (λ (s : Slot). c.args.i < length s.words.items) (sym is) there.1) refl
    ∙ ap (λ (s : Stored). put (values_of s) c.args.global c.args.i c.args.value) c.self.view_is
