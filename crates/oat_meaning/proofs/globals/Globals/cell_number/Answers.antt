use Rattle.std.proofs.Common.{◌≡◌, ◌≤◌, ◌+◌, length, Some, None, subst, arith}
use Rattle.oat_check.specs.Globals.{cell_number, size_in_cells}
use Rattle.oat_meaning.specs.Globals.{Stored}
use Rattle.oat_meaning.proofs.Slots.{cell_there, found_slot, no_cell, no_slot, none_past}
use Rattle.oat_meaning.proofs.globals.Globals.cell_number.Goals as goal

pub overflow_add-result : goal.overflow_add-result
overflow_add-result c =
    let look = c.in-Some.ensures.lookup in
    let told = found_slot c.self.inside.program.now.globals c.self.inside.slots.items c.as_slice.result.now c.args.global c.in-Some.slot.now c.self.invariant c.as_slice.ensures.value look.3.0 look.1 in
    let few = told.few in
    let l = c.if-i-slot.true in
    omega (arith, few, l)

pub returns-in-Some : goal.returns-in-Some
returns-in-Some c =
    let look = c.in-Some.ensures.lookup in
    let told = found_slot c.self.inside.program.now.globals c.self.inside.slots.items c.as_slice.result.now c.args.global c.in-Some.slot.now c.self.invariant c.as_slice.ensures.value look.3.0 look.1 in
    subst (λ (s : Stored). Some (c.in-Some.slot.now.first_cell + c.args.i) ≡ cell_number s.program c.args.global c.args.i) c.self.view_is
    (cell_there c.self.inside.program.now.globals c.args.global c.args.i c.in-Some.slot.now told c.if-i-slot.true)

pub returns-in_default : goal.returns-in_default
returns-in_default c =
    let look = c.in-Some.ensures.lookup in
    let told = found_slot c.self.inside.program.now.globals c.self.inside.slots.items c.as_slice.result.now c.args.global c.in-Some.slot.now c.self.invariant c.as_slice.ensures.value look.3.0 look.1 in
    subst (λ (s : Stored). None ≡ cell_number s.program c.args.global c.args.i) c.self.view_is
    (no_cell c.self.inside.program.now.globals c.args.global c.args.i c.in-Some.slot.now.cells told.size c.if-i-slot.false)

pub returns-in_default-2 : goal.returns-in_default-2
returns-in_default-2 c =
    let slots = c.self.inside.slots.items in
    let past : length c.as_slice.result.now ≤ c.args.global = none_past c.get.result c.args.global (length c.as_slice.result.now) c.get.ensures.lookup.2 c.in_default.is in
    let none = no_slot size_in_cells c.self.inside.program.now.globals slots c.args.global c.self.invariant (subst (λ xs. length xs ≤ c.args.global) c.as_slice.ensures.value past) in
    subst (λ (s : Stored). None ≡ cell_number s.program c.args.global c.args.i) c.self.view_is
    (no_cell c.self.inside.program.now.globals c.args.global c.args.i 0 none (omega arith))
