use Rattle.std.proofs.Common.{◌≡◌, ◌≤◌, ℕ, List, ap, subst, sym, ◌∙◌, arith}
use Rattle.oat_match.specs.{Item, expansion, words_needed, code_limit, AddressesHaveRegisters, BranchesAreInRange, NoMarkIsLeft, CanBeAssembled, LabelsStandOnce, Program, IsChecked, HasValidNames}
use Rattle.oat_gen.specs.Code.{program_items}
use Rattle.oat_build.proofs.{Faulting.assembler_fault, Promising.can_be_assembled}
use Rattle.oat_build.proofs.compiler.build.Goals as goal

pub assemble-requires-clause-marks : goal.assemble-requires-clause-marks
assemble-requires-clause-marks c =
    let same = c.program-program.ensures.same in
    let can = c.programs_can_be_built.ensures c.args.checked.now c.program-program.ensures.checked (subst HasValidNames same c.look_at_names.ensures) in
    subst NoMarkIsLeft (sym c.in_ok-items.ensures.items) can.unmarked

pub assemble-requires-clause-branches : goal.assemble-requires-clause-branches
assemble-requires-clause-branches c =
    let same = c.program-program.ensures.same in
    let can = c.programs_can_be_built.ensures c.args.checked.now c.program-program.ensures.checked (subst HasValidNames same c.look_at_names.ensures) in
    subst BranchesAreInRange (sym c.in_ok-items.ensures.items) can.branches

pub assemble-requires-clause-registers : goal.assemble-requires-clause-registers
assemble-requires-clause-registers c =
    let same = c.program-program.ensures.same in
    let can = c.programs_can_be_built.ensures c.args.checked.now c.program-program.ensures.checked (subst HasValidNames same c.look_at_names.ensures) in
    subst AddressesHaveRegisters (sym c.in_ok-items.ensures.items) can.registers

pub returns-in_err-assembled-clause-needed : goal.returns-in_err-assembled-clause-needed
returns-in_err-assembled-clause-needed c = λ words is.
    let fault =
    assembler_fault c.from_residual-in_err-assembled.result c.assemble.result c.in_err-assembled.field-0.0 (words_needed c.in_ok-items.items) c.from_residual-in_err-assembled.ensures.1 c.in_err-assembled.was c.assemble.ensures.too_large words is in
    fault.0 ∙ ap words_needed c.in_ok-items.ensures.items

pub returns-in_err-assembled-clause-too_large : goal.returns-in_err-assembled-clause-too_large
returns-in_err-assembled-clause-too_large c = λ words is.
    let fault =
    assembler_fault c.from_residual-in_err-assembled.result c.assemble.result c.in_err-assembled.field-0.0 (words_needed c.in_ok-items.items) c.from_residual-in_err-assembled.ensures.1 c.in_err-assembled.was c.assemble.ensures.too_large words is in
    fault.1

pub returns-in_err-assembled-clause-bounded : goal.returns-in_err-assembled-clause-bounded
returns-in_err-assembled-clause-bounded c = λ words is.
    let fault =
    assembler_fault c.from_residual-in_err-assembled.result c.assemble.result c.in_err-assembled.field-0.0 (words_needed c.in_ok-items.items) c.from_residual-in_err-assembled.ensures.1 c.in_err-assembled.was c.assemble.ensures.too_large words is in
    let most = c.programs_have_few_words.ensures c.args.checked.now c.program-program.ensures.checked in
    let needed : words ≡ words_needed (expansion (program_items c.args.checked.now)) = fault.0 ∙ ap words_needed c.in_ok-items.ensures.items in
    omega arith

pub image_of-requires-clause-whole : goal.image_of-requires-clause-whole
image_of-requires-clause-whole c =
    let same = c.program-program.ensures.same in
    let can = c.programs_can_be_built.ensures c.args.checked.now c.program-program.ensures.checked (subst HasValidNames same c.look_at_names.ensures) in
    let few : words_needed c.in_ok-items.items ≤ code_limit = c.in_ok-assembled.ensures.fits in
    subst CanBeAssembled (sym c.in_ok-items.ensures.items) (can_be_assembled c.args.checked.now can (subst (λ (items : List Item). words_needed items ≤ code_limit) c.in_ok-items.ensures.items few))

pub image_of-requires-clause-once : goal.image_of-requires-clause-once
image_of-requires-clause-once c =
    let same = c.program-program.ensures.same in
    let can = c.programs_can_be_built.ensures c.args.checked.now c.program-program.ensures.checked (subst HasValidNames same c.look_at_names.ensures) in
    subst LabelsStandOnce (sym c.in_ok-items.ensures.items) can.once
