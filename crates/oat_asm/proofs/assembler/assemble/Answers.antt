use Rattle.std.proofs.Common.{sym, subst}
use Rattle.oat_asm.specs.Items.{BranchesAreInRange, AddressesHaveRegisters}
use Rattle.oat_asm.proofs.assembler.assemble.Goals as goal

pub code-requires-clause-branches : goal.code-requires-clause-branches
code-requires-clause-branches c =
    subst BranchesAreInRange (sym c.as_slice-items.ensures) c.requires.branches

pub code-requires-clause-registers : goal.code-requires-clause-registers
code-requires-clause-registers c =
    subst AddressesHaveRegisters (sym c.as_slice-items.ensures) c.requires.registers
