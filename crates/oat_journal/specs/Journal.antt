-- What holds of every journal, whatever was written between its instructions: how its entries are linked, and how large its numbers are (docs/DEFINITIONS.md, "Journal").
use Rattle.std.specs.Prelude.{◌≡◌, ◌+◌, ℕ, ℤ, Bool, false, not, nat_eq, IsTrue, List, Some, slice_get}
use Rattle.oat_image.specs.declared.image.Image.{Image}
use Rattle.oat_case.specs.declared.case.Write.{Write}
use Rattle.oat_measure.specs.{Inst, Svc, Regs, IsBounded, instruction_at, act, with_reg, unsigned}
use Rattle.oat_journal.specs.Run.{Entry, AreGiven, journal, pc_of, next_of}

-- SVC 8
abbrev pub takes_input : Inst → Bool
takes_input (Svc number) = nat_eq number 8
takes_input _ = false

-- the registers that the machine step leaves
abbrev pub stepped : Entry → Regs
stepped e = (act e.inst e.found).machine.regs

-- An entry's instruction is the one of code at its PC, and it left what the machine step leaves; SVC 8 besides put an input into X0.
pub record IsMade (code : List ℕ) (e : Entry) : Type 0 where
  pub fetched : instruction_at code (pc_of e) ≡ Some e.inst
  pub steps : IsTrue (not (takes_input e.inst)) → e.left ≡ stepped e
  pub takes : IsTrue (takes_input e.inst) → (input : ℤ) × (e.left ≡ with_reg (stepped e) 0 (unsigned input))

-- each entry of a journal is a made instruction
abbrev pub JournalIsMade : Type 0
JournalIsMade =
    (image : Image) (inputs : List ℤ) (writes : List Write) (n k : ℕ) (e : Entry)
    → slice_get (journal image inputs writes n) k ≡ Some e → IsMade image.code e

-- An entry finds the registers that the one before it left, and so it stands at that one's next PC.
pub record Continues (e next : Entry) : Type 0 where
  pub registers : next.found.regs ≡ e.left
  pub place : pc_of next ≡ next_of e

-- Journal linkage: each entry but the first follows the one before it, whatever was written between them.
abbrev pub JournalIsLinked : Type 0
JournalIsLinked =
    (image : Image) (inputs : List ℤ) (writes : List Write) (n k : ℕ) (e next : Entry)
    → slice_get (journal image inputs writes n) k ≡ Some e → slice_get (journal image inputs writes n) (k + 1) ≡ Some next
    → Continues e next

-- an entry's registers, as they were found and as they were left, have 64 bits, and the memory that was found has bytes
pub record IsEntryBounded (e : Entry) : Type 0 where
  pub found : IsBounded e.found
  pub left : IsBounded (record e.found { regs = e.left })

-- Bounds of a journal: for all that may be given and written, each entry is bounded.
abbrev pub JournalIsBounded : Type 0
JournalIsBounded =
    (image : Image) (inputs : List ℤ) (writes : List Write) (n k : ℕ) (e : Entry) → AreGiven inputs writes
    → slice_get (journal image inputs writes n) k ≡ Some e → IsEntryBounded e
