-- The assembler's fault, as the compiler answers it.
use Rattle.std.proofs.Common.{◌≡◌, ◌<◌, ℕ, Ok, Err, sym, ap, ◌∙◌, Result}
use Rattle.std.specs.{Prelude.◌↔◌, Result.IsErrAnd}
use Rattle.oat_match.specs.{AsmFault, code_limit}
use Rattle.oat_build.specs.{declared.fault.BuildFault.BuildFault, declared.fault.BuildFault.TheVariants.CodeTooLarge, declared.fault.BuildFault.TheVariants.Memory, Faults.fault_of}
use Rattle.oat_asm.specs.declared.assembled.AsmFault.TheVariants as asm

told : {A : Type 0} (a : Result A AsmFault) (fault : AsmFault) (needed words : ℕ) → a ≡ Err fault → ((n : ℕ) → (a ≡ Err (asm.CodeTooLarge n)) ↔ ((n ≡ needed) × (code_limit < n)))
    → fault_of fault ≡ CodeTooLarge words → (words ≡ needed) × (code_limit < words)
told a (asm.CodeTooLarge n) needed words is exact h =
    let same : n ≡ words = cc in
    (exact words).0 (is ∙ ap (λ (k : ℕ). Err (asm.CodeTooLarge k)) same)
told a asm.Memory needed words is exact h = absurd (cc)

pub assembler_fault : {A B : Type 0} (r : Result B BuildFault) (a : Result A AsmFault) (fault : AsmFault) (needed : ℕ) → IsErrAnd r (λ e. e ≡ fault_of fault) → a ≡ Err fault
    → ((n : ℕ) → (a ≡ Err (asm.CodeTooLarge n)) ↔ ((n ≡ needed) × (code_limit < n))) → (words : ℕ) → r ≡ Err (CodeTooLarge words) → (words ≡ needed) × (code_limit < words)
assembler_fault (Ok x) a fault needed h is exact words e = absurd (cc)
assembler_fault (Err f) a fault needed h is exact words e =
    let same : f ≡ CodeTooLarge words = cc in
    told a fault needed words is exact (sym h ∙ same)
