-- The state of a run for which the interpreter's values stand.
use Rattle.std.specs.Prelude.{ℕ, get_or}
use Rattle.oat_langrun.specs.Meaning.{Run}
use Rattle.oat_langrun.specs.declared.activation.Activation.{Activation}

abbrev pub locals_of : Activation → (ℕ → ℕ)
locals_of a = λ x. get_or a.locals x 0

abbrev pub operands_of : Activation → (ℕ → ℕ)
operands_of a = λ i. get_or a.operands i 0

abbrev pub run_of : Activation → Run
run_of a = record { func = a.func; place = a.place; locals = locals_of a; operands = operands_of a }
