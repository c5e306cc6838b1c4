-- What a reader that can run out of memory answers, beside what reading gives (docs/DEFINITIONS.md). These are words of
-- this project's own.
use Rattle.std.specs.Prelude.{◌≡◌, ℕ, Result, Ok, Err}
use Rattle.oat_lines.specs.{declared.fault.Fault.Fault, declared.fault.Fault.TheVariants.At, declared.fault.Fault.TheVariants.Memory}

-- what a line gives, its fault with the number of the line
abbrev pub at : {X K : Type 0} → ℕ → Result X K → Result X (Fault K)
at line (Ok x) = Ok x
at line (Err kind) = Err (At line kind)

-- What a fault says of reading: that it is the fault there, or nothing where memory ran out.
abbrev pub Fails : {X K : Type 0} → Fault K → Result X (Fault K) → Type 0
Fails Memory read = Unit {0}
Fails (At line kind) read = read ≡ Err (At line kind)

-- What a call answered, seen by view, is what reading gives, unless memory ran out.
abbrev pub Gives : {X Y K : Type 0} → (X → Y) → Result X (Fault K) → Result Y (Fault K) → Type 0
Gives view (Ok x) read = read ≡ Ok (view x)
Gives view (Err fault) read = Fails fault read
