-- Reading step by step: the value of each step, or the first fault (docs/DEFINITIONS.md). These are words of this project's own.
use Rattle.std.specs.Prelude.{ℕ, Bool, true, false, Result, Ok, Err, nat_le, ◌&&◌}

-- the next step, where the one before gave a value
infixl 10 ◌>>=◌
abbrev pub ◌>>=◌ : {A B E : Type 0} → Result A E → (A → Result B E) → Result B E
(Ok x) >>= f = f x
(Err e) >>= f = Err e

-- this fault, unless a test holds
abbrev pub guard : {E : Type 0} → Bool → E → Result (Unit {0}) E
guard true e = Ok tt
guard false e = Err e

-- both ends belong to it
abbrev pub between : ℕ → ℕ → ℕ → Bool
between low high n = nat_le low n && nat_le n high
