-- Which calls of a stand-in for the outside fail: those whose numbers, counted from 0, are listed (docs/DEFINITIONS.md).
use Rattle.std.specs.Prelude.{◌+◌, ◌-◌, ◌^◌, ℕ, nat_lt, if◌then◌else◌, List, Contains, Option, Some, None, IsSomeAnd, option_and_then}

-- the numbers that fail, and the number of the next call; None where it has more than 64 bits
pub record Calls : Type 0 where
  pub failing : List ℕ
  pub next : Option ℕ

-- The next call is one that fails.
abbrev pub IsDue : Calls → Type 0
IsDue calls = IsSomeAnd calls.next (λ number. Contains calls.failing number)

-- the number after a call's
abbrev pub number_after : ℕ → Option ℕ
number_after number = if nat_lt number (2 ^ 64 - 1) then Some (number + 1) else None

-- the calls once one more was made
abbrev pub calls_after : Calls → Calls
calls_after calls = record { failing = calls.failing; next = option_and_then number_after calls.next }
