use Rattle.std.proofs.Common.{◌<◌, ℕ, [], map, get_or}
use Rattle.std.specs.String.{string_bytes}
use Rattle.oat_words.specs.Commands.{IsNumber}
use Rattle.oat_words.proofs.asked.are_numbers.Given as goal

abbrev pub invariant-loop-k : goal.invariant-loop-k
invariant-loop-k l = (j : ℕ) → j < l.k → IsNumber (get_or l.bounds j 0) (get_or (map string_bytes l.words) j [])
