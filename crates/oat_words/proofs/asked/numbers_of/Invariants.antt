use Rattle.std.proofs.Common.{◌≡◌, map, take}
use Rattle.std.specs.{String.string_bytes, Str.Parse.digits_value}
use Rattle.oat_words.proofs.asked.numbers_of.Given as goal

abbrev pub invariant-loop-k : goal.invariant-loop-k
invariant-loop-k l = l.numbers.items ≡ map (digits_value 10) (take l.k (map string_bytes l.words))
