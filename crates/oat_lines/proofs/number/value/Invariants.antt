use Rattle.std.proofs.Common.{◌≡◌, take}
use Rattle.std.specs.Str.Parse.{digits_value}
use Rattle.oat_lines.specs.Decimal.{capped}
use Rattle.oat_lines.proofs.number.value.Given as goal

abbrev pub invariant-loop-c : goal.invariant-loop-c
invariant-loop-c l = l.number ≡ capped (digits_value l.radix (take l.c-index l.word))
