use Rattle.std.proofs.Common.{◌≡◌, ◌++◌, take}
use Rattle.oat_blob.specs.Layout.{magic}
use Rattle.oat_blob.proofs.reader.magic.Given as goal

abbrev pub invariant-loop-letter : goal.invariant-loop-letter
invariant-loop-letter l = l.bytes ≡ take l.letter-index magic ++ l.rest
