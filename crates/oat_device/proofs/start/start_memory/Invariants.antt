use Rattle.std.proofs.Common.{◌≡◌, drop}
use Rattle.oat_journal.specs.{byte_at, Run.start_memory}
use Rattle.oat_device.proofs.Starting.{laid}
use Rattle.oat_device.proofs.start.start_memory.Given as goal

-- the words that are left lead to what all of them do
abbrev pub invariant-loop-word : goal.invariant-loop-word
invariant-loop-word l = laid (drop l.word-index l.word-items) (byte_at l.memory) ≡ start_memory l.image.words
