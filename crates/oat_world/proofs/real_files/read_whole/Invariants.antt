use Rattle.std.proofs.Common.{◌≡◌, ◌≤◌, ◌+◌, ◌-◌, ◌^◌, min, length, vec_len}
use Rattle.std.specs.Io.KnownBytes.{Consumes}
use Rattle.oat_world.proofs.real_files.read_whole.Given as goal

-- the bytes so far are what the file lost, they are counted, and no read failed
abbrev pub invariant-loop-count : goal.invariant-loop-count
invariant-loop-count g l = record {
  within : vec_len l.bytes ≤ l.limit;
  no_fault : l.counts.faults ≡ l.fn.counts.faults;
  taken_stay : l.fn.counts.taken ≤ l.counts.taken;
  counted : min (l.fn.counts.taken + length l.bytes.items) (2 ^ 64 - 1) ≤ l.counts.taken;
  read : Consumes (g.F.Read.remaining l.fn.file) (g.F.Read.remaining l.file) l.bytes.items;
}

abbrev pub decreases-loop-count : goal.decreases-loop-count
decreases-loop-count g l = l.limit - vec_len l.bytes
