use Rattle.std.proofs.Common.{◌≡◌, ◌<◌, drop}
use Rattle.oat_meaning.specs.Recording.{calls_end, ends_behind}
use Rattle.oat_meaning.proofs.record.Record.path_end.Given as goal

-- the end that is sought is that of so many paths from this place on
abbrev pub invariant-loop-place : goal.invariant-loop-place
invariant-loop-place l = record {
  more : 0 < l.due;
  sought : calls_end l.self.recorded.path_ends l.calls ≡ calls_end (ends_behind l.place (drop l.place l.self.recorded.edges)) l.due;
}
