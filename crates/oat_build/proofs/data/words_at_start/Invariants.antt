use Rattle.std.proofs.Common.{◌≡◌, ◌+◌, ◌≤◌, ◌++◌, drop}
use Rattle.std.specs.List.{sum_by}
use Rattle.oat_match.specs.{size_in_words, words_from}
use Rattle.oat_build.proofs.data.words_at_start.Given as goal

abbrev pub invariant-loop-item : goal.invariant-loop-item
invariant-loop-item l = record {
  words : l.words.items ++ words_from l.index (drop l.item-index l.globals) ≡ words_from 0 l.globals;
  few : l.index + sum_by size_in_words (drop l.item-index l.globals) ≤ 65536;
}
