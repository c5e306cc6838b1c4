use Rattle.std.proofs.Common.{◌≡◌, ◌++◌, drop, map}
use Rattle.oat_tree.specs.Scopes.{globals_of}
use Rattle.oat_tree.specs.Seen.{seen_tree}
use Rattle.oat_langrun.specs.Memories.{first_words}
use Rattle.oat_langrun.proofs.memory.Memory.at_start.Given as goal

-- with those of the items that are left they are all
abbrev pub invariant-loop-item : goal.invariant-loop-item
invariant-loop-item l = record {
  words : map (λ words. words.items) l.words.items ++ map first_words (globals_of (seen_tree (drop l.item-index l.items))) ≡ map first_words (globals_of (seen_tree l.items));
}
