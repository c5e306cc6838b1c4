use Rattle.std.proofs.Common.{◌≡◌, ◌<◌, ◌||◌, ℕ, false, length, get_or, take}
use Rattle.std.specs.List.{list_any}
use Rattle.oat_match.specs.{refers_to}
use Rattle.oat_build.proofs.references.note_in_block.Given as goal

abbrev pub invariant-loop-instr : goal.invariant-loop-instr
invariant-loop-instr l = record {
  len : length l.flags.items ≡ length l.initial.flags.items;
  noted : (f : ℕ) → f < length l.initial.flags.items → get_or l.flags.items f false ≡ (get_or l.initial.flags.items f false || list_any (refers_to f) (take l.instr-index l.instr-items));
}
