use Rattle.std.proofs.Common.{◌≡◌, ◌<◌, ℕ, false, length, get_or, take}
use Rattle.std.specs.List.{list_any}
use Rattle.oat_match.specs.{refers_to, Func, BlockIr}
use Rattle.oat_build.proofs.references.references.Given as goal

abbrev pub invariant-loop-func : goal.invariant-loop-func
invariant-loop-func l = record {
  len : length l.flags.items ≡ length l.funcs;
  noted : (f : ℕ) → f < length l.funcs → get_or l.flags.items f false ≡ list_any (λ (func : Func). list_any (λ (block : BlockIr). list_any (refers_to f) block.instrs) func.blocks) (take l.func-index l.funcs);
}
