use Rattle.std.proofs.Common.{◌≡◌, ℕ, zero, suc, get_or, replicate, false, refl, ap}
use Rattle.std.proofs.Math.Path.{fun_ext}
use Rattle.oat_a64.specs.Step.{Regs}
use Rattle.oat_cpu.proofs.cpu.Cpu.start.Goals as goal

get_or-zeros : (n k : ℕ) → ◌≡◌ {A = ℕ} (get_or (replicate n 0) k 0) 0
get_or-zeros zero k = refl
get_or-zeros (suc n) zero = refl
get_or-zeros (suc n) (suc k) = get_or-zeros n k

with_x : (ℕ → ℕ) → Regs
with_x x = record { x = x; sp = 0x8000_0000; pc = 0x10000; n = false; z = false; c = false; v = false }

pub returns : goal.returns
unfolding with_x
returns c = ap with_x (fun_ext (get_or-zeros 31))
