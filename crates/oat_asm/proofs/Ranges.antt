-- The branches between places of code fit their fields.
use Rattle.std.proofs.Common.{◌≡◌, ℕ, suc, ◌-◌, ◌<◌, ◌≤◌, ◌^◌, Bool, true, false, refl, arith}
use Rattle.std.specs.Prelude.{pos, negsuc, nat_lt}
use Rattle.std.proofs.lemmas.{Bool.ltb-true, Bool.ltb-false, Int.ints}
use Rattle.oat_shape.specs.{FitsSigned, IsInRange}
use Rattle.oat_asm.specs.{declared.branch_form.BranchForm.BranchForm, declared.branch_form.BranchForm.TheVariants.B, declared.branch_form.BranchForm.TheVariants.Bl}
use Rattle.oat_asm.specs.{declared.branch_form.BranchForm.TheVariants.Cond, declared.branch_form.BranchForm.TheVariants.Cbz, declared.branch_form.BranchForm.TheVariants.Cbnz, Items.IsBranch}
use Rattle.oat_asm.specs.{Items.code_limit, Layout.branch, Layout.distance}

pub ahead : (from to : ℕ) → from ≤ to → distance from to ≡ pos (to - from)
ahead from to h = omega (arith, ints)

pub behind : (from to : ℕ) → to < from → distance from to ≡ negsuc (from - suc to)
behind from to h = omega (arith, ints)

fits_by : (from to width : ℕ) (b : Bool) → nat_lt to from ≡ b → from ≤ code_limit → to ≤ code_limit → 2 ^ 19 ≤ 2 ^ width → FitsSigned width (distance from to)
fits_by from to width true e f t w =
    let less = ltb-true to from e in
    rw (behind from to less) (omega arith)
fits_by from to width false e f t w =
    let most = ltb-false to from e in
    rw (ahead from to most) (omega arith)

pub distance_fits : (from to width : ℕ) → from ≤ code_limit → to ≤ code_limit → 2 ^ 19 ≤ 2 ^ width → FitsSigned width (distance from to)
distance_fits from to width f t w = fits_by from to width (nat_lt to from) refl f t w

pub branch_in_range : (form : BranchForm) (from to : ℕ) → IsBranch form → from ≤ code_limit → to ≤ code_limit → IsInRange (branch form (distance from to))
branch_in_range B from to h f t = (distance_fits from to 26 f t (omega arith), tt)
branch_in_range Bl from to h f t = (distance_fits from to 26 f t (omega arith), tt)
branch_in_range (Cond c) from to h f t = (h, (distance_fits from to 19 f t (omega arith), tt))
branch_in_range (Cbz r) from to h f t = (h, (distance_fits from to 19 f t (omega arith), tt))
branch_in_range (Cbnz r) from to h f t = (h, (distance_fits from to 19 f t (omega arith), tt))
