-- The number of the main function, where the functions are looked at one by one.
use Rattle.std.proofs.Common.{◌≡◌, ◌+◌, ◌<◌, ℕ, suc, Bool, true, false, cond, List, ◌∷◌, length, get_or, drop, sym, ap, ◌∙◌, arith, drop-cons}
use Rattle.oat_check.specs.{Func, Rules.is_main, Runs.main_number}

from_here : (funcs : List Func) (k : ℕ) (f : Func) (b : Bool) → k < length funcs → f ≡ get_or funcs k f → is_main f ≡ b → main_number (drop k funcs) ≡ cond b 0 (suc (main_number (drop (suc k) funcs)))
from_here funcs k f b low is main =
    ap main_number (drop-cons funcs k f low ∙ ap (λ (g : Func). g ∷ drop (suc k) funcs) (sym is)) ∙ ap (λ (t : Bool). cond t 0 (suc (main_number (drop (suc k) funcs)))) main

pub main_found : (funcs : List Func) (k : ℕ) (f : Func) → k < length funcs → f ≡ get_or funcs k f → is_main f ≡ true → main_number funcs ≡ k + main_number (drop k funcs) → k ≡ main_number funcs
main_found funcs k f low is main so_far = let here = from_here funcs k f true low is main in omega (arith, so_far, here)

pub main_passed : (funcs : List Func) (k : ℕ) (f : Func) → k < length funcs → f ≡ get_or funcs k f → is_main f ≡ false → main_number funcs ≡ k + main_number (drop k funcs)
    → main_number funcs ≡ (k + 1) + main_number (drop (k + 1) funcs)
main_passed funcs k f low is main so_far =
    let here = from_here funcs k f false low is main in
    let next : main_number (drop (suc k) funcs) ≡ main_number (drop (k + 1) funcs) = ap (λ n. main_number (drop n funcs)) (let e : suc k ≡ k + 1 = omega arith in e) in
    omega (arith, so_far, here, next)
