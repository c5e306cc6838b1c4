-- The functions, blocks and lines of a well-formed program have numbers of 32 bits.
use Rattle.std.proofs.Common.{◌≡◌, ◌+◌, ◌<◌, ◌≤◌, ℕ, List, [], ◌∷◌, length, get_or, arith}
use Rattle.std.specs.List.{sum_by}
use Rattle.std.proofs.lemmas.List.Sums.{sum_by-cons, sum_by_more_le}
use Rattle.oat_ir.specs.{declared.program.Program.Program, declared.func.Func.Func, Size.block_size, Size.func_size, WellFormed.IsProgram}
use Rattle.oat_check.specs.Places.{HasBlocks, HasFuncs}

-- a list has at most as many items as they are large
as_many : {X : Type 0} (size : X → ℕ) → ((x : X) → 1 ≤ size x) → (xs : List X) → length xs ≤ sum_by size xs
as_many size some [] = omega arith
as_many size some (x ∷ xs) =
    let whole : sum_by size (x ∷ xs) ≡ size x + sum_by size xs = sum_by-cons size x xs in
    let rest : length xs ≤ sum_by size xs = as_many size some xs in
    let here : 1 ≤ size x = some x in
    omega arith

one_of : {X : Type 0} (size : X → ℕ) (xs : List X) (i : ℕ) (d : X) → i < length xs → size (get_or xs i d) ≤ sum_by size xs
one_of size xs i d low = let more = sum_by_more_le size xs i d low in omega arith

has_blocks : (f : Func) → func_size f ≤ 67108864 → HasBlocks f
has_blocks f small =
    let sum : 1 + length f.locals + sum_by block_size f.blocks ≤ 67108864 = small in record {
      few = let many = as_many block_size (λ b. omega arith) f.blocks in omega arith;
      lines = λ i d low. let one : 2 + length (get_or f.blocks i d).instrs ≤ sum_by block_size f.blocks = one_of block_size f.blocks i d low in omega arith;
    }

pub has_funcs : (p : Program) → IsProgram p → HasFuncs p
has_funcs p formed =
    let sum : length p.globals + sum_by func_size p.funcs ≤ 67108864 = formed.size in record {
      few = let many = as_many func_size (λ f. omega arith) p.funcs in omega arith;
      blocks = λ i d low. has_blocks (get_or p.funcs i d) (let one = one_of func_size p.funcs i d low in omega arith);
    }
