-- What is found: an item that passes a test, and the line of a block that has a number.
use Rattle.std.proofs.Common.{◌≡◌, ◌<◌, ◌⊎◌, inl, inr, ℕ, zero, suc, Bool, true, false, cond, eqb, ne_eqb, List, [], ◌∷◌, ◌++◌, length, Option, option_map, Some, None, refl, sym, ap, ◌∙◌, arith}
use Rattle.std.specs.{Prelude.slice_get, Option.option_and_then}
use Rattle.std.proofs.lemmas.Bool.{cases_lt, le-ltb}
use Rattle.oat_check.proofs.Frames.{There, instr_is, term_is, there}
use Rattle.oat_globals.specs.{Program, Func, BlockIr, Instr, CodeLine, instruction, line_in, terminator, passes, LinePlace}
use Rattle.oat_match.specs.Placed.{code_line_at}

-- ---- by a test

pub record Found {X : Type 0} (test : X → Bool) (o : Option X) : Type 0 where
  pub item : X
  pub is : o ≡ Some item
  pub passed : test item ≡ true

pub found : {X : Type 0} (test : X → Bool) (o : Option X) → passes test o ≡ true → Found test o
found test None h = absurd (cc)
found test (Some x) h = record { item = x; is = refl; passed = h }

-- and what fails at what is there
pub failed : {X : Type 0} (test : X → Bool) (o : Option X) (x : X) → o ≡ Some x → passes test o ≡ false → test x ≡ false
failed test o x is h = sym (ap (passes test) is) ∙ h

-- ---- the last item

pub last_one : {X : Type 0} (xs : List X) (y : X) (n : ℕ) → n ≡ length xs → slice_get (xs ++ y ∷ []) n ≡ Some y
last_one [] y zero h = refl
last_one [] y (suc n) h = absurd (omega arith)
last_one (x ∷ xs) y zero h = absurd (omega arith)
last_one (x ∷ xs) y (suc n) h = last_one xs y n (omega arith)

-- ---- a line: an instruction, or the terminator behind all of them

abbrev pub LineCases : BlockIr → ℕ → CodeLine → Type 0
LineCases block n line = ((i : Instr) × (slice_get block.instrs n ≡ Some i) × (line ≡ instruction i)) ⊎ ((n ≡ length block.instrs) × (line ≡ terminator block.term))

pub line_cases : (block : BlockIr) (n : ℕ) (line : CodeLine) → line_in block n ≡ Some line → LineCases block n line
line_cases block n line is = elim (cases_lt n (length block.instrs)) [
  | inl low ↦ let t : There block.instrs n = there block.instrs n low in inl (t.item, t.is, same_line _ _ (sym is ∙ instr_is block n t.item t.is))
  | inr high ↦ elim (cases_lt (length block.instrs) n) [
    | inl over ↦ absurd (no_line (sym (beyond over) ∙ is))
    | inr more ↦ let at : n ≡ length block.instrs = omega arith in inr (at, same_line _ _ (sym is ∙ term_is block n at))
  ]
] where
  same_line : (a b : CodeLine) → Some a ≡ Some b → a ≡ b
  same_line a b h = cc

  no_line : None ≡ Some line → ⊥
  no_line h = absurd (cc)

  beyond : length block.instrs < n → line_in block n ≡ None
  beyond over =
      ap (λ (t : Bool). cond t (option_map instruction (slice_get block.instrs n)) (cond (eqb n (length block.instrs)) (Some (terminator block.term)) None)) (le-ltb n (length block.instrs) (omega arith))
      ∙ ap (λ (t : Bool). cond t (Some (terminator block.term)) None) (ne_eqb n (length block.instrs) (λ e. absurd (omega arith)))

-- ---- a line of the program

-- where a line of the program is found
pub record Located (p : Program) (at : LinePlace) (line : CodeLine) : Type 0 where
  pub func : Func
  pub block : BlockIr
  pub is : slice_get p.funcs at.func ≡ Some func
  pub there : slice_get func.blocks at.block ≡ Some block
  pub here : line_in block at.line ≡ Some line

pub located : (p : Program) (at : LinePlace) (line : CodeLine) → code_line_at p at ≡ Some line → Located p at line
located p at line h = by (slice_get p.funcs at.func) refl h where
  inner : (func : Func) → slice_get p.funcs at.func ≡ Some func → (o : Option BlockIr) → slice_get func.blocks at.block ≡ o → option_and_then (λ b. line_in b at.line) o ≡ Some line → Located p at line
  inner func is None there k = absurd (cc)
  inner func is (Some block) there k = record { func = func; block = block; is = is; there = there; here = k }

  by : (o : Option Func) → slice_get p.funcs at.func ≡ o → option_and_then (λ func. option_and_then (λ b. line_in b at.line) (slice_get func.blocks at.block)) o ≡ Some line → Located p at line
  by None is k = absurd (cc)
  by (Some func) is k = inner func is (slice_get func.blocks at.block) refl k
