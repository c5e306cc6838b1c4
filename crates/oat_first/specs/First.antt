-- Things looked at one after another: the first that fails decides, and else what comes after all (docs/DEFINITIONS.md).
use Rattle.std.specs.Prelude.{◌≡◌}

-- One thing is looked at. It fails, and its failure is the answer; or it gives a value, and the rest decides.
pub data First (X A : Type 0) (Gives : X → Type 0) (Fails : A → Type 0) (Rest : X → A → Type 0) (a : A) : Type 0 where
  fails : Fails a → First X A Gives Fails Rest a
  passes : (x : X) → Gives x → Rest x a → First X A Gives Fails Rest a

-- A fact is looked at, which gives nothing but that it holds.
abbrev pub Tests : (A : Type 0) (holds : Type 0) → (A → Type 0) → (A → Type 0) → A → Type 0
Tests A holds Fails Rest = First (Unit {0}) A (λ u. holds) Fails (λ u. Rest)

-- All of which this holds are one.
abbrev pub IsOne : (A : Type 0) → (A → Type 0) → Type 0
IsOne A P = (a b : A) → P a → P b → a ≡ b

-- What is looked at gives one value, or fails in one way, and never does both.
pub record IsDecisive (X A : Type 0) (Gives : X → Type 0) (Fails : A → Type 0) : Type 0 where
  pub one_value : IsOne X Gives
  pub one_failure : IsOne A Fails
  pub apart : (x : X) (a : A) → Gives x → Fails a → ⊥
