-- Laws of 'the first that fails decides', for all that is looked at.
use Rattle.std.proofs.Common.{◌≡◌, refl, subst}
use Rattle.oat_first.specs.First.{First, fails, passes, IsOne, IsDecisive}

-- More is said of a failure, and of what comes after.
pub First-more : (X A : Type 0) (Gives : X → Type 0) (Fails Misses : A → Type 0) (Rest Other : X → A → Type 0) (a : A)
    → (Fails a → Misses a) → ((x : X) → Gives x → Rest x a → Other x a)
    → First X A Gives Fails Rest a → First X A Gives Misses Other a
First-more X A Gives Fails Misses Rest Other a failing after (fails failed) = fails (failing failed)
First-more X A Gives Fails Misses Rest Other a failing after (passes x given rest) = passes x given (after x given rest)

-- What can't have failed has passed.
pub First-through : (X A : Type 0) (Gives : X → Type 0) (Fails : A → Type 0) (Rest : X → A → Type 0) (a : A)
    → (Fails a → ⊥) → First X A Gives Fails Rest a → (x : X) × Gives x × Rest x a
First-through X A Gives Fails Rest a unfailing (fails failed) = absurd (unfailing failed)
First-through X A Gives Fails Rest a unfailing (passes x given rest) = (x, given, rest)

-- Two answers to one thing looked at are one, where those of what comes after are.
pub First-meet : (X A : Type 0) (Gives : X → Type 0) (Fails : A → Type 0) (Rest Other : X → A → Type 0) (a b : A)
    → IsDecisive X A Gives Fails → ((x : X) → Gives x → Rest x a → Other x b → a ≡ b)
    → First X A Gives Fails Rest a → First X A Gives Fails Other b → a ≡ b
First-meet X A Gives Fails Rest Other a b decisive after (fails failed) (fails failed') = decisive.one_failure a b failed failed'
First-meet X A Gives Fails Rest Other a b decisive after (fails failed) (passes x given rest) = absurd (decisive.apart x a given failed)
First-meet X A Gives Fails Rest Other a b decisive after (passes x given rest) (fails failed) = absurd (decisive.apart x b given failed)
First-meet X A Gives Fails Rest Other a b decisive after (passes x given rest) (passes y given' rest') =
    after x given rest (subst (λ (z : X). Other z b) (decisive.one_value y x given' given) rest')

pub First-one : (X A : Type 0) (Gives : X → Type 0) (Fails : A → Type 0) (Rest : X → A → Type 0)
    → IsDecisive X A Gives Fails → ((x : X) → Gives x → IsOne A (Rest x)) → IsOne A (First X A Gives Fails Rest)
First-one X A Gives Fails Rest decisive one a b = First-meet X A Gives Fails Rest Rest a b decisive (λ x given. one x given a b)

-- ---- a fact that is looked at

units : (a b : Unit {0}) → a ≡ b
units a b = refl

-- A fact that holds or fails is decisive where it is looked at.
pub Tests-decisive : (A : Type 0) (holds : Type 0) (Fails : A → Type 0) → IsOne A Fails → ((a : A) → holds → Fails a → ⊥)
    → IsDecisive (Unit {0}) A (λ u. holds) Fails
Tests-decisive A holds Fails one apart = record {
  one_value = λ a b first second. units a b;
  one_failure = one;
  apart = λ u a held failed. apart a held failed;
}
