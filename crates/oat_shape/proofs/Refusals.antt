-- An image breaks one rule first, at one address, and then hasn't the shape.
use Rattle.std.proofs.Common.{◌≡◌, ℕ, sym, ◌∙◌, ap, inl, inr, arith}
use Rattle.std.proofs.lemmas.Bool.{cases_lt}
use Rattle.oat_first.specs.First.{IsOne, IsDecisive}
use Rattle.oat_first.proofs.FirstLaws.{First-one, First-through, Tests-decisive}
use Rattle.oat_shape.specs.{declared.fault.Broken.Broken, MapRules.S2, MapRules.S4, MapRules.S7, MapRules.S8, Shape.Everywhere, Shape.FailsLowest, Shape.IsBrokenRule, Shape.TestsRule}
use Rattle.oat_shape.specs.{Shape.BreaksRule, Shape.S1, Shape.S3, Shape.S5, Shape.S6, Refusal.ShapeIsDecided}

one_lowest : (rule : ℕ → Type 0) (at there : ℕ) → FailsLowest rule at → FailsLowest rule there → there ≡ at
one_lowest rule at there here later =
    elim (cases_lt at there) as (λ _. there ≡ at) [
      | inl below ↦ absurd (here.fails (later.lowest at below))
      | inr past ↦
          elim (cases_lt there at) as (λ _. there ≡ at) [
            | inl under ↦ absurd (later.fails (here.lowest there under))
            | inr over ↦ omega arith
          ]
    ]

abbrev broken_at : ℕ → ℕ → Broken
broken_at number at = record { number = number; at = at }

one_broken : (rule : ℕ → Type 0) (number : ℕ) → IsOne Broken (IsBrokenRule rule number)
one_broken rule number a b one two =
    ap (λ (n : ℕ). broken_at n a.at) (one.numbered ∙ sym two.numbered) ∙ ap (λ (at : ℕ). broken_at b.number at) (one_lowest rule b.at a.at two.lowest one.lowest)

rule_is_decisive : (rule : ℕ → Type 0) (number : ℕ) → IsDecisive (Unit {0}) Broken (λ u. Everywhere rule) (IsBrokenRule rule number)
rule_is_decisive rule number =
    Tests-decisive Broken (Everywhere rule) (IsBrokenRule rule number) (one_broken rule number) (λ b holds broken. broken.lowest.fails (holds b.at))

-- one test after another has one broken rule
one_test : (rule : ℕ → Type 0) (number : ℕ) (Rest : Broken → Type 0) → IsOne Broken Rest → IsOne Broken (TestsRule rule number Rest)
one_test rule number Rest one =
    First-one (Unit {0}) Broken (λ u. Everywhere rule) (IsBrokenRule rule number) (λ u. Rest) (rule_is_decisive rule number) (λ u held. one)

-- a rule that holds isn't the broken one
passed : (rule : ℕ → Type 0) (number : ℕ) (Rest : Broken → Type 0) (b : Broken) → Everywhere rule → TestsRule rule number Rest b → Rest b
passed rule number Rest b holds tests =
    (First-through (Unit {0}) Broken (λ u. Everywhere rule) (IsBrokenRule rule number) (λ u. Rest) b (λ broken. broken.lowest.fails (holds b.at)) tests).2

pub shape_is_decided : ShapeIsDecided
shape_is_decided i number at broken = (
  λ shaped.
      passed (S8 i.map) 8 _ _ shaped.named
      (passed (S7 i.map) 7 _ _ shaped.paired
      (passed (S6 i) 6 _ _ shaped.coded
      (passed (S5 i) 5 _ _ shaped.apart
      (passed (S4 i.map) 4 _ _ shaped.leads
      (passed (S3 i) 3 _ _ shaped.grouped
      (passed (S2 i.map) 2 _ _ shaped.rises
      (passed (S1 i) 1 _ _ shaped.decodes broken))))))),
  λ other there also.
      let one : IsOne Broken (BreaksRule i) =
      one_test (S1 i) 1 _
      (one_test (S2 i.map) 2 _
      (one_test (S3 i) 3 _
      (one_test (S4 i.map) 4 _
      (one_test (S5 i) 5 _
      (one_test (S6 i) 6 _
      (one_test (S7 i.map) 7 _
      (one_test (S8 i.map) 8 _ (λ a b none. absurd none)))))))) in
      let same = one (broken_at other there) (broken_at number at) also broken in
      (ap (λ (b : Broken). b.number) same, ap (λ (b : Broken). b.at) same),
)
