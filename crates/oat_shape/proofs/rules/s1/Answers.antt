use Rattle.std.proofs.Common.{ℕ, ◌+◌, ◌*◌, List, subst}
use Rattle.std.specs.Option.{IsSome}
use Rattle.oat_a64.specs.{Fetch.inst_of, Step.code_base}
use Rattle.oat_shape.specs.Lowest.{Lowest, EachAt}
use Rattle.oat_shape.proofs.rules.s1.Goals as goal

pub returns : goal.returns
returns c =
    subst (λ (words : List ℕ). Lowest (EachAt words (λ k word. code_base + 4 * k) (λ k word. IsSome (inst_of word))) c.lowest_undecoded.result)
    c.as_slice.ensures c.lowest_undecoded.ensures
