-- The begin record and the addresses for which a Chain, a Chained and a Comparison stand while addresses come in one by one (docs/DEFINITIONS.md).
use Rattle.std.specs.Prelude.{◌≡◌, ℕ, List}
use Rattle.oat_chain.specs.{declared.Chain.Chain, declared.comparison.Chained.Chained, declared.comparison.Comparison.Comparison, Chain.chain, Clash.bytes_of, Clash.IsLastMessage, Clash.IsLastClash}

pub record StandsFor (running : Chain) (head addresses : List ℕ) : Type 0 where
  pub digest : running.value ≡ chain head addresses

pub record IsChained (chained : Chained) (head addresses : List ℕ) : Type 0 where
  pub stands : StandsFor chained.chain head addresses
  pub last : IsLastMessage head addresses (bytes_of chained.last)

pub record Compares (comparison : Comparison) (head run_returns replay_returns : List ℕ) : Type 0 where
  pub run : IsChained comparison.run head run_returns
  pub replay : IsChained comparison.replay head replay_returns
  pub last : IsLastClash head run_returns replay_returns comparison.last
