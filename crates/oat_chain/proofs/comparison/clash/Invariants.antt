use Rattle.std.proofs.Common.{◌+◌, ◌-◌, length, take}
use Rattle.oat_chain.specs.Standing.{Compares}
use Rattle.oat_chain.proofs.comparison.clash.Given as goal

abbrev pub invariant-loop-run_address : goal.invariant-loop-run_address
invariant-loop-run_address l =
    Compares l.comparison l.head (take (length l.run_returns - l.common + length l.yielded) l.run_returns)
    (take (length l.replay_returns - l.common + length l.yielded) l.replay_returns)
