use Rattle.std.proofs.Common.{◌≡◌, filter, fold, drop, nat_le}
use Rattle.oat_verify.specs.{starts_of, later_of}
use Rattle.oat_report.proofs.place.greatest_start.Given as goal

abbrev pub invariant-loop-block : goal.invariant-loop-block
invariant-loop-block l =
    fold later_of l.best (filter (λ place. nat_le place l.address) (starts_of (drop l.block-index l.blocks)))
    ≡ fold later_of l.fn.above (filter (λ place. nat_le place l.address) (starts_of l.blocks))
