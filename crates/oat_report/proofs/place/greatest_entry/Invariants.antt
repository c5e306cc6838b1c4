use Rattle.std.proofs.Common.{◌≡◌, filter, fold, drop, nat_le, None}
use Rattle.oat_verify.specs.{entries_of, later_of}
use Rattle.oat_report.proofs.place.greatest_entry.Given as goal

abbrev pub invariant-loop-function : goal.invariant-loop-function
invariant-loop-function l =
    fold later_of l.best (filter (λ place. nat_le place l.address) (entries_of (drop l.function-index l.functions)))
    ≡ fold later_of None (filter (λ place. nat_le place l.address) (entries_of l.functions))
