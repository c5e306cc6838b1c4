use Rattle.std.proofs.Common.{◌≡◌, ◌^◌, ◌<◌, ◌*◌, nat_lt, true, arith}
use Rattle.std.proofs.lemmas.{Bool.lt-ltb, Int.ints}
use Rattle.oat_a64.proofs.Offsets.{lower_half}
use Rattle.oat_a64.proofs.places.from_twos_complement.Goals as goal

pub returns-then-number : goal.returns-then-number
returns-then-number g c =
    let half = lower_half g.row.W c.args.number c.requires.wide c.requires.within c.if-number.true in
    let small : c.args.number < 2 ^ 31 = half.1 in
    let test : nat_lt (2 * c.args.number) (2 ^ g.row.W) ≡ true = lt-ltb (2 * c.args.number) (2 ^ g.row.W) half.0 in
    rw test (omega (arith, ints))
