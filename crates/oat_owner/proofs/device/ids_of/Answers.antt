use Rattle.std.proofs.Common.{nat_eq, ◌≡◌, ◌+◌, ◌++◌, ◌∷◌, [], List, ℕ, false, drop, sym, subst}
use Rattle.std.specs.List.{list_any}
use Rattle.oat_owner.specs.Ledger.{repeated_id, repeated_behind, ids_of}
use Rattle.oat_owner.proofs.Tabling.{was_there, was_new, repeats, goes_on, ids_grow, ids_so_far}
use Rattle.oat_owner.proofs.device.ids_of.Goals as goal

pub returns-then-not-branch : goal.returns-then-not-branch
returns-then-not-branch c =
    repeats c.args.known.now c.loop-device.ids.keys c.loop-device.device-index c.device-item.result c.loop-device-test.true c.device-item.is _
    (was_there c.in_ok-insert.field-0 _ c.in_ok-insert.ensures.added c.if-not-branch.true) c.loop-device.invariant.rest

pub loop-device-preserved : goal.loop-device-preserved
loop-device-preserved c =
    let known = c.args.known.now in
    let keys = c.loop-device.ids.keys in
    let i = c.loop-device.device-index in
    let k = c.device-item.result in
    let none : list_any (nat_eq k.id) keys ≡ false = was_new c.in_ok-insert.field-0 _ c.in_ok-insert.ensures.added c.if-not-branch.false in
    let grown : c.insert.new.self.keys ≡ keys ++ k.id ∷ [] = ids_grow known keys i k c.loop-device-test.true c.device-item.is c.insert.new.self.keys none c.in_ok-insert.ensures.keys in
    record {
      so_far = ids_so_far known keys i k c.loop-device-test.true c.device-item.is c.insert.new.self.keys grown c.loop-device.invariant.so_far;
      rest = subst (λ (ks : List ℕ). repeated_behind ks (ids_of (drop (i + 1) known)) ≡ repeated_id known) (sym grown)
          (goes_on known keys i k c.loop-device-test.true c.device-item.is (repeated_id known) none c.loop-device.invariant.rest);
    }
