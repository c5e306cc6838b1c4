use Rattle.std.proofs.Common.{rules, ◌≡◌, ◌+◌, ◌<◌, ℕ, List, [], ◌∷◌, drop, length, get_or, sym, ap, subst, ◌∙◌, arith}
use Rattle.std.proofs.lemmas.List.{drop_more, drop_all, take_rest}
use Rattle.oat_journal.specs.{Write, RisesFrom, byte_at}
use Rattle.oat_device.specs.Bare.{DoesFrom}
use Rattle.oat_device.proofs.WritesDue.{IsDue, Done, due-first, due-next, due-done, due-all}
use Rattle.oat_device.proofs.writes.make_due.Goals as goal

-- the first of the writes that are left
left-is : (writes : List Write) (i : ℕ) (w : Write) → i < length writes → w ≡ get_or writes i w → drop i writes ≡ w ∷ drop (i + 1) writes
left-is writes i w lt is = drop_more writes i w lt ∙ ap (λ (x : Write). x ∷ drop (i + 1) writes) (sym is)

pub loop-count-init : goal.loop-count-init
loop-count-init c = due-first c.args.made c.args.writes.now (byte_at c.args.memory.now) c.requires.fit c.requires.rise

done : (c : goal.After-result-1) → Done c.args.made (drop c.loop-count.count c.args.writes.now) c.args.writes.now (byte_at c.loop-count.memory) (byte_at c.args.memory.now)
done c =
    let w = c.index-writes-count.result in
    let is = left-is c.args.writes.now c.loop-count.count w (omega arith) c.index-writes-count.is in
    subst (λ (xs : List Write). Done c.args.made xs c.args.writes.now (byte_at c.loop-count.memory) (byte_at c.args.memory.now)) (sym is)
    (due-done c.args.made w (drop (c.loop-count.count + 1) c.args.writes.now) c.args.writes.now (byte_at c.loop-count.memory) (byte_at c.args.memory.now)
    (subst (λ (xs : List Write). IsDue c.args.made xs c.args.writes.now (byte_at c.loop-count.memory) (byte_at c.args.memory.now)) is c.loop-count.invariant)
    c.if-write-made.true)

pub returns-then-write-made-clause-memory : goal.returns-then-write-made-clause-memory
returns-then-write-made-clause-memory c = (done c).leads

pub returns-then-write-made-clause-rise : goal.returns-then-write-made-clause-rise
returns-then-write-made-clause-rise c =
    subst (RisesFrom (c.args.made + 1)) (sym (take_rest c.args.writes.now c.loop-count.count)) (done c).rise

pub returns-then-write-made-clause-left : goal.returns-then-write-made-clause-left
returns-then-write-made-clause-left c =
    subst (λ (xs : List Write). DoesFrom (c.args.made + 1) xs c.args.writes.now) (sym (take_rest c.args.writes.now c.loop-count.count)) (done c).does

pub loop-count-preserved : goal.loop-count-preserved
loop-count-preserved c =
    let w = c.index-writes-count.result in
    let is = left-is c.args.writes.now c.loop-count.count w (omega arith) c.index-writes-count.is in
    due-next c.args.made w (drop (c.loop-count.count + 1) c.args.writes.now) c.args.writes.now (byte_at c.loop-count.memory) (byte_at c.poke.new.self) (byte_at c.args.memory.now)
    (subst (λ (xs : List Write). IsDue c.args.made xs c.args.writes.now (byte_at c.loop-count.memory) (byte_at c.args.memory.now)) is c.loop-count.invariant)
    c.if-write-made.false (c.poke.ensures ∙ search rules)

all : (c : goal.After-result-2-1) → Done c.args.made [] c.args.writes.now (byte_at c.loop-count.memory) (byte_at c.args.memory.now)
all c =
    due-all c.args.made c.args.writes.now (byte_at c.loop-count.memory) (byte_at c.args.memory.now)
    (subst (λ (xs : List Write). IsDue c.args.made xs c.args.writes.now (byte_at c.loop-count.memory) (byte_at c.args.memory.now)) (drop_all c.loop-count.count c.args.writes.now (omega arith)) c.loop-count.invariant)

pub returns-clause-memory : goal.returns-clause-memory
returns-clause-memory c = (all c).leads

pub returns-clause-left : goal.returns-clause-left
returns-clause-left c = (all c).does
