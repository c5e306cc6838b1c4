use Rattle.std.proofs.Common.{[], ◌∷◌, ◌++◌, ℕ, ap, ◌∙◌}
use Rattle.oat_globals.specs.{Item, home_of, home_store}
use Rattle.oat_gen.proofs.Loops.{stores_on}
use Rattle.oat_gen.proofs.frames.push_local_stores.Goals as goal

pub loop-local-preserved : goal.loop-local-preserved
loop-local-preserved c =
    let item = c.into_home.ensures ∙ ap (λ (r : ℕ). home_store r (home_of c.args.leaf c.loop-local.local)) c.start_register.ensures in
    stores_on c.args.leaf c.args.params c.loop-local.local c.args.locals c.loop-local.out.items c.push.new.self.items _ c.loop-local-test.true c.loop-local.invariant
    (c.in_ok-push.ensures.items ∙ ap (λ (x : Item). c.loop-local.out.items ++ x ∷ []) item)
