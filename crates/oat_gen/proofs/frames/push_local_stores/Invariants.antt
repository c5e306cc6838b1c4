use Rattle.std.proofs.Common.{◌≡◌, ◌++◌, ◌-◌}
use Rattle.oat_globals.specs.{local_stores}
use Rattle.oat_gen.proofs.frames.push_local_stores.Given as goal

abbrev pub invariant-loop-local : goal.invariant-loop-local
invariant-loop-local l = l.out.items ++ local_stores l.leaf l.params l.local (l.locals - l.local) ≡ l.initial.out.items ++ local_stores l.leaf l.params 0 l.locals
