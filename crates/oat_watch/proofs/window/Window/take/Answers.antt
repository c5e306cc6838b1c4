use Rattle.std.proofs.Common.{◌∙◌, ◌++◌, map, ap}
use Rattle.std.proofs.lemmas.Result.{on_ok_weaker}
use Rattle.oat_attest.specs.{use_behind, start_cells, made_call, returned}
use Rattle.oat_watch.proofs.Taking.{taken}
use Rattle.oat_watch.proofs.window.Window.take.Goals as goal

pub returns : goal.returns
returns c =
    on_ok_weaker c.push_some-3.result
    (λ uses before made e shows held h.
    taken c.args.image.now c.args.op before made e c.args.self.now (record { path = c.push_some.new.items; returns = c.push_some-2.new.items; uses = c.push_some-3.new.items }) c.shown_edge.result c.returned.result c.used.result
    c.in_ok-push_some.ensures c.in_ok-push_some-2.ensures uses
    (c.shown_edge.ensures e shows) (c.returned.ensures ∙ ap returned (c.call-call.ensures e shows))
    (c.used.ensures (start_cells c.args.image.now) (before ++ map made_call made) held
    ∙ ap (use_behind (start_cells c.args.image.now) (before ++ map made_call made)) (c.call-call.ensures e shows)) h)
    c.push_some-3.ensures
