use Rattle.std.proofs.Common.{◌≡◌, take}
use Rattle.oat_page.specs.{Adds}
use Rattle.oat_shown.specs.Report.{path_text}
use Rattle.oat_shown.proofs.report.put_edges.Given as goal

abbrev pub invariant-loop-edge : goal.invariant-loop-edge
invariant-loop-edge g l =
    (g.S.Sink.faults l.sink ≡ g.S.Sink.faults l.initial.sink)
    × Adds (g.S.Sink.told l.initial.sink) (path_text l.map (take l.edge-index l.path)) (g.S.Sink.told l.sink)
