use Rattle.std.proofs.Common.{◌∙◌}
use Rattle.oat_replay.proofs.TurnLemmas.{Turns-end}
use Rattle.oat_replay.proofs.replay.Replay.take_end.Goals as goal

pub returns : goal.returns
returns g c = λ flow op steps behind here.
    let ends = rw (c.saturating_sub.ensures, c.saturating_sub-2.ensures, c.bit_count.ensures, c.target_count.ensures) at c.end_turn.ensures in
    Turns-end flow op _ _ c.args.self.now steps behind c.end_turn.result c.args.at c.args.ended c.len.result here c.requires
    (c.len.ensures ∙ c.args.self.now.stack.ok.0) ends
