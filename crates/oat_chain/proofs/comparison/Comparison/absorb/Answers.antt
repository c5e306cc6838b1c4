use Rattle.std.proofs.Common.{[], ◌∷◌, ◌++◌, Option, sym, subst}
use Rattle.oat_chain.specs.{declared.message.Clash.Clash, Clash.IsLastClash}
use Rattle.oat_chain.proofs.Comparing.{later-clash}
use Rattle.oat_chain.proofs.comparison.Comparison.absorb.Goals as goal

pub returns : goal.returns
returns c = λ head run replay before.
    let a = c.args.run_address in
    let b = c.args.replay_address in
    let of_run = c.absorb.ensures head run before.run in
    let of_replay = c.absorb-2.ensures head replay before.replay in
    record {
      run = of_run;
      replay = of_replay;
      last = subst (λ (last : Option Clash). IsLastClash head (run ++ a ∷ []) (replay ++ b ∷ []) last) (sym c.or-self.ensures)
          (later-clash head run replay a b c.absorb.new.self.last c.absorb-2.new.self.last c.differing.result c.args.self.now.last
          of_run.last of_replay.last c.differing.ensures.none c.differing.ensures.some before.last);
    }
