use Rattle.std.proofs.Common.{ℕ, List, [], ◌∷◌, ◌++◌, sym, ap, subst, ◌∙◌}
use Rattle.oat_chain.specs.{Chain.link, Clash.IsLastMessage}
use Rattle.oat_chain.proofs.Messages.{last-push}
use Rattle.oat_chain.proofs.comparison.Chained.absorb.Goals as goal

pub returns : goal.returns
returns c = λ head addresses before.
    let address = c.args.address in
    record {
      stands = c.absorb.ensures head addresses before.stands;
      last = subst (IsLastMessage head (addresses ++ address ∷ []))
          (sym (c.joined.ensures ∙ ap (λ (h : List ℕ). link h address) (c.digest.ensures head addresses before.stands)))
          (last-push head addresses address);
    }
