use Rattle.std.proofs.Common.{refl}
use Rattle.oat_feed.proofs.judging.judge_chain.Goals as goal

pub returns-in-Some : goal.returns-in-Some
returns-in-Some c = λ head blob path stands same. record {
  verdict = _;
  right = c.in-Some.ensures head blob path same (c.digest.ensures head _ stands);
  told = refl;
}

pub returns-in-None : goal.returns-in-None
returns-in-None c = λ head blob path stands same. record {
  verdict = _;
  right = c.in-None.ensures head blob path same (c.digest.ensures head _ stands);
  told = refl;
}
