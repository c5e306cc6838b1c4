use Rattle.oat_policy.proofs.words.words_of.Goals as goal

pub returns-in-Ret : goal.returns-in-Ret
returns-in-Ret c = rw c.in-Ret.is c.return_words.ensures

pub returns-in-End : goal.returns-in-End
returns-in-End c = rw c.in-End.is (c.end_words.ensures c.args.map.now)

pub returns-in-Stray : goal.returns-in-Stray
returns-in-Stray c = rw c.in-Stray.is (c.stray_words.ensures c.args.map.now)
