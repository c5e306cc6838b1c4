use Rattle.oat_hmac.proofs.Blocks.{filled_block}
use Rattle.oat_hmac.proofs.filled.Goals as goal

pub returns : goal.returns
returns c = filled_block c.copy_from_slice.new.self c.args.key.now 64 c.copy_from_slice.ensures.after
