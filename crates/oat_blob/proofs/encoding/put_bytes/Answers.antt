use Rattle.oat_blob.proofs.Fixed.{all_bytes}
use Rattle.oat_blob.proofs.encoding.put_bytes.Goals as goal

pub returns-clause-fits : goal.returns-clause-fits
returns-clause-fits c = all_bytes c.args.bytes.now c.type_inv.bytes
