use Rattle.oat_blob.proofs.Fixed.{all_bytes, array_stops}
use Rattle.oat_blob.proofs.reader.array.Goals as goal

pub returns-in-None : goal.returns-in-None
returns-in-None g c = array_stops g.row.N c.args.bytes.now (all_bytes c.args.bytes.now c.type_inv.bytes) c.in-None.ensures.cases
