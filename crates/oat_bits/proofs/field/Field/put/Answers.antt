use Rattle.std.proofs.Common.{arith}
use Rattle.oat_bits.proofs.FieldLemmas.{put_is}
use Rattle.oat_bits.proofs.field.Field.put.Goals as goal

pub overflow_add-result : goal.overflow_add-result
overflow_add-result g c =
    let sum = put_is g.row.LO g.row.W c.args.word c.args.value c.get.result c.requires.within (omega arith) c.requires.fits c.get.ensures in
    omega (arith, sum.0, sum.1)

pub returns : goal.returns
returns g c = (put_is g.row.LO g.row.W c.args.word c.args.value c.get.result c.requires.within (omega arith) c.requires.fits c.get.ensures).0
