use Rattle.std.proofs.Common.{◌*◌}
use Rattle.std.proofs.lemmas.Result.{MatchResult-weaker}
use Rattle.oat_blob.proofs.{Counted.addresses_front, Counted.addresses_wanting, Fixed.all_bytes, Fixed.cut_bytes}
use Rattle.oat_blob.proofs.reader.addresses.Goals as goal

pub returns-clause-read : goal.returns-clause-read
returns-clause-read c =
    let bytes = c.args.bytes.now in
    let all = all_bytes bytes c.type_inv.bytes in
    MatchResult-weaker c.split.result c.split.ensures
    (λ read cut. addresses_front c.args.count bytes read.0.now read.1.now cut.parted cut.sized (cut_bytes (c.args.count * 8) bytes read.0.now read.1.now cut all))
    (λ stop short. addresses_wanting c.args.count bytes stop.left all short.0 short.1)
