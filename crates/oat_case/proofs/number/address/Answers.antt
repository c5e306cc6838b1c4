use Rattle.std.proofs.Common.{sym, ◌∙◌}
use Rattle.oat_case.proofs.Addresses.{address_read}
use Rattle.oat_case.proofs.number.address.Goals as goal

pub returns-then-are_hex_digits : goal.returns-then-are_hex_digits
returns-then-are_hex_digits c =
    address_read c.value.result c.args.word.now c.if-len-ge1.true c.if-len-le16.true (sym c.are_hex_digits.ensures ∙ c.if-are_hex_digits.true) c.value.ensures
