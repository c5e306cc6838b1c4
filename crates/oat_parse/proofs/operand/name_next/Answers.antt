use Rattle.std.proofs.Common.{◌≡◌, sym, ◌∙◌}
use Rattle.oat_parse.specs.SeenOpened.{pending_of}
use Rattle.oat_parse.specs.SeenPlaces.{seen_use}
use Rattle.oat_parse.proofs.Plain.{name_goes_on}
use Rattle.oat_parse.proofs.operand.name_next.Goals as goal

pub returns-else-is-2 : goal.returns-else-is-2
returns-else-is-2 c =
    name_goes_on c.operator_next.result c.args.name (seen_use c.args.purpose) (pending_of c.args.opened) c.args.token
    (sym c.is.ensures ∙ c.if-is.false) (sym c.is-else-is.ensures ∙ c.if-is-2.false) c.operator_next.ensures
