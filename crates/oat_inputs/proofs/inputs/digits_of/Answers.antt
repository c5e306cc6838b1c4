use Rattle.std.proofs.Common.{ap, refl, codes}
use Rattle.oat_page.specs.Answer.{refused}
use Rattle.oat_page.proofs.Working.{RefusesWith-stops}
use Rattle.oat_inputs.specs.Refusals.{RefusesBlob}
use Rattle.oat_inputs.proofs.inputs.digits_of.Goals as goal

pub returns-in_ok-refused-in-None : goal.returns-in_ok-refused-in-None
returns-in_ok-refused-in-None c =
    RefusesWith-stops (RefusesBlob c.args.file.now) (refused c.name.result.now (codes "Hex")) _ (c.in_ok-refused-in-None.ensures (codes "Hex") refl)
    (record { not_hex = rw c.text.ensures.text at c.in-None.ensures; told = ap (λ name. refused name (codes "Hex")) c.name.ensures })
