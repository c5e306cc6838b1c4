use Rattle.std.proofs.Common.{sym, subst}
use Rattle.oat_build.specs.Built.{IsImageOf}
use Rattle.oat_attestation.proofs.attesting.attest.Goals as goal

pub returns-clause-attests : goal.returns-clause-attests
returns-clause-attests c =
    let built = c.in_ok-shaped.ensures in
    record {
      image = subst (IsImageOf c.args.checked.now) (sym c.in_ok-measure.ensures.same)
          (record { well_formed = built.well_formed; shaped = built.shaped; functions = built.functions; operations = built.operations; few = built.few; runs = built.runs });
      given = c.look_at_case.ensures;
      tells = c.in_ok-measure.ensures.tells;
    }
