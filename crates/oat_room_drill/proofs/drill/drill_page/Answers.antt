use Rattle.std.proofs.Common.{◌∙◌, length, ap, refl}
use Rattle.sha2.specs.Sha256.{sha256}
use Rattle.oat_shown.specs.{Image, Report.path_text}
use Rattle.oat_room_drill.proofs.Making.{report_from, shown_as}
use Rattle.oat_room_drill.proofs.drill.drill_page.Goals as goal

pub returns : goal.returns
returns c =
    let path = c.path_in-path.result.now in
    let flow = c.args.attested.now.shaped.map in
    let hashed = c.in_ok-digest.ensures ∙ ap (λ (image : Image). sha256 (path_text image.map path)) c.image.ensures.same in
    record {
      attested = c.args.attested.now;
      drilled = c.requires.drilled;
      verdict = c.args.verdict.now;
      first = c.requires.first;
      is = shown_as _ _ _ _ _ c.ended_with.ensures
          (c.of.ensures ∙ (c.in_ok-text.ensures
          ∙ report_from c.args.number flow c.args.verdict.now (length c.args.attested.now.outputs) _ _ path _ (ap length c.as_slice-outputs.ensures) c.path_in-path.ensures refl hashed))
          c.new.ensures.items;
    }
