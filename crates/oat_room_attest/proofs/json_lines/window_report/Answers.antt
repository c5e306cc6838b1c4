use Rattle.std.proofs.Common.{◌≡◌, ◌∙◌, List, sym, ap, subst}
use Rattle.std.specs.{Prelude.is_some, Prelude.slice_get, List.AllByRecursion, Option.option_copied}
use Rattle.oat_shown.specs.{Image, Verdict, IsPlainText, cause_member, is_accepted}
use Rattle.oat_room_attest.specs.Json.{accepted_lines}
use Rattle.oat_room_attest.proofs.PlainWindows.{accepted_is_plain, end_is_plain, json_alike, looked_up}
use Rattle.oat_room_attest.proofs.json_lines.window_report.Goals as goal

pub returns-clause-plain : goal.returns-clause-plain
returns-clause-plain c =
    let verdict = option_copied c.get-verdict.result in
    let path = c.in_ok-accepted_lines.ensures ∙ ap (λ (image : Image). accepted_lines image.map verdict) c.image.ensures.same in
    record {
      end = subst IsPlainText (sym c.in_ok-end_words.ensures) (end_is_plain c.args.attested.now.end);
      path = subst (AllByRecursion IsPlainText) (sym path) (accepted_is_plain c.args.attested.now.shaped c.image.ensures.well_formed verdict);
    }

pub returns-clause-told : goal.returns-clause-told
returns-clause-told c =
    let attested = c.args.attested.now in
    let told : option_copied c.get-verdict.result ≡ slice_get attested.verdicts c.args.serial =
    looked_up c.as_slice.result.now c.args.serial c.get-verdict.result c.get-verdict.ensures.lookup
    ∙ ap (λ (verdicts : List Verdict). slice_get verdicts c.args.serial) c.as_slice.ensures in
    json_alike _ _ (c.without_path.ensures.sealed ∙ ap is_some told) (c.without_path.ensures.accepted ∙ ap is_accepted told)
    (c.without_path.ensures.cause ∙ ap cause_member told) c.in_ok-end_words.ensures (c.from_vec.ensures ∙ (c.in_ok-from_slice.ensures.items ∙ c.as_slice-2.ensures))
    (c.in_ok-accepted_lines.ensures ∙ (ap (λ (image : Image). accepted_lines image.map (option_copied c.get-verdict.result)) c.image.ensures.same
    ∙ ap (accepted_lines attested.shaped.map) told)) c.window_number.ensures
