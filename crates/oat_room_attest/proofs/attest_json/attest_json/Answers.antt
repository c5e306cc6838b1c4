use Rattle.std.proofs.Common.{◌∙◌, length, ap}
use Rattle.std.proofs.lemmas.Result.{err_from_is_err_and}
use Rattle.oat_shown.specs.{shows, Windows.refuses_one, Windows.want_text}
use Rattle.oat_room_attest.specs.Json.{TellsWindows}
use Rattle.oat_room_attest.proofs.Attesting.{shows_attested, stops_refused}
use Rattle.oat_room_attest.proofs.attest_json.attest_json.Goals as goal

pub returns-in_err-done : goal.returns-in_err-done
returns-in_err-done c =
    let p = err_from_is_err_and c.from_residual.result c.from_residual.ensures.1 in
    rw (p.1, p.2) (stops_refused TellsWindows c.args.files.now _ c.in_err-done.ensures)

pub returns : goal.returns
returns c =
    let done = c.in_ok-done.done in
    let verdicts = c.as_slice-verdicts.ensures in
    let ended = c.ended_with-ended.ensures done.attested.verdicts (ap length verdicts) (c.refuses_one.ensures ∙ ap refuses_one verdicts) in
    let text = c.of.ensures in
    let said = c.in_ok-said.ensures.items ∙ (c.want_text.ensures ∙ ap want_text ended) in
    shows_attested TellsWindows c.args.files.now done.case done.attested _ c.in_ok-done.ensures (λ i. shows (ended i) (text i) (said i))
