use Rattle.std.proofs.Common.{Err, ap}
use Rattle.oat_programs.proofs.Programming.{refuses_words}
use Rattle.oat_room_attest.proofs.attest.attested_of.Goals as goal

pub returns-in_ok-too_large-in-Err-CodeTooLarge : goal.returns-in_ok-too_large-in-Err-CodeTooLarge
returns-in_ok-too_large-in-Err-CodeTooLarge c =
    let words = c.in-Err-CodeTooLarge.words in
    let said = c.in-Err-CodeTooLarge.ensures in
    let is = ap Err c.in-Err-CodeTooLarge.field-0-is in
    refuses_words c.args.file.now c.args.checked.now words c.name.result.now _ (said.needed words is) (said.too_large words is) (said.bounded words is) c.name.ensures
    c.in_ok-too_large-in-Err-CodeTooLarge.ensures
