use Rattle.std.proofs.Common.{◌∙◌, length, ap}
use Rattle.oat_page.proofs.Showing.{Shows-more}
use Rattle.oat_shown.specs.Windows.{refuses_one}
use Rattle.oat_room_attest.proofs.Attesting.{answers_windows}
use Rattle.oat_room_attest.proofs.attest.show_attested.Goals as goal

pub returns-clause-shows : goal.returns-clause-shows
returns-clause-shows g c =
    let done = c.args.done in
    let verdicts = c.as_slice-verdicts.ensures in
    let ends = c.ended_with-ended.ensures done.attested.verdicts (ap length verdicts) (c.refuses_one.ensures ∙ ap refuses_one verdicts) in
    Shows-more _ _ _ _ _ (λ o is. answers_windows done.case done.attested o _ _ ends c.want_text.ensures is)
    (c.close.ensures.shows _ _ c.put_attested-put.ensures)

pub returns-clause-write_fault : goal.returns-clause-write_fault
returns-clause-write_fault g c = c.close.ensures.write_fault _ _ c.put_attested-put.ensures

pub returns-clause-raised : goal.returns-clause-raised
returns-clause-raised g c = c.close.ensures.raised _ _ c.put_attested-put.ensures
