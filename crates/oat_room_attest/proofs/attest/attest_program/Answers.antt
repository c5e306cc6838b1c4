use Rattle.oat_page.proofs.{Showing.Shows-more, Working.stops_answer}
use Rattle.oat_room_attest.specs.Attest.{AttestsProgram, ShowsWindows}
use Rattle.oat_room_attest.proofs.Attesting.{answers_files, attested_windows, stops_refused}
use Rattle.oat_room_attest.proofs.attest.attest_program.Goals as goal

pub show_attested-requires : goal.show_attested-requires
show_attested-requires g c =
    let are = c.in-Ok.ensures in
    let counted = attested_windows c.in-Ok.done.case c.in-Ok.done.attested are.held.given.read.limits are.attests.tells in
    record { each = counted.0; few = counted.1 }

pub returns-in-Ok-clause-shows : goal.returns-in-Ok-clause-shows
returns-in-Ok-clause-shows g c =
    Shows-more _ _ _ _ _ (λ o answered. answers_files c.args.files.now c.in-Ok.done.case c.in-Ok.done.attested o c.in-Ok.ensures answered) c.show_attested.ensures.shows

pub returns-in-Err-clause-shows : goal.returns-in-Err-clause-shows
returns-in-Err-clause-shows g c =
    Shows-more _ _ _ _ _
    (λ o is. stops_answer (AttestsProgram c.args.files.now) c.in-Err.stop o (stops_refused ShowsWindows c.args.files.now c.in-Err.stop c.in-Err.ensures) is)
    (c.say_stop.ensures.shows _ _)
