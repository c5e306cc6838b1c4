use Rattle.std.proofs.Common.{List, sym, subst}
use Rattle.oat_page.proofs.{Showing.Shows-more, Working.stops_answer}
use Rattle.oat_shown.specs.{File}
use Rattle.oat_room_verify.specs.Verify.{Verifies}
use Rattle.oat_room_verify.proofs.{Digits.blob_text, Verifying.verifies_concluded}
use Rattle.oat_room_verify.proofs.verify.verify.Goals as goal

pub returns-in-Ok-clause-shows : goal.returns-in-Ok-clause-shows
returns-in-Ok-clause-shows g c =
    let opened = c.in-Ok.ensures in
    let bytes = opened.spelled.decoded in
    Shows-more _ _ _ _ _
    (λ o answered. record {
      answer = answered.answer;
      given = subst (λ (fs : List File). Verifies fs answered.answer) (sym opened.are)
          (verifies_concluded opened.image opened.case opened.blob _ _ bytes.0 answered.answer opened.admitted (blob_text _ _ bytes.0 opened.spelled bytes.1) answered.given);
      is = answered.is;
    })
    (c.conclude.ensures.shows bytes.0 bytes.1)

pub returns-in-Err-clause-shows : goal.returns-in-Err-clause-shows
returns-in-Err-clause-shows g c = Shows-more _ _ _ _ _ (λ o is. stops_answer (Verifies c.args.files.now) c.in-Err.stop o c.in-Err.ensures is) (c.say_stop.ensures.shows _ _)
