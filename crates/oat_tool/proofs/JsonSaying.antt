-- The room of `attest --json`: its texts are plain, what a line tells of a verdict, and what its statuses say.
use Rattle.std.proofs.Common.{◌∙◌, ℕ, List, sym, ap, subst}
use Rattle.oat_page.proofs.Working.{IsDone}
use Rattle.oat_words.specs.Commands.{files_of}
use Rattle.oat_shown.proofs.Windowing.{statuses}
use Rattle.oat_room_attest.specs.{WindowsAreJudged, Contents, Outcome, Answer, as_outcome, File, AreLoaded, are_few, refuses_one, Json.AttestsInJson, Json.TellsWindows}
use Rattle.oat_room_attest.proofs.Attesting.{AttestsFiles-through}
use Rattle.oat_tool.specs.JsonLaws.{IsToldInJson, JsonIsShown}
use Rattle.oat_tool.proofs.{Setting.work_is_done, Answering.work_is_of_command}
use Rattle.oat_words.specs.declared.command.Command.TheVariants as commands

-- ---- what the statuses say

told_in_json : WindowsAreJudged → (words : List (List ℕ)) (contents : Contents) (files : List File) (a : Answer) → AreLoaded contents (files_of words commands.AttestJson) files
    → AttestsInJson files a → IsDone (as_outcome a).status → IsToldInJson words contents (as_outcome a)
told_in_json judges words contents files a held attests is_done =
    let through = AttestsFiles-through TellsWindows files a is_done attests in
    let calls = through.c.session.calls in
    let verdicts = through.attested.verdicts in
    let told = statuses (are_few calls verdicts) (refuses_one verdicts) (as_outcome a).status (ap (λ (x : Answer). (as_outcome x).status) through.shown) in
    record {
      files = files;
      held = held;
      c = through.c;
      attested = through.attested;
      are = through.are;
      out = ap (λ (x : Answer). (as_outcome x).out) through.shown;
      err = ap (λ (x : Answer). (as_outcome x).err) through.shown;
      judged = judges through.c through.attested through.are.held.given.read.limits through.are.attests.tells;
      leaves_unsealed = told.0;
      rejects = told.1.0;
      accepts = told.1.1;
    }

pub json_is_shown : WindowsAreJudged → JsonIsShown
json_is_shown judges words contents o asked defined work =
    let answered = work_is_of_command words contents commands.AttestJson o asked defined work in
    subst (λ (p : Outcome). IsToldInJson words contents p) (sym answered.does.is)
    (told_in_json judges words contents answered.files answered.does.answer answered.held answered.does.given
    (λ two. work_is_done o.status work (ap (λ (p : Outcome). p.status) answered.does.is ∙ two)))
