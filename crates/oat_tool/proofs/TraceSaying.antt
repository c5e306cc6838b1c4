-- What is said of `trace`: what its statuses say.
use Rattle.std.proofs.Common.{◌∙◌, ℕ, List, ◌∷◌, refl, sym, ap, subst, []}
use Rattle.oat_attest.specs.Headline.{IsSetting}
use Rattle.oat_page.proofs.Working.{IsDone}
use Rattle.oat_words.specs.Commands.{files_of}
use Rattle.oat_inputs.proofs.Admitting.{Admits-through}
use Rattle.oat_shown.proofs.Windowing.{statuses}
use Rattle.oat_room_device.specs.Trace.{Traces, TracesCase, verdicts_on}
use Rattle.oat_room_attest.specs.{WritesCanBeMade, Contents, Image, BeginsAt, Case, Outcome, Answer, as_outcome, File, AreLoaded, AreAdmitted, are_few, refuses_one}
use Rattle.oat_tool.specs.TraceLaws.{IsTracedRun, TraceIsShown}
use Rattle.oat_tool.proofs.{CaseGiven.case_is_given, SameTrace.same_is_followed, SameTrace.shown_edges, Setting.work_is_done, Answering.work_is_of_command}
use Rattle.oat_words.specs.declared.command.Command.TheVariants as commands

-- ---- what the statuses say

setting_of : (i : Image) (c : Case) (begin_at : ℕ) (image case : File) → AreAdmitted image case i c → BeginsAt i.map c.session.op begin_at → IsSetting i c.session begin_at
setting_of i c begin_at image case admitted begins = record { well_formed = admitted.image_read.well_formed; shaped = admitted.shaped; begins = begins }

trace_shown : WritesCanBeMade → (words : List (List ℕ)) (contents : Contents) (files : List File) (a : Answer) → AreLoaded contents (files_of words commands.Trace) files
    → Traces files a → IsDone (as_outcome a).status → IsTracedRun words contents (as_outcome a)
trace_shown made words contents [] a held none is_done = absurd none
trace_shown made words contents (image ∷ []) a held none is_done = absurd none
trace_shown made words contents (image ∷ case ∷ []) a held traces is_done =
    let through = Admits-through image case TracesCase a is_done traces in
    let calls = through.c.session.calls in
    let windows = through.after.windows in
    let setting = setting_of through.i through.c through.after.begin_at image case through.admitted through.after.begins in
    let given = case_is_given made case.text through.c through.admitted.case_read in
    let told = statuses (are_few calls (verdicts_on windows)) (refuses_one (verdicts_on windows)) (as_outcome a).status (ap (λ (x : Answer). (as_outcome x).status) through.after.is) in
    record {
      image = image;
      case = case;
      held = held;
      i = through.i;
      c = through.c;
      admitted = through.admitted;
      answer = a;
      traces = through.after;
      is = refl;
      leaves_unsealed = told.0;
      rejects = told.1.0;
      accepts = told.1.1;
      edges = shown_edges through.i through.c through.after.begin_at setting given through.admitted.begun windows through.after.traced;
      same = same_is_followed through.i through.c through.after.begin_at setting given windows through.after.traced;
    }
trace_shown made words contents (image ∷ case ∷ other ∷ files) a held none is_done = absurd none

pub trace_is_shown : WritesCanBeMade → TraceIsShown
trace_is_shown made words contents o asked defined work =
    let answered = work_is_of_command words contents commands.Trace o asked defined work in
    subst (λ (p : Outcome). IsTracedRun words contents p) (sym answered.does.is)
    (trace_shown made words contents answered.files answered.does.answer answered.held answered.does.given
    (λ two. work_is_done o.status work (ap (λ (p : Outcome). p.status) answered.does.is ∙ two)))
