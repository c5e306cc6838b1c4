-- What the statuses of `attest --json` say of the defined outcome (docs/PROMISES.md).
use Rattle.std.specs.Prelude.{◌≡◌, ◌↔◌, ℕ, true, false, List}
use Rattle.oat_words.specs.Commands.{IsLine, files_of}
use Rattle.oat_room_attest.specs.{Contents, Case, Attested, JudgesWindows, calls_measured, Outcome, File, AreLoaded, Attest.AreAttested, Json.json_lines, are_few, ended_with, refuses_one, want_text}
use Rattle.oat_tool.specs.{Defined.Defined, DefinedLaws.IsOfWork}
use Rattle.oat_words.specs.declared.command.Command.TheVariants as commands

-- The files that the words name are attested, and the outcome is just the JSON line of each window that the case calls for: with status 7 exactly where fewer
-- windows sealed than it calls for, else with status 1 exactly where a verdict refuses, and else with status 0.
pub record IsToldInJson (words : List (List ℕ)) (contents : Contents) (o : Outcome) : Type 0 where
  pub files : List File
  pub held : AreLoaded contents (files_of words commands.AttestJson) files
  pub c : Case
  pub attested : Attested
  pub are : AreAttested files c attested
  pub out : o.out ≡ json_lines c.session.calls attested 0 (calls_measured c.session)
  pub err : o.err ≡ want_text (ended_with c.session.calls attested.verdicts)
  -- there is a verdict for each window that sealed, and these are all that the case calls for or fewer
  pub judged : JudgesWindows c attested are.attests.tells
  pub leaves_unsealed : o.status ≡ 7 ↔ (are_few c.session.calls attested.verdicts ≡ true)
  pub rejects : o.status ≡ 1 ↔ ((are_few c.session.calls attested.verdicts ≡ false) × (refuses_one attested.verdicts ≡ true))
  pub accepts : o.status ≡ 0 ↔ ((are_few c.session.calls attested.verdicts ≡ false) × (refuses_one attested.verdicts ≡ false))

-- A status of work is that of the windows that are told.
abbrev pub JsonIsShown : Type 0
JsonIsShown = (words : List (List ℕ)) (contents : Contents) (o : Outcome) → IsLine words commands.AttestJson → Defined words contents o
    → IsOfWork o.status → IsToldInJson words contents o
