-- The theorem of `attest`: what a status of work says to its caller (docs/PROMISES.md).
use Rattle.std.specs.{Prelude.◌≡◌, Prelude.ℕ, Prelude.List, Prelude.Some, Prelude.map, Prelude.slice_get, String.string_bytes, declared.string.String.String, declared.alloc.Global.Global}
use Rattle.oat_attest.specs.Headline.{FollowedOrClashes, calls_before}
use Rattle.oat_words.specs.Commands.{IsLine, files_of}
use Rattle.oat_room_attest.specs.{Contents, Edge, Case, serial_of, window_of, Accept, Attested, TellsRun, opening_told, run_told, as_outcome, File, AreLoaded, Read, Attest.AreAttested}
use Rattle.oat_room_attest.specs.{Attest.attested_answer, Put}
use Rattle.oat_tool.specs.{DefinedLaws.IsOfWork, CallLaws.ShowsJust}
use Rattle.oat_words.specs.declared.command.Command.TheVariants as commands

-- Window s of the run followed the path, or its returns and the path's clash.
abbrev pub WindowIsHeadlined : (c : Case) (a : Attested) → TellsRun c a → (s : ℕ) → (path : List Edge) → Type 0
WindowIsHeadlined c a told s path =
    FollowedOrClashes a.shaped c.session path (serial_of (opening_told told) s) (calls_before (opening_told told) s (run_told told))
    (window_of (opening_told told) s (run_told told))

-- All that was put is of the measured run of the case on one image of the program: its outputs and its end, the blobs of its windows, and the verdicts on
-- these. And where a verdict accepts a path, the headline holds of that window and the path.
pub record ShowsOneRun (words : List (List ℕ)) (contents : Contents) (out err : Put) (status : ℕ) : Type 0 where
  pub files : List File
  pub held : AreLoaded contents (files_of words commands.Attest) files
  pub c : Case
  pub attested : Attested
  pub are : AreAttested files c attested
  pub shown : ShowsJust (as_outcome (attested_answer c attested)) out err status
  pub headline : (s : ℕ) (path : List Edge) → slice_get attested.verdicts s ≡ Some (Accept path) → WindowIsHeadlined c attested are.attests.tells s path

-- With a status of work `attest` shows one run.
abbrev pub IsOfOneRun : List (List ℕ) → Read → Put → Put → ℕ → Type 0
IsOfOneRun words files out err status =
    (contents : Contents) → files.told ≡ Some contents → IsLine words commands.Attest → IsOfWork status → ShowsOneRun words contents out err status

abbrev pub OfOneRun : List (String Global) → Read → Put → Put → ℕ → Type 0
OfOneRun words = IsOfOneRun (map string_bytes words)
