-- `attest --json PROG CASE`: the first refusal of an input, or a JSON line for each window that the case calls for, whether it sealed or not
-- (docs/FORMATS.md).
use Rattle.std.specs.Prelude.{◌≡◌, ◌+◌, ℕ, zero, suc, List, [], ◌++◌, map, slice_get, Option, Some, None}
use Rattle.oat_attestation.specs.{declared.attested.Attested.Attested, Laws.calls_measured}
use Rattle.oat_report.specs.declared.json_report.Report.{Report}
use Rattle.oat_shown.specs.{Map, Case, Verdict, json_text, edge_line, line, Answer, shows, File, Report.path_in, RunText.end_text, Windows.ended_with, Windows.window_number, Windows.want_text}
use Rattle.oat_room_attest.specs.Attest.{AttestsFiles}

-- the lines of the path that is accepted; none where nothing is
abbrev pub accepted_lines : Map → Option Verdict → List (List ℕ)
accepted_lines flow None = []
accepted_lines flow (Some verdict) = map (edge_line flow) (path_in verdict)

-- what is told of window s
abbrev pub window_report : Option ℕ → Attested → ℕ → Report
window_report calls a s = record {
  end = end_text a.end;
  outputs = a.outputs;
  verdict = slice_get a.verdicts s;
  path = accepted_lines a.shaped.map (slice_get a.verdicts s);
  serial = window_number calls s;
}

-- the lines of so many windows, of which the first is window s
abbrev pub json_lines : Option ℕ → Attested → (s count : ℕ) → List ℕ
json_lines calls a s zero = []
json_lines calls a s (suc more) = line (json_text (window_report calls a s)) ++ json_lines calls a (s + 1) more

-- All windows that the case calls for are told.
abbrev pub TellsWindows : Case → Attested → Answer → Type 0
TellsWindows c attested a = a ≡ shows (ended_with c.session.calls attested.verdicts)
    (json_lines c.session.calls attested 0 (calls_measured c.session))
    (want_text (ended_with c.session.calls attested.verdicts))

abbrev pub AttestsInJson : List File → Answer → Type 0
AttestsInJson = AttestsFiles TellsWindows
