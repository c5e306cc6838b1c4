-- What the lines so far have read_so_far, as contracts see it.
use Rattle.oat_script.specs.{declared.draft.Draft.Draft, declared.script.Script.Script}

abbrev pub read_so_far : Draft → Script
read_so_far d = record { devices = d.devices.items; calls = d.calls.items }
