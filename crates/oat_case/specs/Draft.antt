-- A case that is being read, as reading sees it (docs/FORMATS.md).
use Rattle.oat_case.specs.{declared.draft.Draft.Draft, Reading.Gathered}

abbrev pub gathered : Draft → Gathered
gathered d = record { begun = d.begun; key = d.key; nonce = d.nonce; operation = d.operation; steps = d.steps; calls = d.calls; inputs = d.inputs.items; writes = d.writes.items; least = d.least }
