-- What holds of each script that is read.
use Rattle.std.specs.Prelude.{◌≡◌, ℕ, List, [], None, Ok, map}
use Rattle.oat_owner.specs.Ledger.{repeated_behind}
use Rattle.oat_script.specs.{declared.script.Script.Script, Reading.script_of}

-- No two devices have one id.
abbrev pub HasDistinctIds : Script → Type 0
HasDistinctIds script = repeated_behind [] (map (λ d. d.id) script.devices) ≡ None

abbrev pub IdsDiffer : Type 0
IdsDiffer = (text : List ℕ) (script : Script) → script_of text ≡ Ok script → HasDistinctIds script
