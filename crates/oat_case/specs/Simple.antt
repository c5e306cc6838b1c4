-- A case text that says no more than it must, and the case that it stands for: the worked case of docs/FORMATS.md.
use Rattle.std.specs.{Prelude.ℕ, Prelude.List, Prelude.[], Prelude.◌∷◌, Prelude.None, Prelude.codes, Prelude.replicate, List.flat_map}
use Rattle.oat_lines.specs.Fields.{ended}
use Rattle.oat_case.specs.declared.case.Case.{Case}

abbrev pub simple_text : List ℕ
simple_text =
    flat_map ended (codes "oat-case 1" ∷ codes "key 0b0b0b0b0b0b0b0b0b0b0b0b0b0b0b0b0b0b0b0b" ∷ codes "nonce 000102030405060708090a0b0c0d0e0f" ∷ codes "operation 1" ∷ codes "steps 100000" ∷ [])

abbrev pub simple_case : Case
simple_case = record {
  session = record { key = replicate 20 11; nonce = 0 ∷ 1 ∷ 2 ∷ 3 ∷ 4 ∷ 5 ∷ 6 ∷ 7 ∷ 8 ∷ 9 ∷ 10 ∷ 11 ∷ 12 ∷ 13 ∷ 14 ∷ 15 ∷ []; op = 1; calls = None };
  steps = 100000;
  inputs = [];
  writes = [];
}
