-- The smallest image with a jump, and its text: an operation that jumps to the block behind it, and ends (docs/FORMATS.md).
use Rattle.std.specs.{Prelude.ℕ, Prelude.List, Prelude.[], Prelude.◌∷◌, Prelude.codes, Prelude.false, List.flat_map}
use Rattle.oat_lines.specs.Fields.{ended}
use Rattle.oat_map.specs.{declared.map.Map.Map, declared.row.Row.TheVariants.Jump, declared.row.Row.TheVariants.Begin, declared.row.Row.TheVariants.End}
use Rattle.oat_image.specs.declared.image.Image.{Image}

abbrev pub one_jump_map : Map
one_jump_map = record {
  functions = record { entry = 0x10000; name = codes "main"; params = 0; referenced = false } ∷ [];
  blocks = record { start = 0x1000C; label = codes "b" } ∷ [];
  rows = Begin 0x10000 1 ∷ Jump 0x10008 0x1000C ∷ End 0x1000C 1 ∷ [];
}

abbrev pub one_jump : Image
one_jump = record {
  code = 0xD2800029 ∷ 0xD4000021 ∷ 0x14000001 ∷ 0xD2800029 ∷ 0xD4000041 ∷ 0xD4000001 ∷ [];
  words = [];
  cells = [];
  map = one_jump_map;
}

abbrev pub one_jump_lines : List (List ℕ)
one_jump_lines =
    codes "oat-image 1"
    ∷ codes "code 6" ∷ codes "D2800029" ∷ codes "D4000021" ∷ codes "14000001" ∷ codes "D2800029" ∷ codes "D4000041" ∷ codes "D4000001"
    ∷ codes "data 0"
    ∷ codes "cells 0"
    ∷ codes "functions 1" ∷ codes "00010000 main 0 0"
    ∷ codes "blocks 1" ∷ codes "0001000C b"
    ∷ codes "rows 3" ∷ codes "begin 00010000 1" ∷ codes "jump 00010008 0001000C" ∷ codes "end 0001000C 1"
    ∷ codes "end" ∷ []

abbrev pub one_jump_text : List ℕ
one_jump_text = flat_map ended one_jump_lines
