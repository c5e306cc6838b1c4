-- A program of lines: 7 is read, divided by -2, and what remains is compared with the quotient; then the quotient is put.
use Rattle.std.specs.Prelude.{◌≡◌, ◌+◌, ℕ, pos, negsuc, true, false, nat_eq, if◌then◌else◌, [], ◌∷◌, Some, None, codes, get_or}
use Rattle.oat_frames.specs.{Image, Map, Running, started, moves, prints, I64, Frames.World, RunsTo}
use Rattle.oat_frames.specs.edges as edges
use Rattle.oat_frames.specs.rows as rows
use Rattle.oat_frames.specs.ends as ends

abbrev pub lines_map : Map
lines_map = record {
  functions = record { entry = 0x10000; name = codes "main"; params = 0; referenced = false } ∷ [];
  blocks = record { start = 0x10018; label = codes "a" } ∷ record { start = 0x10068; label = codes "b" } ∷ record { start = 0x10074; label = codes "c" } ∷ [];
  rows = rows.Check 0x10034 ∷ rows.Check 0x10040 ∷ rows.Branch 0x1005C 0x10068 0x10074 ∷ rows.Jump 0x10070 0x10074 ∷ [];
}

abbrev pub lines_image : Image
lines_image = record {
  code =
      0xD100C3FF ∷ 0xF90003FE ∷ 0xAA1F03F3 ∷ 0xAA1F03F4 ∷ 0xAA1F03F5 ∷ 0xAA1F03F6
      ∷ 0xD4000101 ∷ 0xAA0003F3
      ∷ 0xD29FFFC9 ∷ 0xF2BFFFE9 ∷ 0xF2DFFFE9 ∷ 0xF2FFFFE9 ∷ 0xAA0903F4
      ∷ 0xB5000054 ∷ 0xD4200020 ∷ 0x9AD40E75
      ∷ 0xB5000054 ∷ 0xD4200020 ∷ 0x9AD40E6B ∷ 0x9B14CD76
      ∷ 0xEB1602BF ∷ 0x9A9FA7F6
      ∷ 0xAA1603E9 ∷ 0xD4000061 ∷ 0xB5000049 ∷ 0x14000004
      ∷ 0xAA1503E0 ∷ 0xD4000121 ∷ 0x14000001
      ∷ 0xD4000001 ∷ [];
  words = [];
  cells = [];
  map = lines_map;
}

-- The locals are 0 to 3, in X19 to X22, and the blocks `in 0; const 1 -2; div 2 0 1; rem 3 0 1; lt 3 2 3; branch 3`, `out 2; jump` and `halt`.
abbrev pub lines_world : World
lines_world = record {
  image = lines_image;
  label = λ l. if nat_eq l 0 then 0x10000 else (if nat_eq l 1 then 0x10068 else 0x10074);
  may_name = λ f k. false;
  locals = λ f. 4;
  ty = λ f i. I64;
  is_leaf = λ f. true;
  place = λ f b l. get_or (if nat_eq b 0 then 0x10018 ∷ 0x10020 ∷ 0x10034 ∷ 0x10040 ∷ 0x10050 ∷ 0x10058 ∷ []
      else (if nat_eq b 1 then 0x10068 ∷ 0x10070 ∷ []
      else 0x10074 ∷ [])) l 0;
  result = λ f b l. None;
  globals = 0;
  global_ty = λ i. I64;
}

-- 7 by -2 is -3, and 1 remains
abbrev pub LinesRun : Type 0
LinesRun =
    (n : ℕ) × (k : Running)
    × RunsTo lines_image n (started lines_image (pos 7 ∷ [])) k (moves (edges.Branch 0x1005C true 0x10068) ∷ prints (negsuc 2) ∷ moves (edges.Jump 0x10070 0x10074) ∷ [])
    × (k.end ≡ Some ends.Halted) × (k.outputs ≡ negsuc 2 ∷ [])
