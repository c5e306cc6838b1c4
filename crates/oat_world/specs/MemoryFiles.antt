-- What files in memory hold: of two files with one name the first counts (docs/DEFINITIONS.md).
use Rattle.std.specs.{Prelude.ℕ, Prelude.nat_eq, Prelude.List, Prelude.find, Option.option_map, Cmp.Lexicographic.pointwise}
use Rattle.oat_world.specs.{Outside.Contents, FailingCalls.Calls}

-- a file's name and its bytes
pub record HeldFile : Type 0 where
  pub name : List ℕ
  pub bytes : List ℕ

-- the files, the loads that fail, and the two counts
pub record HeldFiles : Type 0 where
  pub files : List HeldFile
  pub loads : Calls
  pub faults : ℕ
  pub taken : ℕ

-- what the first file of a name holds
abbrev pub contents_of : List HeldFile → Contents
contents_of files name = option_map (λ file. file.bytes) (find (λ file. pointwise nat_eq file.name name) files)
