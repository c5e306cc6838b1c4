-- The most bytes of each kind of file (docs/FORMATS.md).
use Rattle.std.specs.Prelude.{ℕ}

abbrev pub program_limit : ℕ
program_limit = 1048576

abbrev pub image_limit : ℕ
image_limit = 16777216

abbrev pub case_limit : ℕ
case_limit = 4194304

abbrev pub blob_limit : ℕ
blob_limit = 41943040

abbrev pub policy_limit : ℕ
policy_limit = 65536

abbrev pub script_limit : ℕ
script_limit = 67108864
