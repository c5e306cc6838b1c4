-- How many words the code of each line has, and that the fields of its instructions fit.
use Rattle.std.specs.Prelude.{◌≡◌, ◌≤◌, ℕ, ℤ}
use Rattle.oat_frames.specs.{words_needed, AreItemsInRange, BinOp, Frames.Home, Code.IsHome}
use Rattle.oat_locals.specs.Code.{binary_code, binary_words, const_code, copy_code, input_code, output_code, jump_code, branch_code, halt_code}

pub record WordsOfLines : Type 0 where
  pub binary : (op : BinOp) (x y z : Home) → words_needed (binary_code op x y z) ≤ binary_words op
  pub few : (op : BinOp) → binary_words op ≤ 7
  pub const : (x : Home) (value : ℤ) → words_needed (const_code x value) ≡ 5
  pub copy : (x y : Home) → words_needed (copy_code x y) ≡ 2
  pub input : (x : Home) → words_needed (input_code x) ≡ 2
  pub output : (x : Home) → words_needed (output_code x) ≡ 2
  pub jump : (to : ℕ) → words_needed (jump_code to) ≡ 1
  pub branch : (x : Home) (first second : ℕ) → words_needed (branch_code x first second) ≡ 4
  pub halt : words_needed halt_code ≡ 1

pub record LinesAreInRange : Type 0 where
  pub binary : (op : BinOp) (x y z : Home) → IsHome x → IsHome y → IsHome z → AreItemsInRange (binary_code op x y z)
  pub const : (x : Home) (value : ℤ) → IsHome x → AreItemsInRange (const_code x value)
  pub copy : (x y : Home) → IsHome x → IsHome y → AreItemsInRange (copy_code x y)
  pub input : (x : Home) → IsHome x → AreItemsInRange (input_code x)
  pub output : (x : Home) → IsHome x → AreItemsInRange (output_code x)
  pub jump : (to : ℕ) → AreItemsInRange (jump_code to)
  pub branch : (x : Home) (first second : ℕ) → IsHome x → AreItemsInRange (branch_code x first second)
  pub halt : AreItemsInRange halt_code
