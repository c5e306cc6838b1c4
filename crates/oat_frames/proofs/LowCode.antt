-- Code of at most 131,072 words lies low.
use Rattle.std.proofs.Common.{◌≡◌, ◌-◌, ◌/◌, ◌%◌, ◌^◌, ◌<◌, ◌≤◌, ℕ, Bool, true, false, cond, ◌&&◌, eqb, leb, List, length, Option, Some, None, refl, arith}
use Rattle.std.specs.{List.slice_get, Option.option_and_then}
use Rattle.std.proofs.lemmas.Option.{slice_get_within}
use Rattle.oat_asm.specs.{Inst, inst_of, code_base, Image}
use Rattle.oat_frames.specs.Frames.{IsLow}

word-low : (code : List ℕ) (p : ℕ) (i : Inst) → length code ≤ 131072 → (o : Option ℕ) → slice_get code ((p - code_base) / 4) ≡ o → option_and_then inst_of o ≡ Some i → p < 2 ^ 32
word-low code p i few None is h = absurd (cc)
word-low code p i few (Some word) is h = let l : (p - code_base) / 4 < length code = slice_get_within code ((p - code_base) / 4) word is in omega arith

pub low-code : (image : Image) → length image.code ≤ 131072 → IsLow image
low-code image few p i h = by (eqb (p % 4) 0 && leb code_base p) h where
  by : (t : Bool) → option_and_then inst_of (cond t (slice_get image.code ((p - code_base) / 4)) None) ≡ Some i → p < 2 ^ 32
  by true h = word-low image.code p i few (slice_get image.code ((p - code_base) / 4)) refl h
  by false h = absurd (cc)
