-- One step of a text that is made piece by piece (docs/DEFINITIONS.md).
use Rattle.std.specs.{Prelude.◌≡◌, Prelude.◌<◌, Prelude.ℕ, Prelude.List, Prelude.[], Prelude.◌++◌, Prelude.◌+◌, Prelude.Bool, Prelude.true, Prelude.false, Prelude.Option, Prelude.Some, Prelude.None}
use Rattle.std.specs.{Prelude.Result, Prelude.Ok, Prelude.Err, declared.vec.Vec.Vec, declared.alloc.Global.Global, declared.alloc.AllocError.AllocError}

-- The next piece stands in front of what is left; or nothing is left; or memory was wanting, and nothing is said.
abbrev pub MakesPiece : (text left : List ℕ) (turns less : ℕ) → Result (Option (Vec ℕ Global)) AllocError → Type 0
MakesPiece text left turns less (Ok (Some piece)) = (text ≡ piece.items ++ left) × (less < turns)
MakesPiece text left turns less (Ok None) = text ≡ []
MakesPiece text left turns less (Err starved) = Unit {0}

-- a text that may be there
abbrev pub text_of_some : {P : Type 0} → (P → List ℕ) → Option P → List ℕ
text_of_some text None = []
text_of_some text (Some pieces) = text pieces

abbrev pub turns_of_some : {P : Type 0} → (P → ℕ) → Option P → ℕ
turns_of_some turns None = 0
turns_of_some turns (Some pieces) = turns pieces

-- one text and then another, of which the first is behind or isn't
abbrev pub text_of_both : Bool → List ℕ → List ℕ → List ℕ
text_of_both true first second = second
text_of_both false first second = first ++ second

abbrev pub turns_of_both : Bool → ℕ → ℕ → ℕ
turns_of_both true first second = second
turns_of_both false first second = first + second
