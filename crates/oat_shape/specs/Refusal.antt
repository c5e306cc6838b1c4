-- What a refusal says of an image, and that images are decided by it (docs/FORMATS.md, "Shape").
use Rattle.std.specs.Prelude.{◌≡◌, ℕ}
use Rattle.oat_image.specs.declared.image.Image.{Image}
use Rattle.oat_shape.specs.{declared.fault.ShapeFault.ShapeFault, declared.fault.ShapeFault.TheVariants.Rule, declared.fault.ShapeFault.TheVariants.Memory, Shape.IsShaped, Shape.IsBroken}

-- The rule of a fault is the first that the image breaks. Want of memory says nothing of the image.
abbrev pub IsFault : Image → ShapeFault → Type 0
IsFault i (Rule number at) = IsBroken i number at
IsFault i Memory = Unit {0}

-- an image that breaks a rule hasn't the shape, and breaks no other rule first, nor the rule at another address
abbrev pub ShapeIsDecided : Type 0
ShapeIsDecided =
    (i : Image) (number at : ℕ) → IsBroken i number at
    → (¬ IsShaped i) × ((other there : ℕ) → IsBroken i other there → (other ≡ number) × (there ≡ at))
