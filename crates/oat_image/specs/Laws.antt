-- What the image text is good for (docs/FORMATS.md).
use Rattle.std.specs.Prelude.{◌≡◌, ℕ, List}
use Rattle.oat_image.specs.{declared.image.Image.Image, Grammar.IsImageText}

-- A text is that of at most one image: well-formed images with the same text are the same.
abbrev pub OneImage : Type 0
OneImage = (text : List ℕ) (image other : Image) → IsImageText text image → IsImageText text other → image ≡ other
