-- What reading and spelling an image text have to do with each other, for the crates above.
use Rattle.std.proofs.Common.{◌≡◌, ℕ, List, Ok}
use Rattle.oat_image.specs.{declared.image.Image.Image, Grammar.image_text, Grammar.IsWellFormedImage, Grammar.IsImageText, ImageReading.image_at}
use Rattle.oat_image.proofs.Images as images

pub image_stands : (text : List ℕ) (image : Image) → image_at text ≡ Ok image → IsImageText text image
image_stands = images.image_takes

pub image_is_read : (text : List ℕ) (image : Image) → IsImageText text image → image_at text ≡ Ok image
image_is_read = images.image_reads

pub image_again : (image : Image) → IsWellFormedImage image → image_at (image_text image) ≡ Ok image
image_again = images.image_again
