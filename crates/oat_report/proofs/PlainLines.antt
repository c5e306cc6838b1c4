-- The lines of a path stand in JSON as they are.
use Rattle.std.proofs.Common.{◌≡◌, ℕ, Bool, true, false, ◌++◌, Option, refl, codes, decimal, arith}
use Rattle.std.proofs.lemmas.Bool.Decides.{nat_tests}
use Rattle.oat_verify.specs.{Image, IsWellFormedImage, Edge, PlaceName, Site, place_name, site, call_site}
use Rattle.oat_report.specs.{PathLine.space, PathLine.place_text, PathLine.site_text, PathLine.bit_text, PathLine.address_digits, PathLine.edge_line, JsonLine.IsPlainText}
use Rattle.oat_report.proofs.{PlainTexts.is_plain, PlainTexts.plain_text, PlainTexts.plain_append, PlainTexts.plain_decimal, PlainTexts.plain_address, PlainTexts.spaced, Splitting.IsPlaceWord}
use Rattle.oat_report.proofs.{Splitting.is_place_byte, Splitting.place_bytes, Splitting.all_weaker, SameLines.place_word, SameLines.site_word, SameLines.typed_of}
use Rattle.oat_map.specs.declared.edge.Edge.TheVariants as edges

plain_place_byte : (byte : ℕ) → is_place_byte byte ≡ true → is_plain byte ≡ true
unfolding is_plain
plain_place_byte byte passes = grind (arith, nat_tests)

plain_place : (place : Option PlaceName) → IsPlaceWord place → IsPlainText (place_text place)
plain_place place word = plain_text (place_text place) (all_weaker is_place_byte is_plain plain_place_byte (place_text place) (place_bytes place word))

plain_site : (site : Site) → IsPlaceWord site.place → IsPlainText (site_text site)
unfolding is_plain
plain_site site word =
    plain_append (place_text site.place ++ codes "#") (decimal site.number)
    (plain_append (place_text site.place) (codes "#") (plain_place site.place word) (plain_text (codes "#") refl)) (plain_decimal site.number)

plain_bit : (bit : Bool) → IsPlainText (bit_text bit)
unfolding is_plain
plain_bit true = plain_text (codes "1") refl
plain_bit false = plain_text (codes "0") refl

module _ (image : Image) (formed : IsWellFormedImage image) where
  site_at : (address : ℕ) → IsPlainText (site_text (site image.map address))
  site_at address = plain_site (site image.map address) (site_word image.map (typed_of image formed) address).0

  place_at : (place : ℕ) → IsPlainText (place_text (place_name image.map place))
  place_at place = plain_place (place_name image.map place) (place_word image.map (typed_of image formed) place)

  pub line_is_plain : (edge : Edge) → IsPlainText (edge_line image.map edge)
  unfolding is_plain
  line_is_plain (edges.Jump from to) =
      spaced (codes "jump " ++ site_text (site image.map from)) (place_text (place_name image.map to))
      (plain_append (codes "jump ") (site_text (site image.map from)) (plain_text (codes "jump ") refl) (site_at from)) (place_at to)
  line_is_plain (edges.Branch from bit to) =
      spaced ((codes "branch " ++ site_text (site image.map from)) ++ space ++ bit_text bit) (place_text (place_name image.map to))
      (spaced (codes "branch " ++ site_text (site image.map from)) (bit_text bit)
      (plain_append (codes "branch ") (site_text (site image.map from)) (plain_text (codes "branch ") refl) (site_at from)) (plain_bit bit)) (place_at to)
  line_is_plain (edges.Call from to) =
      spaced (codes "call " ++ site_text (site image.map from)) (place_text (place_name image.map to))
      (plain_append (codes "call ") (site_text (site image.map from)) (plain_text (codes "call ") refl) (site_at from)) (place_at to)
  line_is_plain (edges.ICall from to) =
      spaced (codes "icall " ++ site_text (site image.map from)) (place_text (place_name image.map to))
      (plain_append (codes "icall ") (site_text (site image.map from)) (plain_text (codes "icall ") refl) (site_at from)) (place_at to)
  line_is_plain (edges.Ret from to) =
      spaced (codes "ret " ++ site_text (site image.map from)) (site_text (call_site image.map to))
      (plain_append (codes "ret ") (site_text (site image.map from)) (plain_text (codes "ret ") refl) (site_at from)) (site_at _)
  line_is_plain (edges.End op) = plain_append (codes "end ") (decimal op) (plain_text (codes "end ") refl) (plain_decimal op)
  line_is_plain (edges.Stray from to) =
      spaced (codes "stray " ++ address_digits from) (address_digits to)
      (plain_append (codes "stray ") (address_digits from) (plain_text (codes "stray ") refl) (plain_address from)) (plain_address to)
