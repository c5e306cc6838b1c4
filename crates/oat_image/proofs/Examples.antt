-- The text of the smallest image with a jump, computed.
use Rattle.std.proofs.Common.{◌≡◌, refl, arith, lit<, lit≤}
use Rattle.std.specs.{Prelude.codes, Fmt.digits}
use Rattle.oat_lines.specs.Hexadecimal.{hexadecimal}
use Rattle.oat_map.specs.Name.{IsName}
use Rattle.oat_map.proofs.NameTests.{name_from_test}
use Rattle.oat_image.specs.{Grammar.image_text, Grammar.IsWellFormedImage, Grammar.IsImageText, Worked.one_jump, Worked.one_jump_text}

spelled : one_jump_text ≡ image_text one_jump
unfolding digits hexadecimal
spelled = refl

main_name : IsName (codes "main")
main_name = name_from_test (codes "main") refl

b_name : IsName (codes "b")
b_name = name_from_test (codes "b") refl

well_formed : IsWellFormedImage one_jump
well_formed = record {
  code = record { each = (lit< tt, (lit< tt, (lit< tt, (lit< tt, (lit< tt, (lit< tt, tt)))))); enough = lit≤ tt; limited = lit≤ tt };
  words = record { each = tt; enough = lit≤ tt; limited = lit≤ tt };
  words_rise = λ k lt. absurd (omega arith);
  cells = record { each = tt; enough = lit≤ tt; limited = lit≤ tt };
  cells_rise = λ k lt. absurd (omega arith);
  functions = record { each = (record { entry = lit< tt; name = main_name; params = lit≤ tt }, tt); enough = lit≤ tt; limited = lit≤ tt };
  functions_rise = λ k lt. absurd (omega arith);
  blocks = record { each = (record { start = lit< tt; label = b_name }, tt); enough = lit≤ tt; limited = lit≤ tt };
  blocks_rise = λ k lt. absurd (omega arith);
  rows = record { each = ((lit< tt, (lit≤ tt, lit≤ tt)), ((lit< tt, lit< tt), ((lit< tt, (lit≤ tt, lit≤ tt)), tt))); enough = lit≤ tt; limited = lit≤ tt };
}

pub one_jump_is : IsImageText one_jump_text one_jump
one_jump_is = record { well_formed = well_formed; spelled = spelled }
