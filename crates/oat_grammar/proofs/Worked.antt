-- Texts that are read by computing.
use Rattle.std.proofs.Common.{◌≡◌, ℕ, true, List, [], ◌∷◌, ◌++◌, refl, Some, None}
use Rattle.std.specs.Prelude.{codes, Ok, Err, is_ok, replicate}
use Rattle.oat_ir.specs.declared.func.Role.TheVariants.{Main}
use Rattle.oat_grammar.specs.declared.token.Mark.TheVariants as mark
use Rattle.oat_tree.specs.declared.operator.Operator.TheVariants.{Minus, Times, Plus, Less, Quotient, ShiftLeft, Equal, BitOr, BitXor, BitAnd}
use Rattle.oat_grammar.specs.declared.token.Token.TheVariants.{Named, Number, Fixed, Sign}
use Rattle.oat_tree.specs.Syntax.{Expr, number, name, negative, input, binary, put, no_stmts, stmt, Item, function}
use Rattle.oat_grammar.specs.Spots.{spot, spots}
use Rattle.oat_grammar.specs.FirstFaults.{FirstKind, is_number, is_deep, is_expected, FirstFault, first_reading}

-- ---- words

longest_signs : spots (codes "a<-b==0<<<c") ≡
    spot 1 (Some (Named (codes "a"))) ∷ spot 1 (Some (Sign Less)) ∷ spot 1 (Some (Sign Minus)) ∷ spot 1 (Some (Named (codes "b")))
    ∷ spot 1 (Some (Sign Equal)) ∷ spot 1 (Some (Number 0)) ∷ spot 1 (Some (Sign ShiftLeft)) ∷ spot 1 (Some (Sign Less)) ∷ spot 1 (Some (Named (codes "c"))) ∷ []
longest_signs = refl

comments_and_lines : spots (codes "a///b = 7\n in //\n 007 //") ≡ spot 1 (Some (Named (codes "a"))) ∷ spot 2 (Some (Fixed mark.In)) ∷ spot 3 (Some (Number 7)) ∷ []
comments_and_lines = refl

no_words : spots (codes "12ab ! é") ≡ spot 1 None ∷ spot 1 None ∷ spot 1 None ∷ []
no_words = refl

-- ---- texts

main_puts : Expr → Item
main_puts e = function (record { name = codes "main"; role = Main; params = []; body = stmt (put e) no_stmts })

to_the_left : first_reading (codes "main { out 1 - 2 - 3 * -4; }") ≡ Ok (main_puts (binary Minus (binary Minus (number 1) (number 2)) (binary Times (number 3) (negative (number 4)))) ∷ [])
unfolding main_puts
to_the_left = refl

seven_levels : first_reading (codes "main { out a<b|c^d&e<<f+g*h; }") ≡ Ok (main_puts (binary Less (name (codes "a")) (binary BitOr (name (codes "b")) (binary BitXor (name (codes "c"))
    (binary BitAnd (name (codes "d")) (binary ShiftLeft (name (codes "e")) (binary Plus (name (codes "f")) (binary Times (name (codes "g")) (name (codes "h"))))))))) ∷ [])
unfolding main_puts
seven_levels = refl

in_brackets : first_reading (codes "main { out (1 + in) / x; }") ≡ Ok (main_puts (binary Quotient (binary Plus (number 1) input) (name (codes "x"))) ∷ [])
unfolding main_puts
in_brackets = refl

fault : ℕ → FirstKind → FirstFault
fault n k = record { line = n; kind = k }

trailing_comma : first_reading (codes "main {\n f(1,);\n}") ≡ Err (fault 2 is_expected)
unfolding fault
trailing_comma = refl

fifth_parameter : first_reading (codes "fn f(a, b, c, d\n, e) { }") ≡ Err (fault 2 is_expected)
unfolding fault
fifth_parameter = refl

inside_item : first_reading (codes "global x = 1;\nmain {\n\n") ≡ Err (fault 2 is_expected)
unfolding fault
inside_item = refl

minus_of_an_item : first_reading (codes "global x = -9223372036854775808; global y = 9223372036854775808;") ≡ Err (fault 1 is_number)
unfolding fault
minus_of_an_item = refl

number_before_expected : first_reading (codes "main 9223372036854775808") ≡ Err (fault 1 is_number)
unfolding fault
number_before_expected = refl

no_number_there : first_reading (codes "main 9223372036854775807") ≡ Err (fault 1 is_expected)
unfolding fault
no_number_there = refl

abbrev round : ℕ → List ℕ
round n = replicate n 40

-- 63 brackets in a body of main, and one more
deepest : first_reading (codes "main { out " ++ round 63) ≡ Err (fault 1 is_expected)
unfolding fault
deepest = refl

too_deep : first_reading (codes "main { out " ++ round 64) ≡ Err (fault 1 is_deep)
unfolding fault
too_deep = refl

abbrev minuses : ℕ → List ℕ
minuses n = replicate n 45

-- 255 nodes in a statement, and one more
most_nodes : is_ok (first_reading (codes "main { out " ++ minuses 254 ++ codes "1; }")) ≡ true
most_nodes = refl

too_many_nodes : first_reading (codes "main { out " ++ minuses 255 ++ codes "1; }") ≡ Err (fault 1 is_deep)
unfolding fault
too_many_nodes = refl

scale_and_measure : is_ok (first_reading (codes "critical limit = 50; fn scale(v) { return v * 3; } operation 7 measure(n) { var i = 0; var t = 0; while i < n { var x = scale(in); if limit < x { x = limit; } out x; t = t + x; i = i + 1; } return t; } main { out measure(5); }")) ≡ true
scale_and_measure = refl

nothing : first_reading (codes "") ≡ Ok []
nothing = refl
