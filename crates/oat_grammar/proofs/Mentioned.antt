-- There are as many lines as mentions, where all words are tokens.
use Rattle.std.proofs.Common.{◌≡◌, ℕ, suc, Bool, true, false, List, [], ◌∷◌, map, length, Option, Some, None, refl, sym, ◌∙◌, ap}
use Rattle.std.specs.Prelude.{if◌then◌else◌}
use Rattle.oat_grammar.specs.declared.token.Token.{Token}
use Rattle.oat_grammar.specs.Spots.{Spot, spots}
use Rattle.oat_grammar.specs.Mentions.{is_mention, is_operation, mentions_from, lines_behind, operation_at, lines_from, mention_lines, mentions}
use Rattle.oat_grammar.specs.Texts.{token_of}

some_first : {x : Option Token} {t : Token} {xs ys : List (Option Token)} → x ∷ xs ≡ Some t ∷ ys → x ≡ Some t
some_first h = cc

some_others : {x : Option Token} {t : Token} {xs ys : List (Option Token)} → x ∷ xs ≡ Some t ∷ ys → xs ≡ ys
some_others h = cc

counted : (c : Bool) (line : ℕ) (t : Token) (xs : List ℕ) (ts : List Token) → length xs ≡ length ts → length (if c then line ∷ xs else xs) ≡ length (if c then t ∷ ts else ts)
counted true line t xs ts h = ap suc h
counted false line t xs ts h = h

pub lines_counted : (b : Bool) (ss : List Spot) (ts : List Token) → map token_of ss ≡ map Some ts → length (lines_from b ss) ≡ length (mentions_from b ts)
lines_counted b [] [] h = refl
lines_counted b [] (t ∷ ts) h = cc
lines_counted b (s ∷ ss) [] h = cc
lines_counted b (s ∷ ss) (t ∷ ts) h =
    rw (some_first h) (counted (is_mention b t) s.line t (lines_from (is_operation t) ss) (mentions_from (is_operation t) ts)
    (lines_counted (is_operation t) ss ts (some_others h)))
