-- Where the machine has a place, some text of the grammar goes on; where it hasn't, none does.
use Rattle.std.proofs.Common.{◌≡◌, List, [], ◌∷◌, ◌++◌, Option, Some, None, refl, sym, ◌∙◌, ap}
use Rattle.std.specs.Option.{option_and_then}
use Rattle.std.proofs.lemmas.List.{append_assoc}
use Rattle.oat_grammar.specs.declared.token.Token.{Token}
use Rattle.oat_tree.specs.Syntax.{Item}
use Rattle.oat_grammar.specs.Grammar.{IsText}
use Rattle.oat_grammar.specs.Machine.{Place, between, next, goes}
use Rattle.oat_grammar.specs.Texts.{GoesOn}
use Rattle.oat_grammar.proofs.Ending.{can_end}
use Rattle.oat_grammar.proofs.ExprsSaid.{none_some, some_is}
use Rattle.oat_grammar.proofs.TextsRead.{text_read}
use Rattle.oat_grammar.proofs.TextsSaid.{is_text}

appended : (ts us : List Token) (q : Option Place) → ((p : Place) → goes (ts ++ us) p ≡ option_and_then (goes us) (goes ts p))
    → option_and_then (goes (ts ++ us)) q ≡ option_and_then (goes us) (option_and_then (goes ts) q)
appended ts us None h = refl
appended ts us (Some p) h = h p

-- tokens, and then others
pub goes_append : (ts us : List Token) (p : Place) → goes (ts ++ us) p ≡ option_and_then (goes us) (goes ts p)
goes_append [] us p = refl
goes_append (t ∷ ts) us p = appended ts us (next p t) (λ q. goes_append ts us q)

pub goes_to : (ts us : List Token) (p q : Place) → goes ts p ≡ Some q → goes (ts ++ us) p ≡ goes us q
goes_to ts us p q h = goes_append ts us p ∙ ap (λ (k : Option Place). option_and_then (goes us) k) h

-- the tokens that lead to a place begin a text
pub goes_on : (ts : List Token) (p : Place) → goes ts (between []) ≡ Some p → GoesOn ts
goes_on ts p h =
    let c = can_end p in
    record {
      rest = c.tokens;
      tree = c.items;
      whole = is_text (ts ++ c.tokens) c.items (goes_to ts c.tokens (between []) p h ∙ c.ends.goes_there);
      words = c.ends.words;
    }

-- where a token leads nowhere, no text goes on with it
pub goes_nowhere : (ts : List Token) (p : Place) (t : Token) → goes ts (between []) ≡ Some p → next p t ≡ None → GoesOn (ts ++ t ∷ []) → ⊥
goes_nowhere ts p t h n g =
    none_some (
    sym (ap (λ (k : Option Place). option_and_then (goes g.rest) k) n)
    ∙ sym (goes_to ts (t ∷ g.rest) (between []) p h)
    ∙ ap (λ (us : List Token). goes us (between [])) (sym (append_assoc ts (t ∷ []) g.rest))
    ∙ text_read g.whole)

-- the tokens up to a place inside an item are no text
pub no_text : (ts : List Token) (p : Place) → goes ts (between []) ≡ Some p → ((is : List Item) → p ≡ between is → ⊥) → (is : List Item) → IsText ts is → ⊥
no_text ts p h other is d = other is (some_is (sym h ∙ text_read d))
