-- What the machine does with a token that is none of those that it asks for.
use Rattle.std.proofs.Common.{◌≡◌, false, List, Option, Some, None, Result, Ok, Err, refl, sym, ◌∙◌, ap}
use Rattle.oat_grammar.specs.declared.token.Mark.TheVariants as mark
use Rattle.oat_grammar.specs.declared.token.Token.{Token}
use Rattle.oat_grammar.specs.declared.token.Token.TheVariants.{Named, Number, Fixed, Sign}
use Rattle.oat_tree.specs.Syntax.{Word, name, Item, Stmt, Expr, Body, choose, no_stmts}
use Rattle.oat_grammar.specs.Machine.{Pending, Use, Outer, is_fixed, operator_next, name_next, stmt_next, choice_next, stmt_begins, inside}
use Rattle.std.specs.Option.{option_map}
use Rattle.std.specs.Prelude.{◌++◌, ◌∷◌, [], IfOk}
use Rattle.oat_tree.specs.declared.stmt.Stmt as code
use Rattle.oat_tree.specs.Seen.{seen_stmt}
use Rattle.oat_grammar.specs.Machine.{Place}
use Rattle.oat_parse.specs.declared.place.Then.{Then}
use Rattle.oat_parse.specs.declared.place.Move.{Move}
use Rattle.oat_parse.specs.Moves.{after_stmt}
use Rattle.oat_parse.specs.SeenPlaces.{then_place, MovesAs, ThenAs}

pub name_plain : (is : List Item) (ss : List Stmt) (o : Outer) (x : Word) (u : Use) (p : Pending) (t : Token) → is_fixed mark.OpenSquare t ≡ false → is_fixed mark.OpenRound t ≡ false
    → operator_next is ss o (name x) u p t ≡ name_next is ss o x u p t
name_plain is ss o x u p (Fixed mark.OpenSquare) h i = cc
name_plain is ss o x u p (Fixed mark.OpenRound) h i = cc
name_plain is ss o x u p _ h i = refl

pub stmt_plain : (is : List Item) (ss : List Stmt) (o : Outer) (t : Token) → is_fixed mark.CloseBrace t ≡ false → stmt_next is ss o t ≡ option_map (inside is ss o) (stmt_begins t)
stmt_plain is ss o (Fixed mark.CloseBrace) h = cc
stmt_plain is ss o _ h = refl

pub choice_plain : (is : List Item) (ss : List Stmt) (o : Outer) (e : Expr) (a : Body) (t : Token) → is_fixed mark.Else t ≡ false → choice_next is ss o e a t ≡ stmt_next is (ss ++ choose e a no_stmts ∷ []) o t
choice_plain is ss o e a (Fixed mark.Else) h = cc
choice_plain is ss o e a _ h = refl

pub name_goes_on : {E : Type 0} (r : Result (Option Move) E) (x : Word) (u : Use) (p : Pending) (t : Token) → is_fixed mark.OpenSquare t ≡ false → is_fixed mark.OpenRound t ≡ false
    → IfOk r (λ m. MovesAs m (λ is ss o. operator_next is ss o (name x) u p t)) → IfOk r (λ m. MovesAs m (λ is ss o. name_next is ss o x u p t))
name_goes_on (Ok m) x u p t f g h = λ is ss o. h is ss o ∙ name_plain is ss o x u p t f g
name_goes_on (Err e) x u p t f g h = h

pub choice_goes_on : (a : Option Then) (s : code.Stmt) (e : Expr) (b : Body) (t : Token) → seen_stmt s ≡ choose e b no_stmts → is_fixed mark.Else t ≡ false → ThenAs a (λ is ss o. stmt_next is ss o t)
    → MovesAs (option_map (after_stmt s) a) (λ is ss o. choice_next is ss o e b t)
choice_goes_on None s e b t is_choice f h = λ is ss o. h is (ss ++ choose e b no_stmts ∷ []) o ∙ sym (choice_plain is ss o e b t f)
choice_goes_on (Some a) s e b t is_choice f h = λ is ss o.
    ap (λ (c : Stmt). Some (then_place is (ss ++ c ∷ []) o a)) is_choice
    ∙ h is (ss ++ choose e b no_stmts ∷ []) o ∙ sym (choice_plain is ss o e b t f)
