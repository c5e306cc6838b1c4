-- An expression of the grammar is read: behind its tokens the machine is where it would be behind one operand of its value.
use Rattle.std.proofs.Common.{◌≡◌, ℕ, ◌+◌, ◌<◌, ◌≤◌, Bool, true, false, List, [], ◌∷◌, ◌++◌, length, refl, ◌∙◌, ap, arith, length-append}
use Rattle.oat_tree.specs.Levels.{level}
use Rattle.std.specs.Prelude.{nat_le, nat_lt}
use Rattle.std.proofs.lemmas.List.{append_assoc}
use Rattle.std.proofs.lemmas.Bool.{le-leb}
use Rattle.std.proofs.lemmas.Bool.Decides.{nat_tests}
use Rattle.oat_grammar.specs.declared.token.Mark.TheVariants as mark
use Rattle.oat_tree.specs.declared.operator.Operator.{Operator}
use Rattle.oat_grammar.specs.declared.token.Token.{Token}
use Rattle.oat_grammar.specs.declared.token.Token.TheVariants.{Fixed, Sign}
use Rattle.oat_tree.specs.Syntax.{Word, Expr, name, call, binary, Exprs, no_exprs, expr, Stmt, Item, exprs_of_list}
use Rattle.oat_grammar.specs.Grammar.{IsUnary, numbered, named, indexed, called, taken, negated, bracketed, IsJoined, alone, joined, IsArguments, none, some, IsListed, last, more}
use Rattle.oat_grammar.specs.Machine.{Pending, bottom, minus_before, left_of, in_brackets, index_of, argument_of, Use, Outer, at_operand, at_name, at_operator, Place, inside, Operand, settled, level_of, operator_next, name_next, closed_next, argument_next, goes}

-- a bracket, which goes on behind a name
abbrev pub is_opening : Token → Bool
is_opening (Fixed mark.OpenSquare) = true
is_opening (Fixed mark.OpenRound) = true
is_opening _ = false

-- nothing that is open binds an operand before an operator of the level does
abbrev pub IsOpen : ℕ → Pending → Type 0
IsOpen l (left_of o a p) = level o < l
IsOpen l (minus_before p) = ⊥
IsOpen l _ = Unit {0}

abbrev pub unbound : Expr → Pending → Operand
unbound e p = record { value = e; pending = p }

looser : (l k : ℕ) → k < l → nat_le l k ≡ false
looser l k h = grind (arith, nat_tests)

pub stops : (l : ℕ) (p : Pending) (e : Expr) → IsOpen l p → settled l p e ≡ unbound e p
stops l bottom e h = refl
stops l (minus_before p) e h = absurd h
stops l (left_of o a p) e h = rw (looser l (level o) h) refl
stops l (in_brackets p) e h = refl
stops l (index_of x p) e h = refl
stops l (argument_of f es p) e h = refl

opens_more : (l m : ℕ) (p : Pending) → l ≤ m → IsOpen l p → IsOpen m p
opens_more l m bottom le h = tt
opens_more l m (minus_before p) le h = absurd h
opens_more l m (left_of o a p) le h = omega arith
opens_more l m (in_brackets p) le h = tt
opens_more l m (index_of x p) le h = tt
opens_more l m (argument_of f es p) le h = tt

-- behind a name that no bracket follows
name_plain : (is : List Item) (ss : List Stmt) (o : Outer) (x : Word) (u : Use) (p : Pending) (t : Token) → is_opening t ≡ false → name_next is ss o x u p t ≡ operator_next is ss o (name x) u p t
name_plain is ss o x u p (Fixed mark.OpenSquare) h = cc
name_plain is ss o x u p (Fixed mark.OpenRound) h = cc
name_plain is ss o x u p _ h = refl

behind_name : (is : List Item) (ss : List Stmt) (o : Outer) (x : Word) (u : Use) (p : Pending) (t : Token) (rest : List Token) → is_opening t ≡ false
    → goes (t ∷ rest) (inside is ss o (at_name x u p)) ≡ goes (t ∷ rest) (inside is ss o (at_operator (name x) u p))
behind_name is ss o x u p t rest h = rw (name_plain is ss o x u p t h) refl

-- ---- lists of arguments

-- arguments, and those behind them
abbrev pub with_more : List Expr → Exprs → Exprs
with_more [] es = es
with_more (e ∷ before) es = expr e (with_more before es)

pub one_more : (before : List Expr) (e : Expr) (es : Exprs) → with_more (before ++ e ∷ []) es ≡ with_more before (expr e es)
one_more [] e es = refl
one_more (d ∷ before) e es = ap (expr d) (one_more before e es)

pub exprs_of_more : (before : List Expr) (e : Expr) → exprs_of_list (before ++ e ∷ []) ≡ with_more before (expr e no_exprs)
exprs_of_more [] e = refl
exprs_of_more (d ∷ before) e = ap (expr d) (exprs_of_more before e)

-- A place where arguments are listed: where it is behind so many of them, and where it goes.
pub record Listing : Type 0 where
  pub items : List Item
  pub before : List Stmt
  pub outer : Outer
  pub use_at : List Expr → Use
  pub pending_at : List Expr → Pending
  pub end_at : Exprs → Place

pub record IsListing (w : Listing) : Type 0 where
  pub opened : (es : List Expr) → IsOpen 0 (w.pending_at es)
  pub goes_on : (es : List Expr) (e : Expr) (t : Token) → closed_next w.items w.before w.outer (w.use_at es) (w.pending_at es) e t
      ≡ argument_next es (λ fs. inside w.items w.before w.outer (at_operand (w.use_at fs) (w.pending_at fs))) (λ fs. w.end_at (exprs_of_list fs)) e t

abbrev pub listing_place : Listing → List Expr → Place
listing_place w es = inside w.items w.before w.outer (at_operand (w.use_at es) (w.pending_at es))

abbrev pub calling : List Item → List Stmt → Outer → Use → Pending → Word → Listing
calling is ss o u p f = record { items = is; before = ss; outer = o; use_at = λ es. u; pending_at = λ es. argument_of f es p; end_at = λ es. inside is ss o (at_operator (call f es) u p) }

is_calling : (is : List Item) (ss : List Stmt) (o : Outer) (u : Use) (p : Pending) (f : Word) → IsListing (calling is ss o u p f)
is_calling is ss o u p f = record { opened = λ es. tt; goes_on = λ es e t. refl }

pub regroup : (ts us vs : List Token) (p : Place) → goes (ts ++ us ++ vs) p ≡ goes (ts ++ (us ++ vs)) p
regroup ts us vs p = ap (λ xs. goes xs p) (append_assoc ts us vs)

few : (n : ℕ) → n < 3 → nat_lt n 3 ≡ true
few n h = grind (arith, nat_tests)

-- behind an argument with a comma
comma : (w : Listing) → IsListing w → (before : List Expr) (e : Expr) (rest : List Token) → length before < 3
    → goes (Fixed mark.Comma ∷ rest) (inside w.items w.before w.outer (at_operator e (w.use_at before) (w.pending_at before)))
    ≡ goes rest (listing_place w (before ++ e ∷ []))
comma w is_w before e rest h = rw (stops 0 (w.pending_at before) e (is_w.opened before), is_w.goes_on before e (Fixed mark.Comma), few (length before) h) refl

closes_list : (w : Listing) → IsListing w → (before : List Expr) (e : Expr) (rest : List Token)
    → goes (Fixed mark.CloseRound ∷ rest) (inside w.items w.before w.outer (at_operator e (w.use_at before) (w.pending_at before)))
    ≡ goes rest (w.end_at (with_more before (expr e no_exprs)))
closes_list w is_w before e rest = rw (stops 0 (w.pending_at before) e (is_w.opened before), is_w.goes_on before e (Fixed mark.CloseRound), exprs_of_more before e) refl

joining : (is : List Item) (ss : List Stmt) (o : Outer) (u : Use) (p : Pending) (op : Operator) (a : Expr) (rest : List Token) → IsOpen (level op) p
    → goes (Sign op ∷ rest) (inside is ss o (at_operator a u p)) ≡ goes rest (inside is ss o (at_operand u (left_of op a p)))
joining is ss o u p op a rest h = rw (stops (level op) p a h) refl

-- an operand on the right of an operator that binds it
bound : (is : List Item) (ss : List Stmt) (o : Outer) (u : Use) (p : Pending) (op : Operator) (a b : Expr) (t : Token) (rest : List Token) → level_of t ≤ level op
    → goes (t ∷ rest) (inside is ss o (at_operator b u (left_of op a p))) ≡ goes (t ∷ rest) (inside is ss o (at_operator (binary op a b) u p))
bound is ss o u p op a b t rest h = rw (le-leb (level_of t) (level op) h) refl

lists_some : {n : ℕ} {ts : List Token} {es : Exprs} → IsListed n ts es → 0 < n
lists_some (last d) = omega arith
lists_some (more d ds) = omega arith

counts : (before : List Expr) (e : Expr) → length (before ++ e ∷ []) ≡ length before + 1
counts before e = length-append before (e ∷ [])

mutual
  pub unary : {ts : List Token} {e : Expr} → IsUnary ts e → (is : List Item) (ss : List Stmt) (o : Outer) (u : Use) (p : Pending) (t : Token) (rest : List Token) → is_opening t ≡ false
      → goes (ts ++ t ∷ rest) (inside is ss o (at_operand u p)) ≡ goes (t ∷ rest) (inside is ss o (at_operator e u p))
  unary (numbered n) is ss o u p t rest h = refl
  unary (named x) is ss o u p t rest h = behind_name is ss o x u p t rest h
  unary (indexed x {ts} {e} d) is ss o u p t rest h =
      regroup ts (Fixed mark.CloseSquare ∷ []) (t ∷ rest) (inside is ss o (at_operand u (index_of x p)))
      ∙ joins d is ss o u (index_of x p) (Fixed mark.CloseSquare) (t ∷ rest) tt refl (omega arith)
  unary (called f {ts} {es} d) is ss o u p t rest h =
      regroup ts (Fixed mark.CloseRound ∷ []) (t ∷ rest) (inside is ss o (at_operand u (argument_of f [] p)))
      ∙ arguments d is ss o u p f (t ∷ rest)
  unary taken is ss o u p t rest h = refl
  unary (negated {ts} {e} d) is ss o u p t rest h = unary d is ss o u (minus_before p) t rest h
  unary (bracketed {ts} {e} d) is ss o u p t rest h =
      regroup ts (Fixed mark.CloseRound ∷ []) (t ∷ rest) (inside is ss o (at_operand u (in_brackets p)))
      ∙ joins d is ss o u (in_brackets p) (Fixed mark.CloseRound) (t ∷ rest) tt refl (omega arith)

  pub joins : {l : ℕ} {ts : List Token} {e : Expr} → IsJoined l ts e → (is : List Item) (ss : List Stmt) (o : Outer) (u : Use) (p : Pending) (t : Token) (rest : List Token) → IsOpen l p → is_opening t ≡ false → level_of t ≤ l
      → goes (ts ++ t ∷ rest) (inside is ss o (at_operand u p)) ≡ goes (t ∷ rest) (inside is ss o (at_operator e u p))
  joins (alone d) is ss o u p t rest i h le = unary d is ss o u p t rest h
  joins (joined {l} op {us} {a} {vs} {b} up da db) is ss o u p t rest i h le =
      regroup us (Sign op ∷ vs) (t ∷ rest) (inside is ss o (at_operand u p))
      ∙ joins da is ss o u p (Sign op) (vs ++ t ∷ rest) (opens_more l (level op) p up i) refl (omega arith)
      ∙ joining is ss o u p op a (vs ++ t ∷ rest) (opens_more l (level op) p up i)
      ∙ joins db is ss o u (left_of op a p) t rest (omega arith) h (omega arith)
      ∙ bound is ss o u p op a b t rest (omega arith)

  pub arguments : {ts : List Token} {es : Exprs} → IsArguments ts es → (is : List Item) (ss : List Stmt) (o : Outer) (u : Use) (p : Pending) (f : Word) (rest : List Token)
      → goes (ts ++ Fixed mark.CloseRound ∷ rest) (inside is ss o (at_operand u (argument_of f [] p))) ≡ goes rest (inside is ss o (at_operator (call f es) u p))
  arguments none is ss o u p f rest = refl
  arguments (some d) is ss o u p f rest = listed d (calling is ss o u p f) (is_calling is ss o u p f) [] rest (omega arith)

  pub listed : {n : ℕ} {ts : List Token} {es : Exprs} → IsListed n ts es → (w : Listing) → IsListing w → (before : List Expr) (rest : List Token) → length before + n ≤ 4
      → goes (ts ++ Fixed mark.CloseRound ∷ rest) (listing_place w before) ≡ goes rest (w.end_at (with_more before es))
  listed (last {n} {ts} {e} d) w is_w before rest le =
      joins d w.items w.before w.outer (w.use_at before) (w.pending_at before) (Fixed mark.CloseRound) rest (is_w.opened before) refl (omega arith)
      ∙ closes_list w is_w before e rest
  listed (more {n} {us} {e} {vs} {es} d ds) w is_w before rest le =
      regroup us (Fixed mark.Comma ∷ vs) (Fixed mark.CloseRound ∷ rest) (listing_place w before)
      ∙ joins d w.items w.before w.outer (w.use_at before) (w.pending_at before) (Fixed mark.Comma) (vs ++ Fixed mark.CloseRound ∷ rest) (is_w.opened before) refl (omega arith)
      ∙ comma w is_w before e (vs ++ Fixed mark.CloseRound ∷ rest) (omega (arith, lists_some ds))
      ∙ listed ds w is_w (before ++ e ∷ []) rest (omega (arith, counts before e))
      ∙ ap (λ (x : Exprs). goes rest (w.end_at x)) (one_more before e es)
