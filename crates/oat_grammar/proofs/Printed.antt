-- What is printed of a tree is a text of it.
use Rattle.std.proofs.Common.{◌≡◌, ℕ, zero, suc, ◌+◌, ◌≤◌, Bool, true, false, List, [], ◌∷◌, ◌++◌, refl, sym, ap, subst, arith}
use Rattle.oat_tree.specs.Levels.{level}
use Rattle.std.specs.Prelude.{nat_le, ℤ, pos, negsuc, ◌-ℤ◌}
use Rattle.std.proofs.lemmas.Bool.{leb-true, le-leb}
use Rattle.std.proofs.lemmas.List.{append-nil}
use Rattle.oat_grammar.specs.declared.token.Mark.TheVariants as mark
use Rattle.oat_tree.specs.declared.operator.Operator.{Operator}
use Rattle.oat_grammar.specs.declared.token.Token.{Token}
use Rattle.oat_tree.specs.declared.operator.Operator.TheVariants.{Minus}
use Rattle.oat_grammar.specs.declared.token.Token.TheVariants.{Number, Fixed, Sign}
use Rattle.oat_tree.specs.Syntax.{Expr, number, name, element, call, input, negative, binary, Exprs, no_exprs, expr, Stmt, declare, assign, assign_element, choose, repeat, put, return, halt, call_only, Body, no_stmts, stmt, Item}
use Rattle.oat_grammar.specs.Grammar.{numbered, named, indexed, called, taken, negated, bracketed, IsUnary, IsJoined, alone, joined, IsArguments, none, some, IsListed, last, more, IsStmt, declares, assigns, stores, chooses, chooses_else, repeats, puts, returns, halts, calls, IsStmts, empty, first, IsBody, braced, IsStart, plain, minus, IsItem, scalar, array, critical_array, plain_function, operation, main, IsText, nothing, next}
use Rattle.oat_tree.specs.Sizes.{exprs_count}
use Rattle.oat_grammar.specs.Printing.{bracketed_if, expr_tokens, exprs_tokens, others_tokens, stmt_tokens, stmts_tokens, braced_tokens, start_tokens, item_tokens, text_tokens}
use Rattle.oat_grammar.proofs.ExprsSaid.{unary_of}

-- no call has more than four arguments
abbrev mutual
  pub HasFew : Expr → Type 0
  HasFew (number n) = Unit {0}
  HasFew (name x) = Unit {0}
  HasFew (element x e) = HasFew e
  HasFew (call f es) = (exprs_count es ≤ 4) × HaveFew es
  HasFew input = Unit {0}
  HasFew (negative e) = HasFew e
  HasFew (binary o a b) = HasFew a × HasFew b

  pub HaveFew : Exprs → Type 0
  HaveFew no_exprs = Unit {0}
  HaveFew (expr e es) = HasFew e × HaveFew es

binary_printed : (fits : Bool) (o : Operator) (l : ℕ) {us vs : List Token} {a b : Expr} → nat_le l (level o) ≡ fits → IsJoined (level o) us a → IsJoined (suc (level o)) vs b
    → IsJoined l (bracketed_if fits (us ++ Sign o ∷ vs)) (binary o a b)
binary_printed true o l h d e = joined o (leb-true l (level o) h) d e
binary_printed false o l h d e = alone (bracketed (joined o (omega arith) d e))

mutual
  pub printed : (e : Expr) (l : ℕ) → HasFew e → IsJoined l (expr_tokens e l) e
  printed (number n) l h = alone (numbered n)
  printed (name x) l h = alone (named x)
  printed (element x e) l h = alone (indexed x (printed e 0 h))
  printed (call f no_exprs) l h = alone (called f none)
  printed (call f (expr e es)) l h = alone (called f (some (listed_printed e es 4 (printed e 0 h.1.0) h.0 h.1.1)))
  printed input l h = alone taken
  printed (negative e) l h = alone (negated (unary_of (printed e 7 h) (omega arith)))
  printed (binary o a b) l h = binary_printed (nat_le l (level o)) o l refl (printed a (level o) h.0) (printed b (suc (level o)) h.1)

  listed_printed : (e : Expr) (es : Exprs) (n : ℕ) → IsJoined 0 (expr_tokens e 0) e → suc (exprs_count es) ≤ n → HaveFew es → IsListed n (expr_tokens e 0 ++ others_tokens es) (expr e es)
  listed_printed e es zero d few h = absurd (omega arith)
  listed_printed e no_exprs (suc n) d few h = subst (λ (ts : List Token). IsListed (suc n) ts (expr e no_exprs)) (sym (append-nil (expr_tokens e 0))) (last d)
  listed_printed e (expr f es) (suc n) d few h = more d (listed_printed f es n (printed f 0 h.0) (omega arith) h.1)

arguments_printed : (es : Exprs) → exprs_count es ≤ 4 → HaveFew es → IsArguments (exprs_tokens es) es
arguments_printed no_exprs few h = none
arguments_printed (expr e es) few h = some (listed_printed e es 4 (printed e 0 h.0) few h.1)

abbrev mutual
  pub StmtHasFew : Stmt → Type 0
  StmtHasFew (declare x e) = HasFew e
  StmtHasFew (assign x e) = HasFew e
  StmtHasFew (assign_element x e f) = HasFew e × HasFew f
  StmtHasFew (choose e a b) = HasFew e × StmtsHaveFew a × StmtsHaveFew b
  StmtHasFew (repeat e a) = HasFew e × StmtsHaveFew a
  StmtHasFew (put e) = HasFew e
  StmtHasFew (return e) = HasFew e
  StmtHasFew halt = Unit {0}
  StmtHasFew (call_only f es) = (exprs_count es ≤ 4) × HaveFew es

  pub StmtsHaveFew : Body → Type 0
  StmtsHaveFew no_stmts = Unit {0}
  StmtsHaveFew (stmt s b) = StmtHasFew s × StmtsHaveFew b

mutual
  pub stmt_printed : (s : Stmt) → StmtHasFew s → IsStmt (stmt_tokens s) s
  stmt_printed (declare x e) h = declares x (printed e 0 h)
  stmt_printed (assign x e) h = assigns x (printed e 0 h)
  stmt_printed (assign_element x e f) h = stores x (printed e 0 h.0) (printed f 0 h.1)
  stmt_printed (choose e a no_stmts) h =
      subst (λ (ts : List Token). IsStmt ts (choose e a no_stmts)) (sym (append-nil (Fixed mark.If ∷ expr_tokens e 0 ++ (Fixed mark.OpenBrace ∷ stmts_tokens a ++ Fixed mark.CloseBrace ∷ []))))
      (chooses (printed e 0 h.0) (braced (stmts_printed a h.1)))
  stmt_printed (choose e a (stmt s b)) h = chooses_else (printed e 0 h.0) (braced (stmts_printed a h.1)) (braced (first (stmt_printed s h.2.0) (stmts_printed b h.2.1)))
  stmt_printed (repeat e a) h = repeats (printed e 0 h.0) (braced (stmts_printed a h.1))
  stmt_printed (put e) h = puts (printed e 0 h)
  stmt_printed (return e) h = returns (printed e 0 h)
  stmt_printed halt h = halts
  stmt_printed (call_only f es) h = calls f (arguments_printed es h.0 h.1)

  pub stmts_printed : (b : Body) → StmtsHaveFew b → IsStmts (stmts_tokens b) b
  stmts_printed no_stmts h = empty
  stmts_printed (stmt s b) h = first (stmt_printed s h.0) (stmts_printed b h.1)

-- ---- in what was read, no call has more than four arguments

mutual
  unary_few : {ts : List Token} {e : Expr} → IsUnary ts e → HasFew e
  unary_few (numbered n) = tt
  unary_few (named x) = tt
  unary_few (indexed x d) = joined_few d
  unary_few (called f d) = arguments_few d
  unary_few taken = tt
  unary_few (negated d) = unary_few d
  unary_few (bracketed d) = joined_few d

  joined_few : {l : ℕ} {ts : List Token} {e : Expr} → IsJoined l ts e → HasFew e
  joined_few (alone d) = unary_few d
  joined_few (joined o up da db) = (joined_few da, joined_few db)

  arguments_few : {ts : List Token} {es : Exprs} → IsArguments ts es → (exprs_count es ≤ 4) × HaveFew es
  arguments_few none = (omega arith, tt)
  arguments_few (some d) = listed_few d

  listed_few : {n : ℕ} {ts : List Token} {es : Exprs} → IsListed n ts es → (exprs_count es ≤ n) × HaveFew es
  listed_few (last d) = (omega arith, (joined_few d, tt))
  listed_few (more d ds) =
      let others = listed_few ds in
      (omega (arith, others.0), (joined_few d, others.1))

mutual
  stmt_few : {ts : List Token} {s : Stmt} → IsStmt ts s → StmtHasFew s
  stmt_few (declares x d) = joined_few d
  stmt_few (assigns x d) = joined_few d
  stmt_few (stores x d e) = (joined_few d, joined_few e)
  stmt_few (chooses d (braced a)) = (joined_few d, stmts_few a, tt)
  stmt_few (chooses_else d (braced a) (braced b)) = (joined_few d, stmts_few a, stmts_few b)
  stmt_few (repeats d (braced a)) = (joined_few d, stmts_few a)
  stmt_few (puts d) = joined_few d
  stmt_few (returns d) = joined_few d
  stmt_few halts = tt
  stmt_few (calls f d) = arguments_few d

  stmts_few : {ts : List Token} {b : Body} → IsStmts ts b → StmtsHaveFew b
  stmts_few empty = tt
  stmts_few (first d ds) = (stmt_few d, stmts_few ds)

-- ---- items

body_printed : {ts : List Token} {b : Body} → IsBody ts b → IsBody (braced_tokens b) b
body_printed (braced {b = b} ds) = braced (stmts_printed b (stmts_few ds))

pub below_zero : (n : ℕ) → pos 0 -ℤ pos (suc n) ≡ negsuc n
below_zero n = rw (le-leb 1 (suc n) (omega arith)) (ap negsuc (omega arith))

start_printed : {ts : List Token} {value : ℤ} → IsStart ts value → IsStart (start_tokens value) value
start_printed (plain n) = plain n
start_printed (minus zero) = plain 0
start_printed (minus (suc n)) =
    subst (λ (z : ℤ). IsStart (start_tokens z) z) (sym (below_zero n)) (subst (λ (z : ℤ). IsStart (Sign Minus ∷ Number (suc n) ∷ []) z) (below_zero n) (minus (suc n)))

item_printed : {ts : List Token} {i : Item} → IsItem ts i → IsItem (item_tokens i) i
item_printed (scalar c x d) = scalar c x (start_printed d)
item_printed (array x n) = array x n
item_printed (critical_array x n) = critical_array x n
item_printed (plain_function x xs le d) = plain_function x xs le (body_printed d)
item_printed (operation n x xs le d) = operation n x xs le (body_printed d)
item_printed (main d) = main (body_printed d)

pub text_printed : {ts : List Token} {is : List Item} → IsText ts is → IsText (text_tokens is) is
text_printed nothing = nothing
text_printed (next d ds) = next (item_printed d) (text_printed ds)
