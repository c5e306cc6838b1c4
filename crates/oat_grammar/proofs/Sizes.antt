-- A tree has at most as many items, parameters, bodies, statements and nodes as its text has tokens, and these are at most as many as its bytes.
use Rattle.std.proofs.Common.{◌≡◌, ℕ, ◌+◌, ◌<◌, ◌≤◌, true, List, [], ◌∷◌, ◌++◌, map, length, length-append, Option, Some, Ok, sym, ap, ◌∙◌, arith}
use Rattle.oat_tree.specs.Sizes.{expr_size, exprs_size, stmt_parts, stmts_parts, else_parts, body_parts, function_size, tree_size}
use Rattle.oat_tree.specs.Scopes.{functions_of}
use Rattle.std.proofs.lemmas.List.{length-map}
use Rattle.std.proofs.lemmas.List.Sums.{sum_by-cons}
use Rattle.oat_grammar.specs.declared.token.Mark.TheVariants as mark
use Rattle.oat_grammar.specs.declared.token.Token.{Token}
use Rattle.oat_grammar.specs.declared.token.Token.TheVariants.{Fixed, Sign}
use Rattle.oat_tree.specs.Syntax.{Word, Expr, Exprs, Stmt, Body, no_stmts, stmt, Item, global, function}
use Rattle.oat_grammar.specs.Grammar.{IsUnary, numbered, named, indexed, called, taken, negated, bracketed, IsJoined, alone, joined, IsArguments, none, some, IsListed, last, more, IsStmt, declares, assigns, stores, chooses, chooses_else, repeats, puts, returns, halts, calls, IsStmts, empty, first, IsBody, braced, names, names_behind, IsItem, scalar, array, critical_array, plain_function, operation, main, IsText, nothing, next}
use Rattle.oat_grammar.specs.Spots.{Spot, has_bytes, IsSpotted, ends, separates, breaks, comments, spells, pairs, signs, spots}
use Rattle.oat_grammar.specs.Texts.{token_of}
use Rattle.oat_grammar.specs.FirstFaults.{first_reading}
use Rattle.oat_grammar.proofs.Spotted.{is_spotted}
use Rattle.oat_grammar.proofs.FirstRead.{is_read}

mutual
  pub unary_size : {ts : List Token} {e : Expr} → IsUnary ts e → expr_size e ≤ length ts
  unary_size (numbered n) = omega arith
  unary_size (named x) = omega arith
  unary_size (indexed x {ts} d) = omega (arith, joined_size d, length-append ts (Fixed mark.CloseSquare ∷ []))
  unary_size (called f {ts} d) = omega (arith, arguments_size d, length-append ts (Fixed mark.CloseRound ∷ []))
  unary_size taken = omega arith
  unary_size (negated d) = omega (arith, unary_size d)
  unary_size (bracketed {ts} d) = omega (arith, joined_size d, length-append ts (Fixed mark.CloseRound ∷ []))

  pub joined_size : {k : ℕ} {ts : List Token} {e : Expr} → IsJoined k ts e → expr_size e ≤ length ts
  joined_size (alone d) = unary_size d
  joined_size (joined op {us} {a} {vs} {b} up da db) = omega (arith, joined_size da, joined_size db, length-append us (Sign op ∷ vs))

  pub arguments_size : {ts : List Token} {es : Exprs} → IsArguments ts es → exprs_size es ≤ length ts
  arguments_size none = omega arith
  arguments_size (some d) = listed_size d

  pub listed_size : {k : ℕ} {ts : List Token} {es : Exprs} → IsListed k ts es → exprs_size es ≤ length ts
  listed_size (last d) = omega (arith, joined_size d)
  listed_size (more {us} {e} {vs} d ds) = omega (arith, joined_size d, listed_size ds, length-append us (Fixed mark.Comma ∷ vs))

else_few : (b : Body) → else_parts b ≤ 1 + stmts_parts b
else_few no_stmts = omega arith
else_few (stmt s b) = omega arith

mutual
  pub stmt_sized : {ts : List Token} {s : Stmt} → IsStmt ts s → stmt_parts s ≤ length ts
  stmt_sized (declares x {ts} d) = omega (arith, joined_size d, length-append ts (Fixed mark.Semicolon ∷ []))
  stmt_sized (assigns x {ts} d) = omega (arith, joined_size d, length-append ts (Fixed mark.Semicolon ∷ []))
  stmt_sized (stores x {us} {e} {vs} d c) = omega (arith, joined_size d, joined_size c, length-append us (Fixed mark.CloseSquare ∷ Fixed mark.Assign ∷ vs), length-append (us ++ Fixed mark.CloseSquare ∷ Fixed mark.Assign ∷ vs) (Fixed mark.Semicolon ∷ []))
  stmt_sized (chooses {ts} d (braced {ts = ws} ds)) = omega (arith, joined_size d, stmts_sized ds, length-append ts (Fixed mark.OpenBrace ∷ ws ++ Fixed mark.CloseBrace ∷ []), length-append ws (Fixed mark.CloseBrace ∷ []))
  stmt_sized (chooses_else {ts} d (braced {ts = ws} ds) (braced {ts = xs} {b = b} fs)) = omega (
    arith,
    else_few b,
    joined_size d,
    stmts_sized ds,
    stmts_sized fs,
    length-append ts (Fixed mark.OpenBrace ∷ ws ++ Fixed mark.CloseBrace ∷ []),
    length-append ws (Fixed mark.CloseBrace ∷ []),
    length-append (ts ++ (Fixed mark.OpenBrace ∷ ws ++ Fixed mark.CloseBrace ∷ [])) (Fixed mark.Else ∷ Fixed mark.OpenBrace ∷ xs ++ Fixed mark.CloseBrace ∷ []),
    length-append xs (Fixed mark.CloseBrace ∷ []),
  )
  stmt_sized (repeats {ts} d (braced {ts = ws} ds)) = omega (arith, joined_size d, stmts_sized ds, length-append ts (Fixed mark.OpenBrace ∷ ws ++ Fixed mark.CloseBrace ∷ []), length-append ws (Fixed mark.CloseBrace ∷ []))
  stmt_sized (puts {ts} d) = omega (arith, joined_size d, length-append ts (Fixed mark.Semicolon ∷ []))
  stmt_sized (returns {ts} d) = omega (arith, joined_size d, length-append ts (Fixed mark.Semicolon ∷ []))
  stmt_sized halts = omega arith
  stmt_sized (calls f {ts} d) = omega (arith, arguments_size d, length-append ts (Fixed mark.CloseRound ∷ Fixed mark.Semicolon ∷ []))

  pub stmts_sized : {ts : List Token} {b : Body} → IsStmts ts b → stmts_parts b ≤ length ts
  stmts_sized empty = omega arith
  stmts_sized (first {us} {s} {vs} {b} d ds) = omega (arith, stmt_sized d, stmts_sized ds, length-append us vs)

body_sized : {ts : List Token} {b : Body} → IsBody ts b → body_parts b + 1 ≤ length ts
body_sized (braced {ts} ds) = omega (arith, stmts_sized ds, length-append ts (Fixed mark.CloseBrace ∷ []))

names_behind_sized : (xs : List Word) → length xs ≤ length (names_behind xs)
names_behind_sized [] = omega arith
names_behind_sized (x ∷ xs) = omega (arith, names_behind_sized xs)

names_sized : (xs : List Word) → length xs ≤ length (names xs)
names_sized [] = omega arith
names_sized (x ∷ xs) = omega (arith, names_behind_sized xs)

-- an item, and what it has
abbrev item_size : Item → ℕ
item_size (global g) = 1
item_size (function f) = 1 + function_size f

item_sized : {ts : List Token} {i : Item} → IsItem ts i → item_size i ≤ length ts
item_sized (scalar c x d) = omega arith
item_sized (array x n) = omega arith
item_sized (critical_array x n) = omega arith
item_sized (plain_function x xs {ts} few d) = omega (arith, body_sized d, names_sized xs, length-append (names xs) (Fixed mark.CloseRound ∷ ts))
item_sized (operation n x xs {ts} few d) = omega (arith, body_sized d, names_sized xs, length-append (names xs) (Fixed mark.CloseRound ∷ ts))
item_sized (main d) = omega (arith, body_sized d)

one_more : (i : Item) (is : List Item) → tree_size (i ∷ is) ≡ item_size i + tree_size is
one_more (global g) is = omega arith
one_more (function f) is = omega (arith, sum_by-cons function_size f (functions_of is))

pub text_sized : {ts : List Token} {is : List Item} → IsText ts is → tree_size is ≤ length ts
text_sized nothing = omega arith
text_sized (next {us} {i} {vs} {is} d ds) = omega (arith, one_more i is, item_sized d, text_sized ds, length-append us vs)

-- ---- words of bytes

some_bytes : (w : List ℕ) → has_bytes w ≡ true → 0 < length w
some_bytes [] h = cc
some_bytes (b ∷ w) h = omega arith

spots_few : {line : ℕ} {bs : List ℕ} {ss : List Spot} → IsSpotted line bs ss → length ss ≤ length bs
spots_few ends = omega arith
spots_few (separates b e d) = omega (arith, spots_few d)
spots_few (breaks b e d) = omega (arith, spots_few d)
spots_few (comments cs {bs} h i d) = omega (arith, spots_few d, length-append cs bs)
spots_few (spells w {bs} h i j d) = omega (arith, spots_few d, some_bytes w h, length-append w bs)
spots_few (pairs a b t e h d) = omega (arith, spots_few d)
spots_few (signs a e h d) = omega (arith, spots_few d)

as_many : (ss : List Spot) (ts : List Token) → map token_of ss ≡ map Some ts → length ss ≡ length ts
as_many ss ts h = sym (length-map ss token_of) ∙ ap length h ∙ length-map ts Some

pub read_sized : (text : List ℕ) (items : List Item) → first_reading text ≡ Ok items → tree_size items ≤ length text
read_sized text items h =
    let d = is_read text items h in
    omega (arith, text_sized d.whole, as_many (spots text) d.tokens d.spelled, spots_few (is_spotted text))
