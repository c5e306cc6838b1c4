-- What each row of a part is like: it stays in its ranges, leads to places, and begins or ends an operation of the program.
use Rattle.std.proofs.Common.{◌≡◌, ℕ, ◌^◌, ◌<◌, ◌≤◌, List, [], ◌∷◌, refl, subst, Bool, true, false, arith}
use Rattle.std.specs.{Prelude.Contains, List.AllByRecursion}
use Rattle.std.proofs.lemmas.Bool.{false≢true}
use Rattle.oat_asm.specs.{code_base, Row, is_call, Items.address, Items.code_limit, declared.mark.Mark.TheVariants.Jump, declared.mark.Mark.TheVariants.Branch, declared.mark.Mark.TheVariants.Call}
use Rattle.oat_asm.specs.{declared.mark.Mark.TheVariants.ICall, declared.mark.Mark.TheVariants.Ret, declared.mark.Mark.TheVariants.Begin, declared.mark.Mark.TheVariants.End}
use Rattle.oat_asm.specs.{declared.mark.Mark.TheVariants.UseCell, declared.mark.Mark.TheVariants.DefCell, declared.mark.Mark.TheVariants.UseAt, declared.mark.Mark.TheVariants.DefAt, IsRow}
use Rattle.oat_asm.specs.{LeadsToPlaces}
use Rattle.oat_parts.specs.{Symbols.SymbolTable, Symbols.IsFunctionLabel, Symbols.IsBlockLabel, Symbols.operations_in, Parts.CodePart, Parts.simple, Parts.label, Parts.reference, Parts.mark}
use Rattle.oat_parts.specs.{Parts.check, Parts.IsCodePart, Parts.waits, Parts.begun_by}
use Rattle.oat_parts.proofs.{Lists.not_in_none, Lists.only_in, Views.label_at, Views.rows_in, Assembling.CellsFit}
use Rattle.oat_map.specs.declared.row.Row.TheVariants as rows

-- ---- a call waits for a word

abbrev pub calls : List Row → Bool
calls [] = false
calls (r ∷ rs) = is_call r

pub call_waits : (to : ℕ → ℕ) (here : ℕ) (p : CodePart) → calls (rows_in to here p) ≡ true → waits p ≡ true
call_waits to here (mark (Call l)) h = refl
call_waits to here (mark (ICall params)) h = refl
call_waits to here _ h = absurd (false≢true h)

-- ---- ranges

address_fits : (to : ℕ → ℕ) → ((l : ℕ) → to l ≤ code_limit) → (l : ℕ) → label_at to l < 2 ^ 32
address_fits to within l = let w = within l in omega arith

pub row_range : (t : SymbolTable) (to : ℕ → ℕ) (here : ℕ) (p : CodePart) → CellsFit t → IsCodePart t p → here ≤ code_limit → ((l : ℕ) → to l ≤ code_limit)
    → AllByRecursion IsRow (rows_in to here p)
row_range t to here (simple i) cells is near within = tt
row_range t to here (label l) cells is near within = tt
row_range t to here (reference register l) cells is near within = tt
row_range t to here (mark (Jump l)) cells is near within = ((omega arith, address_fits to within l), tt)
row_range t to here (mark (Branch taken other)) cells is near within = ((omega arith, address_fits to within taken, address_fits to within other), tt)
row_range t to here (mark (Call l)) cells is near within = ((omega arith, address_fits to within l), tt)
row_range t to here (mark (ICall params)) cells is near within = ((omega arith, is), tt)
row_range t to here (mark Ret) cells is near within = (omega arith, tt)
row_range t to here (mark (Begin op)) cells is near within = ((omega arith, is), tt)
row_range t to here (mark (End op)) cells is near within = ((omega arith, is.0), tt)
row_range t to here (mark (UseCell cell index)) cells is near within = ((omega arith, let fit = (cells cell index is).0 in omega arith), tt)
row_range t to here (mark (DefCell cell index)) cells is near within = ((omega arith, let fit = (cells cell index is).0 in omega arith), tt)
row_range t to here (mark (UseAt cell len index)) cells is near within = ((omega arith, let fit = (cells cell index is.0.first).0 in omega arith, is.1), tt)
row_range t to here (mark (DefAt cell len index)) cells is near within = ((omega arith, let fit = (cells cell index is.0.first).0 in omega arith, is.1), tt)
row_range t to here (check test number) cells is near within = (omega arith, tt)

-- ---- targets

pub row_leads : (t : SymbolTable) (to : ℕ → ℕ) (here : ℕ) (p : CodePart) (entries starts : List ℕ) → IsCodePart t p
    → ((l : ℕ) → IsFunctionLabel t l → Contains entries (label_at to l)) → ((l : ℕ) → IsBlockLabel t l → Contains starts (label_at to l))
    → AllByRecursion (LeadsToPlaces entries starts) (rows_in to here p)
row_leads t to here (simple i) entries starts is functions blocks = tt
row_leads t to here (label l) entries starts is functions blocks = tt
row_leads t to here (reference register l) entries starts is functions blocks = tt
row_leads t to here (mark (Jump l)) entries starts is functions blocks = (blocks l is, tt)
row_leads t to here (mark (Branch taken other)) entries starts is functions blocks = ((blocks taken is.0, blocks other is.1), tt)
row_leads t to here (mark (Call l)) entries starts is functions blocks = (functions l is, tt)
row_leads t to here _ entries starts is functions blocks = (tt, tt)

-- ---- operations

abbrev pub begun_by_row : Row → List ℕ
begun_by_row (rows.Begin at op) = op ∷ []
begun_by_row _ = []

abbrev pub begun_by_rows : List Row → List ℕ
begun_by_rows [] = []
begun_by_rows (r ∷ rs) = begun_by_row r

pub rows_begin : (to : ℕ → ℕ) (here : ℕ) (p : CodePart) → begun_by p ≡ begun_by_rows (rows_in to here p)
rows_begin to here (mark Ret) = refl
rows_begin to here _ = refl

begin_in : (to : ℕ → ℕ) (here op x : ℕ) → Contains (op ∷ []) x → Contains (rows_in to here (mark (Begin op))) (rows.Begin (address code_base here) x)
begin_in to here op x has =
    let same : op ≡ x = only_in op x has.0 has.1 has.2 in
    subst (λ o. Contains (rows_in to here (mark (Begin op))) (rows.Begin (address code_base here) o)) same (0, omega arith, refl)

-- a part that begins an operation has its row
pub begun_has_row : (to : ℕ → ℕ) (here : ℕ) (p : CodePart) (op : ℕ) → Contains (begun_by p) op → Contains (rows_in to here p) (rows.Begin (address code_base here) op)
begun_has_row to here (mark (Begin o)) op has = begin_in to here o op has
begun_has_row to here _ op has = absurd (not_in_none op has)

abbrev pub EndsOneOf : List ℕ → Row → Type 0
EndsOneOf operations (rows.End at op) = Contains operations op
EndsOneOf operations _ = Unit {0}

pub row_ends : (t : SymbolTable) (to : ℕ → ℕ) (here : ℕ) (p : CodePart) → IsCodePart t p → AllByRecursion (EndsOneOf (operations_in t.functions)) (rows_in to here p)
row_ends t to here (simple i) is = tt
row_ends t to here (label l) is = tt
row_ends t to here (reference register l) is = tt
row_ends t to here (mark (End op)) is = (is.1, tt)
row_ends t to here _ is = (tt, tt)
