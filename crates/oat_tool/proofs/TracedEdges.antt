-- The path that a run takes in a window has edges of the image's map alone: those of rows, ends of the operation, and strays.
use Rattle.std.proofs.Common.{◌≡◌, ◌∙◌, ◌+◌, ◌<◌, ◌≤◌, ℕ, suc, Bool, true, false, not, ◌&&◌, ◌||◌, eqb, List, [], ◌∷◌, Option, Some, None, refl, sym, ap, subst, arith}
use Rattle.std.specs.{Prelude.Contains, Prelude.IsTrue, Prelude.if◌then◌else◌, Prelude.nat_eq, Prelude.slice_get, List.All, List.AllByRecursion, List.cons_option, List.list_any}
use Rattle.std.proofs.lemmas.{Bool.and_parts, Bool.eqb-true, Bool.false≢true, List.Elements.All-from_recursion}
use Rattle.oat_lines.proofs.Steps.{some_is}
use Rattle.oat_room_attest.specs.{Inst, B, Bl, is_transfer, Regs, act, branch_target, instruction_at, Image, Edge, Function, Row, after, is_call, is_called_at, is_returned_to, row_over}
use Rattle.oat_room_attest.specs.{IsIndirectTarget, IsOperation, IsMade, IsEntryBounded, takes_input, Entry, pc_of, next_of, edge_over, executed_path, made_call, seals_window, shown_edge, IsEdgeOf}
use Rattle.oat_room_attest.specs.{Stands, IsLaid, Covers, IsReturnSite}
use Rattle.oat_room_attest.specs.edges as edges
use Rattle.oat_room_attest.specs.rows as rows

-- an element passes a test that some element passes
any_found : {X : Type 0} (test : X → Bool) (xs : List X) → list_any test xs ≡ true → (x : X) × Contains xs x × (test x ≡ true)
any_found test [] passes = absurd (false≢true passes)
any_found {X} test (x ∷ xs) passes = by (test x) refl passes (λ some. any_found test xs some)
  where
    by : (b : Bool) → test x ≡ b → (b || list_any test xs) ≡ true → (list_any test xs ≡ true → (y : X) × Contains xs y × (test y ≡ true))
        → (y : X) × Contains (x ∷ xs) y × (test y ≡ true)
    by true is some behind = (x, (0, omega arith, refl), is)
    by false is some behind = let more = behind some in (more.0, (suc more.1.0, omega (arith, more.1.1), more.1.2), more.2)

target_of_any : (functions : List Function) (params to : ℕ) → list_any (is_called_at params to) functions ≡ true → IsIndirectTarget functions params to
target_of_any functions params to some =
    let found = any_found (is_called_at params to) functions some in
    let f = found.0 in
    let outer = and_parts (eqb f.entry to && eqb f.params params) f.referenced found.2 in
    let inner = and_parts (eqb f.entry to) (eqb f.params params) outer.0 in
    record { function = f; among = found.1; entry = eqb-true f.entry to inner.0; same_params = eqb-true f.params params inner.1; referenced = outer.1 }

site_of_any : (rows : List Row) (to : ℕ) → list_any (is_returned_to to) rows ≡ true → IsReturnSite rows to
site_of_any rows to some =
    let found = any_found (is_returned_to to) rows some in
    let parts = and_parts (is_call found.0) (eqb (after found.0) to) found.2 in
    (found.0, found.1, parts.0, eqb-true (after found.0) to parts.1)

module _ (image : Image) (laid : IsLaid image) (e : Entry) (made : IsMade image.code e) where
  -- the instruction is the one that stands where it was made, and goes where that one goes
  is_there : (at : ℕ) (i : Inst) → pc_of e ≡ at → Stands image.code at i → e.inst ≡ i
  is_there at i same stands = some_is e.inst i (sym made.fetched ∙ (ap (instruction_at image.code) same ∙ stands))

  goes : (i : Inst) → e.inst ≡ i → takes_input i ≡ false → next_of e ≡ (act i e.found).machine.regs.pc
  goes i is dry =
      ap (λ (r : Regs). r.pc) (made.steps (subst (λ (j : Inst). IsTrue (not (takes_input j))) (sym is) (rw dry refl)))
      ∙ ap (λ (j : Inst). (act j e.found).machine.regs.pc) is

  -- the group of one instruction is made where it stands
  alone : (at : ℕ) (i : Inst) → Stands image.code at i → at ≤ pc_of e → pc_of e < at + 4 → pc_of e ≡ at
  alone at i stands low high =
      let here = (laid.coded (pc_of e) e.inst made.fetched).0 in
      let there = (laid.coded at i stands).0 in
      omega (arith, here, there, low, high)

  module _ (bounded : IsEntryBounded e) (edge : Edge) where
    abbrev shows_over : Row → Type 0
    shows_over row = edge_over image.map (Some row) (pc_of e) (next_of e) ≡ Some edge

    as_edge : (shown : Edge) → IsEdgeOf image.map shown → Some shown ≡ Some edge → IsEdgeOf image.map edge
    as_edge shown is same = subst (IsEdgeOf image.map) (some_is shown edge same) is

    strays : Some (edges.Stray (pc_of e) (next_of e)) ≡ Some edge → IsEdgeOf image.map edge
    strays = as_edge (edges.Stray (pc_of e) (next_of e)) (bounded.found.pc, bounded.left.pc)

    branches : (at taken other : ℕ) → Contains image.map.rows (rows.Branch at taken other) → (last takes : Bool) → nat_eq (pc_of e) (at + 8) ≡ last → nat_eq (next_of e) taken ≡ takes
        → (if last then Some (edges.Branch at false (next_of e)) else (if takes then Some (edges.Branch at true (next_of e)) else None)) ≡ Some edge → IsEdgeOf image.map edge
    branches at taken other has true takes is_last is_taken shows =
        let (offset, stands, leads) = (laid.group (rows.Branch at taken other) has).2 in
        let place = eqb-true (pc_of e) (at + 8) is_last in
        let to = goes (B offset) (is_there (at + 8) (B offset) place stands) refl ∙ (ap (λ (p : ℕ). branch_target p offset) place ∙ leads) in
        as_edge (edges.Branch at false (next_of e)) (taken, other, has, to) shows
    branches at taken other has false true is_last is_taken shows =
        as_edge (edges.Branch at true (next_of e)) (taken, other, has, eqb-true (next_of e) taken is_taken) shows
    branches at taken other has false false is_last is_taken shows = absurd cc

    icalls : (at params : ℕ) → Contains image.map.rows (rows.ICall at params) → (lawful : Bool) → list_any (is_called_at params (next_of e)) image.map.functions ≡ lawful
        → (if lawful then Some (edges.ICall at (next_of e)) else Some (edges.Stray (pc_of e) (next_of e))) ≡ Some edge → IsEdgeOf image.map edge
    icalls at params has true is shows = as_edge (edges.ICall at (next_of e)) (params, has, target_of_any image.map.functions params (next_of e) is) shows
    icalls at params has false is shows = strays shows

    returns : (at : ℕ) → Contains image.map.rows (rows.Ret at) → (lawful : Bool) → list_any (is_returned_to (next_of e)) image.map.rows ≡ lawful
        → (if lawful then Some (edges.Ret at (next_of e)) else Some (edges.Stray (pc_of e) (next_of e))) ≡ Some edge → IsEdgeOf image.map edge
    returns at has true is shows = as_edge (edges.Ret at (next_of e)) (has, site_of_any image.map.rows (next_of e) is) shows
    returns at has false is shows = strays shows

    over_row : (row : Row) → Contains image.map.rows row → Covers row (pc_of e) → shows_over row → IsEdgeOf image.map edge
    over_row (rows.Jump at to) has covers shows =
        let (offset, stands, leads) = laid.group (rows.Jump at to) has in
        let place = alone at (B offset) stands covers.0 covers.1 in
        let there = goes (B offset) (is_there at (B offset) place stands) refl ∙ (ap (λ (p : ℕ). branch_target p offset) place ∙ leads) in
        as_edge (edges.Jump at (next_of e)) (subst (λ (n : ℕ). Contains image.map.rows (rows.Jump at n)) (sym there) has) shows
    over_row (rows.Call at to) has covers shows =
        let (offset, stands, leads) = laid.group (rows.Call at to) has in
        let place = alone at (Bl offset) stands covers.0 covers.1 in
        let there = goes (Bl offset) (is_there at (Bl offset) place stands) refl ∙ (ap (λ (p : ℕ). branch_target p offset) place ∙ leads) in
        as_edge (edges.Call at (next_of e)) (subst (λ (n : ℕ). Contains image.map.rows (rows.Call at n)) (sym there) has) shows
    over_row (rows.Branch at taken other) has covers shows = branches at taken other has _ _ refl refl shows
    over_row (rows.ICall at params) has covers shows = icalls at params has _ refl shows
    over_row (rows.Ret at) has covers shows = returns at has _ refl shows
    over_row (rows.Check at) has covers shows = absurd cc
    over_row (rows.UseAt at cell len) has covers shows = absurd cc
    over_row (rows.DefAt at cell len) has covers shows = absurd cc
    over_row (rows.Begin at op) has covers shows = strays shows
    over_row (rows.End at op) has covers shows = strays shows
    over_row (rows.UseCell at cell) has covers shows = strays shows
    over_row (rows.DefCell at cell) has covers shows = strays shows

    shown_is_edge : (op : ℕ) → IsOperation image.map op → shown_edge image.map op e ≡ Some edge → IsEdgeOf image.map edge
    shown_is_edge op begun shows = by (is_transfer e.inst) refl shows
      where
        ends : (seals : Bool) → (if seals then Some (edges.End op) else None) ≡ Some edge → IsEdgeOf image.map edge
        ends true shows = as_edge (edges.End op) begun shows
        ends false shows = absurd cc

        by : (transfers : Bool) → is_transfer e.inst ≡ transfers
            → (if transfers then edge_over image.map (row_over image.map.rows (pc_of e)) (pc_of e) (next_of e) else (if seals_window made_call op e then Some (edges.End op) else None)) ≡ Some edge
            → IsEdgeOf image.map edge
        by true is shows =
            let over = laid.covered (pc_of e) e.inst made.fetched (rw is refl) in
            over_row over.0 over.1 over.2
            (subst (λ (row : Option Row). edge_over image.map row (pc_of e) (next_of e) ≡ Some edge) (laid.over over.0 (pc_of e) over.1 over.2) shows)
        by false is shows = ends (seals_window made_call op e) shows

-- each entry of the window was made, and is bounded
abbrev AreMade : Image → List Entry → Type 0
AreMade image window = (k : ℕ) (e : Entry) → slice_get window k ≡ Some e → IsMade image.code e × IsEntryBounded e

path_edges : (image : Image) → IsLaid image → (op : ℕ) → IsOperation image.map op → (window : List Entry) → AreMade image window
    → AllByRecursion (IsEdgeOf image.map) (executed_path image.map op window)
path_edges image laid op begun [] each = tt
path_edges image laid op begun (e ∷ window) each = by (shown_edge image.map op e) refl (path_edges image laid op begun window (λ k other at. each (suc k) other at))
  where
    by : (o : Option Edge) → shown_edge image.map op e ≡ o → AllByRecursion (IsEdgeOf image.map) (executed_path image.map op window)
        → AllByRecursion (IsEdgeOf image.map) (cons_option o (executed_path image.map op window))
    by None is rest = rest
    by (Some edge) is rest = let first = each 0 e refl in (shown_is_edge image laid e first.0 first.1 edge op begun is, rest)

pub takes_edges : (image : Image) → IsLaid image → (op : ℕ) → IsOperation image.map op → (window : List Entry) → AreMade image window
    → All (IsEdgeOf image.map) (executed_path image.map op window)
takes_edges image laid op begun window each = All-from_recursion (IsEdgeOf image.map) (executed_path image.map op window) (path_edges image laid op begun window each)
