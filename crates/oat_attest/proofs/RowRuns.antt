-- What a run does from a clear address on, by the row that it comes to next.
use Rattle.std.proofs.Common.{append-nil, ◌≡◌, ℕ, ◌+◌, ◌⊎◌, Bool, true, false, cond, eqb, List, [], ◌∷◌, ◌++◌, Contains, Some, refl, sym, ap, subst, ◌∙◌, inl, inr}
use Rattle.std.specs.List.{list_any}
use Rattle.std.proofs.lemmas.{Bool.cases_Bool, Bool.and_parts, Bool.eqb-true, Bool.eq-eqb, List.Folds.Any-from_list_any}
use Rattle.oat_journal.specs.{Regs, Edge, Function, Row, address_of, after, next, IsIndirectTarget, is_called_at, is_returned_to, Image, Run.Entry, Window.edge_over}
use Rattle.oat_verify.specs.{IsReturnSite, CutsNoGroup, IsLaid}
use Rattle.oat_attest.specs.{Headline.AllReadByLoad, Lockstep.Placed, Lockstep.plain, Lockstep.calling, Lockstep.IsGroupRun, Lockstep.Makes}
use Rattle.oat_attest.proofs.{Places.branch_apart, Places.target_any, Places.returned_any, Stretches.Runs, Stretches.moved_to, Stretches.runs_stand, Stretches.Crossed, Stretches.Skipped, Skips.skip}
use Rattle.oat_attest.proofs.{Crossings.cross_jump, Crossings.cross_call, Crossings.cross_icall, Crossings.cross_ret, Crossings.cross_taken, Crossings.cross_other, Crossings.cross_check}
use Rattle.oat_attest.proofs.{CellCrossings.cross_use, CellCrossings.cross_define, CellCrossings.cross_end, CellCrossings.cross_begin, CellCrossings.BegunBy, ElementCrossings.cross_use_at}
use Rattle.oat_attest.proofs.{ElementCrossings.cross_define_at}
use Rattle.oat_map.specs.declared.edge.Edge.TheVariants as edges
use Rattle.oat_map.specs.declared.row.Row.TheVariants as rows
use Rattle.oat_journal.specs.svc as svc

-- From an address on a run makes the group of a row, and goes on.
pub record Past (image : Image) (op from : ℕ) (row : Row) (shown : List Edge) (to : ℕ) (es : List Entry) : Type 0 where
  pub rest : List Entry
  pub makes : Makes image op from row shown to es rest
  pub regs : Regs
  pub runs : Runs image.code op (moved_to regs to) rest
  pub loads : AllReadByLoad image rest → AllReadByLoad image es

-- From an address on a run makes the group of an End row, and ends.
pub record Over (image : Image) (op from at ended : ℕ) (es : List Entry) : Type 0 where
  pub own : ended ≡ op
  pub makes : Makes image op from (rows.End at op) (edges.End op ∷ []) (after (rows.End at op)) es []
  pub loads : AllReadByLoad image es

-- the same by rows
abbrev pub RowRuns : Image → ℕ → ℕ → Row → List Entry → Type 0
RowRuns image op from (rows.Jump at target) es = Past image op from (rows.Jump at target) (edges.Jump at target ∷ []) target es
RowRuns image op from (rows.Branch at taken other) es =
    Past image op from (rows.Branch at taken other) (edges.Branch at true taken ∷ []) taken es
    ⊎ Past image op from (rows.Branch at taken other) (edges.Branch at false other ∷ []) other es
RowRuns image op from (rows.Call at target) es = Past image op from (rows.Call at target) (edges.Call at target ∷ []) target es
RowRuns image op from (rows.ICall at params) es =
    (to : ℕ) × ((IsIndirectTarget image.map.functions params to × Past image op from (rows.ICall at params) (edges.ICall at to ∷ []) to es)
    ⊎ ((IsIndirectTarget image.map.functions params to → ⊥) × Past image op from (rows.ICall at params) (edges.Stray (at + 4) to ∷ []) to es))
RowRuns image op from (rows.Ret at) es =
    (to : ℕ) × ((IsReturnSite image.map.rows to × Past image op from (rows.Ret at) (edges.Ret at to ∷ []) to es)
    ⊎ ((IsReturnSite image.map.rows to → ⊥) × Past image op from (rows.Ret at) (edges.Stray (at + 4) to ∷ []) to es))
RowRuns image op from (rows.Begin at begun) es = BegunBy es
RowRuns image op from (rows.End at ended) es = Over image op from at ended es
RowRuns image op from (rows.UseCell at cell) es = Past image op from (rows.UseCell at cell) [] (after (rows.UseCell at cell)) es
RowRuns image op from (rows.DefCell at cell) es = Past image op from (rows.DefCell at cell) [] (after (rows.DefCell at cell)) es
RowRuns image op from (rows.UseAt at cell len) es = Past image op from (rows.UseAt at cell len) [] (after (rows.UseAt at cell len)) es
RowRuns image op from (rows.DefAt at cell len) es = Past image op from (rows.DefAt at cell len) [] (after (rows.DefAt at cell len)) es
RowRuns image op from (rows.Check at) es = Past image op from (rows.Check at) [] (after (rows.Check at)) es

-- a run that has come to the next row
record Come (image : Image) (op from : ℕ) (row : Row) (es : List Entry) : Type 0 where
  laid : IsLaid image
  regs : Regs
  runs : Runs image.code op (moved_to regs from) es
  at_row : next image.map.rows from ≡ Some row
  has : Contains image.map.rows row
  skipped : Skipped image op es (address_of row)

past : (image : Image) (op from : ℕ) (row : Row) (shown : List Edge) (to : ℕ) (es : List Entry) (group : List Placed)
    → (come : Come image op from row es) → Crossed image op come.skipped.rest group shown to → IsGroupRun row shown to group
    → Past image op from row shown to es
past image op from row shown to es group come crossed is = record {
  rest = crossed.rest;
  makes = record {
    stands = runs_stand image.code op come.regs from es come.runs;
    at_row = come.at_row;
    way = come.skipped.way;
    quiet = come.skipped.quiet;
    group = crossed.stretch;
    made = subst (IsGroupRun row shown to) (sym crossed.places) is;
    shows = crossed.shows;
    whole = come.skipped.whole ∙ ap (λ (xs : List Entry). come.skipped.way ++ xs) crossed.whole;
  };
  regs = crossed.regs;
  runs = crossed.runs;
  loads = λ all. come.skipped.loads (crossed.loads all);
}

-- ---- what the tests on targets and return sites say

any_target : (functions : List Function) (params to : ℕ) → list_any (is_called_at params to) functions ≡ true → IsIndirectTarget functions params to
any_target functions params to found =
    let (place, function, within, is, passes) = Any-from_list_any (is_called_at params to) functions found in
    let here = and_parts _ _ passes in
    let both = and_parts _ _ here.0 in
    record { function = function; among = (place, within, is); entry = eqb-true _ _ both.0; same_params = eqb-true _ _ both.1; referenced = here.1 }

any_returned : (all : List Row) (to : ℕ) → list_any (is_returned_to to) all ≡ true → IsReturnSite all to
any_returned all to found =
    let (place, row, within, is, passes) = Any-from_list_any (is_returned_to to) all found in
    let here = and_parts _ _ passes in
    (row, (place, within, is), here.0, eqb-true _ _ here.1)

never : (t : Bool) → t ≡ false → t ≡ true → ⊥
never t off on = let both : false ≡ true = sym off ∙ on in cc

-- ---- each row

run_branch : (image : Image) (op from at taken other : ℕ) (es : List Entry) → Come image op from (rows.Branch at taken other) es
    → RowRuns image op from (rows.Branch at taken other) es
run_branch image op from at taken other es come =
    let row = rows.Branch at taken other in
    let r = come.skipped.regs in
    elim (cases_Bool (eqb (r.x 9) 0)) [
      | inr set ↦
          inl (past image op from row (edges.Branch at true taken ∷ []) taken es _ come
          (cross_taken image come.laid op at taken other come.has r come.skipped.rest set come.skipped.runs)
          (r.x 9, (λ zero_is. never (eqb (r.x 9) 0) set (eq-eqb (r.x 9) 0 zero_is)), refl))
      | inl unset ↦
          inr (past image op from row (edges.Branch at false other ∷ []) other es _ come
          (cross_other image come.laid op at taken other come.has r come.skipped.rest unset (branch_apart image come.laid at taken other come.has) come.skipped.runs)
          (ap (λ (v : ℕ). calling at (svc.Bit v) ∷ plain (at + 4) ∷ plain (at + 8) ∷ []) (eqb-true (r.x 9) 0 unset)))
    ]

run_icall : (image : Image) (op from at params : ℕ) (es : List Entry) → Come image op from (rows.ICall at params) es → RowRuns image op from (rows.ICall at params) es
run_icall image op from at params es come =
    let row = rows.ICall at params in
    let r = come.skipped.regs in
    let v = r.x 9 in
    elim (cases_Bool (list_any (is_called_at params v) image.map.functions)) [
      | inl any ↦
          let edge : edge_over image.map (Some row) (at + 4) v ≡ Some (edges.ICall at v) = ap (λ (t : Bool). cond t (Some (edges.ICall at v)) (Some (edges.Stray (at + 4) v))) any in (
            v,
            inl (
              any_target image.map.functions params v any,
              past image op from row (edges.ICall at v ∷ []) v es _ come (cross_icall image come.laid op at params come.has r come.skipped.rest (edges.ICall at v) edge come.skipped.runs) refl,
            ),
          )
      | inr none ↦
          let edge : edge_over image.map (Some row) (at + 4) v ≡ Some (edges.Stray (at + 4) v) = ap (λ (t : Bool). cond t (Some (edges.ICall at v)) (Some (edges.Stray (at + 4) v))) none in (
            v,
            inr (
              λ target. never (list_any (is_called_at params v) image.map.functions) none (target_any image.map.functions params v target),
              past image op from row (edges.Stray (at + 4) v ∷ []) v es _ come (cross_icall image come.laid op at params come.has r come.skipped.rest (edges.Stray (at + 4) v) edge come.skipped.runs) refl,
            ),
          )
    ]

run_ret : (image : Image) (op from at : ℕ) (es : List Entry) → Come image op from (rows.Ret at) es → RowRuns image op from (rows.Ret at) es
run_ret image op from at es come =
    let row = rows.Ret at in
    let r = come.skipped.regs in
    let v = r.x 30 in
    elim (cases_Bool (list_any (is_returned_to v) image.map.rows)) [
      | inl any ↦
          let edge : edge_over image.map (Some row) (at + 4) v ≡ Some (edges.Ret at v) = ap (λ (t : Bool). cond t (Some (edges.Ret at v)) (Some (edges.Stray (at + 4) v))) any in (
            v,
            inl (
              any_returned image.map.rows v any,
              past image op from row (edges.Ret at v ∷ []) v es _ come (cross_ret image come.laid op at come.has r come.skipped.rest (edges.Ret at v) edge come.skipped.runs) refl,
            ),
          )
      | inr none ↦
          let edge : edge_over image.map (Some row) (at + 4) v ≡ Some (edges.Stray (at + 4) v) = ap (λ (t : Bool). cond t (Some (edges.Ret at v)) (Some (edges.Stray (at + 4) v))) none in (
            v,
            inr (
              λ site. never (list_any (is_returned_to v) image.map.rows) none (returned_any image.map.rows v site),
              past image op from row (edges.Stray (at + 4) v ∷ []) v es _ come (cross_ret image come.laid op at come.has r come.skipped.rest (edges.Stray (at + 4) v) edge come.skipped.runs) refl,
            ),
          )
    ]

-- a row that is passed leads behind its group
behind : (image : Image) (op from : ℕ) (row : Row) (to : ℕ) (es : List Entry) (come : Come image op from row es) → after row ≡ to → Past image op from row [] to es
    → Past image op from row [] (after row) es
behind image op from row to es come is p = subst (λ (place : ℕ). Past image op from row [] place es) (sym is) p

-- a begin on the way of a run
begun_behind : (way rest es : List Entry) → es ≡ way ++ rest → BegunBy rest → BegunBy es
begun_behind [] rest es whole b = record { before = b.before; e = b.e; others = b.others; whole = whole ∙ b.whole; op = b.op; at = b.at; called = b.called }
begun_behind (e ∷ way) rest es whole b =
    let c = begun_behind way rest (way ++ rest) refl b in
    record { before = e ∷ c.before; e = c.e; others = c.others; whole = whole ∙ ap (λ (xs : List Entry). e ∷ xs) c.whole; op = c.op; at = c.at; called = c.called }

run_end : (image : Image) (op from at ended : ℕ) (es : List Entry) → Come image op from (rows.End at ended) es → Over image op from at ended es
run_end image op from at ended es come =
    let s = come.skipped in
    let e = cross_end image come.laid op at ended come.has s.regs s.rest s.runs in
    record {
      own = e.own;
      makes = record {
        stands = runs_stand image.code op come.regs from es come.runs;
        at_row = come.at_row ∙ ap (λ (o : ℕ). Some (rows.End at o)) e.own;
        way = s.way;
        quiet = s.quiet;
        group = s.rest;
        made = e.places;
        shows = e.shows;
        whole = s.whole ∙ ap (λ (xs : List Entry). s.way ++ xs) (sym (append-nil s.rest));
      };
      loads = s.loads e.loads;
    }

run_come : (image : Image) (op from : ℕ) (row : Row) (es : List Entry) → Come image op from row es → RowRuns image op from row es
run_come image op from (rows.Jump at target) es come =
    past image op from (rows.Jump at target) (edges.Jump at target ∷ []) target es _ come (cross_jump image come.laid op at target come.has come.skipped.regs come.skipped.rest come.skipped.runs) refl
run_come image op from (rows.Branch at taken other) es come = run_branch image op from at taken other es come
run_come image op from (rows.Call at target) es come =
    past image op from (rows.Call at target) (edges.Call at target ∷ []) target es _ come (cross_call image come.laid op at target come.has come.skipped.regs come.skipped.rest come.skipped.runs) refl
run_come image op from (rows.ICall at params) es come = run_icall image op from at params es come
run_come image op from (rows.Ret at) es come = run_ret image op from at es come
run_come image op from (rows.Begin at begun) es come =
    begun_behind come.skipped.way come.skipped.rest es come.skipped.whole (cross_begin image come.laid op at begun come.has come.skipped.regs come.skipped.rest come.skipped.runs)
run_come image op from (rows.End at ended) es come = run_end image op from at ended es come
run_come image op from (rows.UseCell at cell) es come =
    let row = rows.UseCell at cell in
    let u = cross_use image come.laid op at cell come.has come.skipped.regs come.skipped.rest come.skipped.runs in
    behind image op from row (at + 20) es come (come.laid.low row come.has).2 (past image op from row [] (at + 20) es _ come u.crossed (cell, u.value, refl, refl))
run_come image op from (rows.DefCell at cell) es come =
    let row = rows.DefCell at cell in
    let d = cross_define image come.laid op at cell come.has come.skipped.regs come.skipped.rest come.skipped.runs in
    behind image op from row (at + 20) es come (come.laid.low row come.has).2 (past image op from row [] (at + 20) es _ come d.crossed (cell, d.value, refl, refl))
run_come image op from (rows.UseAt at cell len) es come =
    let row = rows.UseAt at cell len in
    let u = cross_use_at image come.laid op at cell len come.has come.skipped.regs come.skipped.rest come.skipped.runs in
    behind image op from row (at + 40) es come (come.laid.low row come.has).2 (past image op from row [] (at + 40) es _ come u.crossed (cell + u.element, u.value, (u.element, u.below, refl), refl))
run_come image op from (rows.DefAt at cell len) es come =
    let row = rows.DefAt at cell len in
    let d = cross_define_at image come.laid op at cell len come.has come.skipped.regs come.skipped.rest come.skipped.runs in
    behind image op from row (at + 40) es come (come.laid.low row come.has).2 (past image op from row [] (at + 40) es _ come d.crossed (cell + d.element, d.value, (d.element, d.below, refl), refl))
run_come image op from (rows.Check at) es come =
    let row = rows.Check at in
    behind image op from row (at + 8) es come (come.laid.low row come.has).2
    (past image op from row [] (at + 8) es _ come (cross_check image come.laid op at come.has come.skipped.regs come.skipped.rest come.skipped.runs) refl)

-- From a clear address a run comes to the next row and does what the row allows the machine.
pub runs_row : (image : Image) → IsLaid image → (op from : ℕ) (row : Row) → CutsNoGroup image.map.rows from → next image.map.rows from ≡ Some row
    → (es : List Entry) (r : Regs) → Runs image.code op (moved_to r from) es → RowRuns image op from row es
runs_row image laid op from row clear at_row es r runs =
    run_come image op from row es
    (record { laid = laid; regs = r; runs = runs; at_row = at_row; has = (laid.next_is from row at_row).has; skipped = skip image laid op from row clear at_row es r runs })
