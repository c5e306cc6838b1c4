-- From a clear address on, a run that goes back as it called executes a walk: row by row, and by the number of its instructions.
use Rattle.std.proofs.Common.{◌≡◌, ℕ, zero, suc, ◌+◌, ◌≤◌, true, false, List, [], ◌∷◌, ◌++◌, length, Contains, Option, Some, None, refl, sym, ap, subst, ◌∙◌, inl, inr, arith, append_assoc, append-nil}
use Rattle.oat_map.proofs.StackLemmas.{IsStack-passed, IsStack-jump, IsStack-branch, IsStack-call, IsStack-icall, IsStack-return, Returns-top, depth-is}
use Rattle.oat_journal.specs.{Regs, Edge, Row, after, next, Step, passed, moved, path_of, depth, RowGoes, IsStack, Image, Run.Entry, Window.executed_path, GoesBack, turn_of}
use Rattle.oat_verify.specs.{IsLaid, CutsNoGroup}
use Rattle.oat_attest.specs.Lockstep.{Makes, Executes}
use Rattle.oat_attest.proofs.{Stretches.Runs, Stretches.no_runs, Stretches.moved_to, Skips.skip_none, Places.AreCalled, Places.called_more, Places.goes_site, Places.goes_clear, CellCrossings.BegunBy}
use Rattle.oat_attest.proofs.{RowRuns.Past, RowRuns.RowRuns, RowRuns.runs_row, Executing.makes_path, Executing.executed_length}
use Rattle.oat_map.specs.declared.edge.Edge.TheVariants as edges
use Rattle.oat_map.specs.declared.row.Row.TheVariants as rows

-- ---- what is found

-- From an address, behind the steps before, a run executes steps to the operation's end, where no call is open.
pub record Found (image : Image) (op : ℕ) (before : List Step) (t : ℕ) (es : List Entry) : Type 0 where
  pub steps : List Step
  pub place : ℕ
  pub finish : ℕ
  pub rest : List Entry
  pub executes : Executes image op before t steps es place rest
  pub ends : Makes image op place (rows.End finish op) (edges.End op ∷ []) (after (rows.End finish op)) rest []
  pub closed : depth (before ++ steps) ≡ 0

-- no instruction begins an operation
abbrev pub NoneBegins : List Entry → Type 0
NoneBegins es = BegunBy es → ⊥

-- whatever was done before, from each clear address with these open calls the steps of a run are found
abbrev pub Finds : Image → ℕ → List Entry → Type 0
Finds image op es =
    (before : List Step) (calls : List ℕ) (t : ℕ) (r : Regs) → IsStack before calls → AreCalled image.map.rows before → CutsNoGroup image.map.rows t
    → Runs image.code op (moved_to r t) es → NoneBegins es → GoesBack turn_of calls (executed_path image.map op es)
    → Found image op before t es

-- what is known where the run comes to the next row
record Facing (image : Image) (op : ℕ) (before : List Step) (calls : List ℕ) (t : ℕ) (row : Row) (es : List Entry) : Type 0 where
  laid : IsLaid image
  has : Contains image.map.rows row
  stack : IsStack before calls
  called : AreCalled image.map.rows before
  quiet : NoneBegins es
  back : GoesBack turn_of calls (executed_path image.map op es)
  on : (rest : List Entry) → 1 + length rest ≤ length es → Finds image op rest

-- what the open calls are behind the row's group
goes_back : (image : Image) (op : ℕ) (before : List Step) (calls : List ℕ) (t : ℕ) (row : Row) (es : List Entry) (shown : List Edge) (to : ℕ) → Facing image op before calls t row es
    → (p : Past image op t row shown to es) → GoesBack turn_of calls (shown ++ executed_path image.map op p.rest)
goes_back image op before calls t row es shown to f p =
    subst (GoesBack turn_of calls) (makes_path image op t row shown to es p.rest p.makes) f.back

-- a begin further on is one of the whole
begun_later : (image : Image) (op t : ℕ) (row : Row) (shown : List Edge) (to : ℕ) (es : List Entry) → (p : Past image op t row shown to es) → BegunBy p.rest → BegunBy es
begun_later image op t row shown to es p b =
    let m = p.makes in
    record {
      before = m.way ++ (m.group ++ b.before);
      e = b.e;
      others = b.others;
      whole = m.whole ∙ ap (λ (xs : List Entry). m.way ++ (m.group ++ xs)) b.whole
          ∙ ap (λ (xs : List Entry). m.way ++ xs) (sym (append_assoc m.group b.before (b.e ∷ b.others))) ∙ sym (append_assoc m.way (m.group ++ b.before) (b.e ∷ b.others));
      op = b.op;
      at = b.at;
      called = b.called;
    }

-- a step that the run took, and the steps of the rest
advance : (image : Image) (op : ℕ) (before : List Step) (calls later : List ℕ) (t : ℕ) (row : Row) (step : Step) (to : ℕ) (es : List Entry)
    → Facing image op before calls t row es → RowGoes image.map row before step to → (p : Past image op t row (path_of (step ∷ [])) to es)
    → IsStack (before ++ step ∷ []) later → GoesBack turn_of later (executed_path image.map op p.rest) → Found image op before t es
advance image op before calls later t row step to es f goes p stack back =
    let fewer : 1 + length p.rest ≤ length es = executed_length image op before t (step ∷ []) es to p.rest (row, to, p.rest, goes, p.makes, (refl, refl)) in
    let on = f.on p.rest fewer (before ++ step ∷ []) later to p.regs stack
    (called_more image.map.rows before step f.called (goes_site image.map row before step to f.has goes))
    (goes_clear image f.laid row before step to f.has f.called goes) p.runs (λ b. f.quiet (begun_later image op t row (path_of (step ∷ [])) to es p b)) back in
    record {
      steps = step ∷ on.steps;
      place = on.place;
      finish = on.finish;
      rest = on.rest;
      executes = (row, to, p.rest, goes, p.makes, on.executes);
      ends = on.ends;
      closed = ap depth (sym (append_assoc before (step ∷ []) on.steps)) ∙ on.closed;
    }

-- ---- each row

turn_end : (image : Image) (op : ℕ) (before : List Step) (calls : List ℕ) (t at ended : ℕ) (es : List Entry)
    → Facing image op before calls t (rows.End at ended) es → RowRuns image op t (rows.End at ended) es → Found image op before t es
turn_end image op before calls t at ended es f over =
    let none : calls ≡ [] = subst (GoesBack turn_of calls) (makes_path image op t (rows.End at op) (edges.End op ∷ []) (after (rows.End at op)) es [] over.makes) f.back in
    record {
      steps = [];
      place = t;
      finish = at;
      rest = es;
      executes = (refl, refl);
      ends = over.makes;
      closed = ap depth (append-nil before) ∙ depth-is before calls f.stack ∙ ap length none;
    }

turn : (image : Image) (op : ℕ) (before : List Step) (calls : List ℕ) (t : ℕ) (row : Row) (es : List Entry)
    → Facing image op before calls t row es → RowRuns image op t row es → Found image op before t es
turn image op before calls t (rows.Jump at there) es f p =
    advance image op before calls calls t (rows.Jump at there) (moved (edges.Jump at there)) there es f (refl, refl) p (IsStack-jump before calls f.stack at there)
    (goes_back image op before calls t (rows.Jump at there) es (edges.Jump at there ∷ []) there f p)
turn image op before calls t (rows.Branch at taken other) es f (inl p) =
    advance image op before calls calls t (rows.Branch at taken other) (moved (edges.Branch at true taken)) taken es f (inl (refl, refl)) p (IsStack-branch before calls f.stack at true taken)
    (goes_back image op before calls t (rows.Branch at taken other) es (edges.Branch at true taken ∷ []) taken f p)
turn image op before calls t (rows.Branch at taken other) es f (inr p) =
    advance image op before calls calls t (rows.Branch at taken other) (moved (edges.Branch at false other)) other es f (inr (refl, refl)) p (IsStack-branch before calls f.stack at false other)
    (goes_back image op before calls t (rows.Branch at taken other) es (edges.Branch at false other ∷ []) other f p)
turn image op before calls t (rows.Call at there) es f p =
    advance image op before calls _ t (rows.Call at there) (moved (edges.Call at there)) there es f (refl, refl) p (IsStack-call before calls f.stack at there)
    (goes_back image op before calls t (rows.Call at there) es (edges.Call at there ∷ []) there f p)
turn image op before calls t (rows.ICall at params) es f (to, inl (target, p)) =
    advance image op before calls _ t (rows.ICall at params) (moved (edges.ICall at to)) to es f (refl, target) p (IsStack-icall before calls f.stack at 0 to)
    (goes_back image op before calls t (rows.ICall at params) es (edges.ICall at to ∷ []) to f p)
turn image op before calls t (rows.ICall at params) es f (to, inr (no_target, p)) =
    absurd (goes_back image op before calls t (rows.ICall at params) es (edges.Stray (at + 4) to ∷ []) to f p)
turn image op before calls t (rows.Ret at) es f (to, inl (site, p)) =
    let (others, is, on) = goes_back image op before calls t (rows.Ret at) es (edges.Ret at to ∷ []) to f p in
    let stack : IsStack before (others ++ to ∷ []) = subst (IsStack before) is f.stack in
    advance image op before calls others t (rows.Ret at) (moved (edges.Ret at to)) to es f (refl, Returns-top before others to stack) p (IsStack-return before others to stack at to) on
turn image op before calls t (rows.Ret at) es f (to, inr (no_site, p)) =
    absurd (goes_back image op before calls t (rows.Ret at) es (edges.Stray (at + 4) to ∷ []) to f p)
turn image op before calls t (rows.Begin at begun) es f b = absurd (f.quiet b)
turn image op before calls t (rows.End at ended) es f over = turn_end image op before calls t at ended es f over
turn image op before calls t (rows.UseCell at cell) es f p =
    advance image op before calls calls t (rows.UseCell at cell) passed _ es f (refl, refl) p (IsStack-passed before calls f.stack)
    (goes_back image op before calls t (rows.UseCell at cell) es [] _ f p)
turn image op before calls t (rows.DefCell at cell) es f p =
    advance image op before calls calls t (rows.DefCell at cell) passed _ es f (refl, refl) p (IsStack-passed before calls f.stack)
    (goes_back image op before calls t (rows.DefCell at cell) es [] _ f p)
turn image op before calls t (rows.UseAt at cell len) es f p =
    advance image op before calls calls t (rows.UseAt at cell len) passed _ es f (refl, refl) p (IsStack-passed before calls f.stack)
    (goes_back image op before calls t (rows.UseAt at cell len) es [] _ f p)
turn image op before calls t (rows.DefAt at cell len) es f p =
    advance image op before calls calls t (rows.DefAt at cell len) passed _ es f (refl, refl) p (IsStack-passed before calls f.stack)
    (goes_back image op before calls t (rows.DefAt at cell len) es [] _ f p)
turn image op before calls t (rows.Check at) es f p =
    advance image op before calls calls t (rows.Check at) passed _ es f (refl, refl) p (IsStack-passed before calls f.stack)
    (goes_back image op before calls t (rows.Check at) es [] _ f p)

-- ---- all rows

-- where the next row is known
at_next : (image : Image) → IsLaid image → (op : ℕ) (es : List Entry) → ((rest : List Entry) → 1 + length rest ≤ length es → Finds image op rest)
    → (before : List Step) (calls : List ℕ) (t : ℕ) (r : Regs) → IsStack before calls → AreCalled image.map.rows before → CutsNoGroup image.map.rows t
    → Runs image.code op (moved_to r t) es → NoneBegins es → GoesBack turn_of calls (executed_path image.map op es)
    → (o : Option Row) → next image.map.rows t ≡ o → Found image op before t es
at_next image laid op es on before calls t r stack called clear runs quiet back None none =
    absurd (skip_none image laid op t clear none es r t (omega arith) runs)
at_next image laid op es on before calls t r stack called clear runs quiet back (Some row) at_row =
    turn image op before calls t row es
    (record { laid = laid; has = (laid.next_is t row at_row).has; stack = stack; called = called; quiet = quiet; back = back; on = on })
    (runs_row image laid op t row clear at_row es r runs)

-- From a clear address on, a run of at most so many instructions that goes back as it called is a walk to the operation's end.
finds_within : (image : Image) → IsLaid image → (op most : ℕ) (es : List Entry) → length es ≤ most → Finds image op es
finds_within image laid op most [] within before calls t r stack called clear runs quiet back = absurd (no_runs image.code op (moved_to r t) runs)
finds_within image laid op zero (e ∷ es) within before calls t r stack called clear runs quiet back = absurd (omega arith)
finds_within image laid op (suc most) (e ∷ es) within before calls t r stack called clear runs quiet back =
    at_next image laid op (e ∷ es) (λ rest fewer. finds_within image laid op most rest (omega arith))
    before calls t r stack called clear runs quiet back (next image.map.rows t) refl

pub finds : (image : Image) → IsLaid image → (op : ℕ) (es : List Entry) → Finds image op es
finds image laid op es = finds_within image laid op (length es) es (omega arith)
