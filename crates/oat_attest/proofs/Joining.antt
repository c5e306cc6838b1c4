-- The window of a sealed run beside the walk of an accepted path.
use Rattle.std.proofs.Common.{◌≡◌, ℕ, suc, ℤ, ◌+◌, ◌^◌, ◌<◌, List, [], ◌∷◌, ◌++◌, map, Contains, Option, Some, None, refl, sym, ap, ap₂, subst, ◌∙◌, inl, inr, arith, append-nil, append_assoc}
use Rattle.std.proofs.Common.{mod-eq_of_lt, length, length-append, ◌≤◌}
use Rattle.std.specs.{List.slice_get, List.filter_map, List.cons_option, Option.option_map}
use Rattle.std.proofs.lemmas.{List.append_cancel_left, List.Elements.filter_map-append}
use Rattle.oat_shape.proofs.Laid.{laid}
use Rattle.oat_blob.proofs.OneLayout.{one_body}
use Rattle.oat_journal.specs.{Regs, next_pc, Session, Write, Edge, Begin, after, start, Step, moved, edge_of, path_of, bit_of, bits_of, target_of, targets_of, return_of, returns_of, Walk, Image}
use Rattle.oat_journal.specs.{MonitorCall, Body, Run.Entry, Run.AreGiven, Run.start_memory, global_address, word_in, Journal.IsMade, Window.made_call, Window.executed_path, Window.returned}
use Rattle.oat_journal.specs.{Window.bits_of_run, Window.targets_of_run, Window.returns_of_run, Uses.CheckedUse, Uses.defined_value, Uses.use_behind, Uses.uses_behind, Measured.dev}
use Rattle.oat_journal.specs.{Measured.window_of, Measured.start_cells, Measured.opening_of, Trace.IsQuiet, Trace.IsTrace}
use Rattle.oat_journal.proofs.RunLaws.{bodies_tell_windows, windows_are_traces}
use Rattle.oat_verify.specs.{Verdict.Accepts, Verdict.subject_of, IsLaid, group_end, CutsNoGroup}
use Rattle.oat_attest.specs.{Headline.IsSetting, Headline.IsReported, Headline.calls_before, Lockstep.placed_of, Lockstep.Makes, Lockstep.ExecutesWalk, Lockstep.ExecutesUpToFirst}
use Rattle.oat_attest.specs.{Lockstep.PassesCells, Lockstep.SamePath, Lockstep.Lockstep}
use Rattle.oat_attest.proofs.{Stretches.Runs, Stretches.last, Stretches.more, Stretches.GoesOn, Stretches.moved_to, Stretches.moved_itself, Executing.seen, Executing.used, Executing.Agree}
use Rattle.oat_attest.proofs.{Executing.returns_agree, Executing.makes_path, Executing.makes_seen, Executing.makes_length, Executing.executed_seen, Executing.executed_edges, Executing.executed_leads}
use Rattle.oat_attest.proofs.{Executing.executed_length, Executing.executed_cells, Places.called_none, Moves.returns_moves, TrueReturns.all_returns_match, Sync.Outcome, Sync.follows, Sync.parts}
use Rattle.oat_attest.proofs.{Sync.Following, Sync.Parting, Sync.sync}
use Rattle.oat_map.specs.declared.edge.Edge.TheVariants as edges
use Rattle.oat_map.specs.declared.row.Row.TheVariants as rows
use Rattle.oat_journal.specs.svc as svc

-- ---- a trace is a run

abbrev MadeIn : List ℕ → List Entry → Type 0
MadeIn code es = (k : ℕ) (e : Entry) → slice_get es k ≡ Some e → IsMade code e

abbrev LinkedIn : List Entry → Type 0
LinkedIn es = (k : ℕ) (e next : Entry) → slice_get es k ≡ Some e → slice_get es (suc k) ≡ Some next → next.found.regs ≡ e.left

abbrev StartsWith : Regs → List Entry → Type 0
StartsWith r es = (e : Entry) → slice_get es 0 ≡ Some e → e.found.regs ≡ r

runs_from : (code : List ℕ) (op : ℕ) (front : List Entry) (final : Entry) (r : Regs) → MadeIn code (front ++ final ∷ []) → LinkedIn (front ++ final ∷ [])
    → made_call final ≡ Some (svc.End op) → ((k : ℕ) (e : Entry) → slice_get front k ≡ Some e → GoesOn (made_call e)) → StartsWith r (front ++ final ∷ [])
    → Runs code op r (front ++ final ∷ [])
runs_from code op [] final r made linked seals quiet starts = last r final (made 0 final refl) (starts final refl) seals
runs_from code op (e ∷ front) final r made linked seals quiet starts =
    more r e (front ++ final ∷ []) (made 0 e refl) (starts e refl) (quiet 0 e refl)
    (runs_from code op front final e.left (λ k. made (suc k)) (λ k. linked (suc k)) seals (λ k. quiet (suc k)) (λ next h. linked 0 e next refl h))

first_of : (front : List Entry) (final : Entry) → (e : Entry) × (slice_get (front ++ final ∷ []) 0 ≡ Some e)
first_of [] final = (final, refl)
first_of (e ∷ front) final = (e, refl)

trace_linked : (code : List ℕ) (op from : ℕ) (es : List Entry) → IsTrace code op from es → LinkedIn es
trace_linked code op from es t k e next h g =
    let one : suc k ≡ k + 1 = omega arith in
    (t.linked k e next h (subst (λ (i : ℕ). slice_get es i ≡ Some next) one g)).registers

pub trace_runs : (code : List ℕ) (op from : ℕ) (es : List Entry) → IsTrace code op from es → (r : Regs) × Runs code op (moved_to r from) es
trace_runs code op from es t =
    let all = t.front ++ t.last ∷ [] in
    let first = first_of t.front t.last in
    let r = first.0.found.regs in
    let made : MadeIn code all = subst (MadeIn code) t.whole (λ k e h. (t.made k e h).0) in
    let linked : LinkedIn all = subst LinkedIn t.whole (trace_linked code op from es t) in
    let quiet = λ (k : ℕ) (e : Entry) (h : slice_get t.front k ≡ Some e) (o : ℕ) (is : made_call e ≡ Some (svc.End o)). subst IsQuiet is (t.quiet k e h) in
    let starts : StartsWith r all = λ e h. let both : Some e ≡ Some first.0 = sym h ∙ first.1 in let same : e ≡ first.0 = cc in ap (λ (x : Entry). x.found.regs) same in
    let here = t.starts first.0 (ap (λ (xs : List Entry). slice_get xs 0) t.whole ∙ first.1) in
    let runs = runs_from code op t.front t.last r made linked t.seals quiet starts in
    (r, subst (λ (q : Regs). Runs code op q es) (moved_itself r from here) (subst (Runs code op r) (sym t.whole) runs))

-- ---- the steps of a walk, and its end

pub steps_path : (front : List Step) (op : ℕ) → path_of (front ++ moved (edges.End op) ∷ []) ≡ path_of front ++ edges.End op ∷ []
steps_path front op = filter_map-append edge_of front (moved (edges.End op) ∷ [])

-- an end has no records
pub ended_records : {X : Type 0} (g : Edge → Option X) (op : ℕ) → g (edges.End op) ≡ None → (path : List Edge) → filter_map g (path ++ edges.End op ∷ []) ≡ filter_map g path
ended_records g op none path =
    filter_map-append g path (edges.End op ∷ []) ∙ ap (λ o. filter_map g path ++ cons_option o []) none ∙ append-nil (filter_map g path)

-- ---- the cells of checked uses

cons_map : {A B : Type 0} (f : A → B) (o : Option A) (xs : List A) → map f (cons_option o xs) ≡ cons_option (option_map f o) (map f xs)
cons_map f None xs = refl
cons_map f (Some x) xs = refl

cell_known : (words : ℕ → ℕ) (cell value : ℕ) (calls : List (Option MonitorCall)) (o : Option ℕ)
    → option_map (λ (c : CheckedUse). c.cell) (option_map (λ word. record { cell = cell; found = value; defined = defined_value word cell calls }) (option_map words o))
    ≡ option_map (λ index. cell) o
cell_known words cell value calls None = refl
cell_known words cell value calls (Some index) = refl

cell_used : (image : Image) (calls : List (Option MonitorCall)) (call : Option MonitorCall)
    → option_map (λ (c : CheckedUse). c.cell) (use_behind (start_cells image) calls call) ≡ used image.cells call
cell_used image calls (Some (svc.Use cell value)) =
    cell_known (λ index. word_in (start_memory image.words) (global_address index)) cell value calls (slice_get image.cells cell)
cell_used image calls _ = refl

cells_used : (image : Image) (before : List (Option MonitorCall)) (es : List Entry)
    → map (λ (c : CheckedUse). c.cell) (uses_behind (start_cells image) before (map made_call es)) ≡ seen (used image.cells) es
cells_used image before [] = refl
cells_used image before (e ∷ es) =
    cons_map (λ (c : CheckedUse). c.cell) (use_behind (start_cells image) before (made_call e)) (uses_behind (start_cells image) (before ++ made_call e ∷ []) (map made_call es))
    ∙ ap₂ cons_option (cell_used image before (made_call e)) (cells_used image (before ++ made_call e ∷ []) es)

-- ---- the run and the walk

-- what is known of the window of a run whose blob is accepted
pub record IsAccepted (image : Image) (op begin_at : ℕ) (window : List Entry) (path : List Edge) : Type 0 where
  pub laid : IsLaid image
  pub at : ℕ
  pub has : Contains image.map.rows (Begin at op)
  pub begins : begin_at ≡ at + 4
  pub trace : IsTrace image.code op (next_pc begin_at) window
  pub bits : bits_of_run window ≡ bits_of path
  pub targets : targets_of_run window ≡ targets_of path

pub accepted : (image : Image) (session : Session) (begin_at : ℕ) → IsSetting image session begin_at
    → (bytes : List ℕ) (path : List Edge) → Accepts (subject_of image session) bytes path
    → (inputs : List ℤ) (writes : List Write) (n s : ℕ) (body : Body) → AreGiven inputs writes
    → IsReported image session begin_at (dev image (opening_of image session begin_at) inputs writes n) s body bytes
    → IsAccepted image session.op begin_at (window_of (opening_of image session begin_at) s (dev image (opening_of image session begin_at) inputs writes n)) path
accepted image session begin_at setting bytes path accepts inputs writes n s body given reported =
    let o = opening_of image session begin_at in
    let (at, has, begins) = setting.begins in
    let window = bodies_tell_windows image o inputs writes n s body reported.has in
    let same : body ≡ accepts.body = (one_body bytes body accepts.body _ accepts.mac reported.blob accepts.is_blob).0 in
    record {
      laid = laid image setting.well_formed setting.shaped;
      at = at;
      has = has;
      begins = begins;
      trace = windows_are_traces image o inputs writes n s body given reported.has;
      bits = sym window.bits ∙ ap (λ (b : Body). b.bits) same ∙ sym accepts.walked.bits_are;
      targets = sym window.targets ∙ ap (λ (b : Body). b.targets) same ∙ sym accepts.walked.targets_are;
    }

-- where the window starts
pub starts_at : (image : Image) → IsLaid image → (op at begin_at : ℕ) → Contains image.map.rows (Begin at op) → begin_at ≡ at + 4
    → (next_pc begin_at ≡ after (Begin at op)) × CutsNoGroup image.map.rows (after (Begin at op))
starts_at image l op at begin_at has there =
    let low = l.low (Begin at op) has in
    let small : at + 4 + 4 < 2 ^ 64 = (let short = low.1 in omega arith) in
    let sum : at + 4 + 4 ≡ group_end (Begin at op) = omega arith in
    (ap next_pc there ∙ mod-eq_of_lt small ∙ sum ∙ sym low.2, subst (CutsNoGroup image.map.rows) (sym low.2) (l.behind (Begin at op) has))

-- the walk starts there
starts_there : (image : Image) → IsLaid image → (op at begin_at from : ℕ) → Contains image.map.rows (Begin at op) → begin_at ≡ at + 4 → start image.map.rows op ≡ Some from
    → (next_pc begin_at ≡ from) × CutsNoGroup image.map.rows from
starts_there image l op at begin_at from has begins starts =
    let both : Some (after (Begin at op)) ≡ Some from = sym (l.begun at op has) ∙ starts in
    let there : after (Begin at op) ≡ from = cc in
    subst (λ (p : ℕ). (next_pc begin_at ≡ p) × CutsNoGroup image.map.rows p) there (starts_at image l op at begin_at has begins)

pub outcome : (image : Image) (op begin_at : ℕ) (window : List Entry) (path : List Edge) → IsAccepted image op begin_at window path
    → (steps : List Step) (walk : Walk image.map op steps) → path ≡ path_of steps
    → Outcome image op [] walk.partial.from walk.front walk.place walk.end_address window
outcome image op begin_at es path a steps walk is =
    let from = walk.partial.from in
    let there = starts_there image a.laid op a.at begin_at from a.has a.begins walk.partial.starts in
    let runs = trace_runs image.code op (next_pc begin_at) es a.trace in
    let whole : path ≡ path_of walk.front ++ edges.End op ∷ [] = is ∙ ap path_of walk.whole ∙ steps_path walk.front op in
    sync image a.laid op walk.place walk.end_address walk.at_end walk.front [] from (called_none image.map.rows) there.1 walk.partial.leads es runs.0
    (subst (λ (p : ℕ). Runs image.code op (moved_to runs.0 p) es) there.0 runs.1)
    (a.bits ∙ ap bits_of whole ∙ ended_records bit_of op refl (path_of walk.front))
    (a.targets ∙ ap targets_of whole ∙ ended_records target_of op refl (path_of walk.front))

-- ---- a window that executes a walk

-- at its end a run makes no other call and shows no other edge
end_seen : {X : Type 0} (see : Option MonitorCall → Option X) → see None ≡ None → (image : Image) (op place finish to : ℕ) (rest : List Entry) → see (Some (svc.End op)) ≡ None
    → Makes image op place (rows.End finish op) (edges.End op ∷ []) to rest [] → seen see rest ≡ []
end_seen see nothing image op place finish to rest none m =
    makes_seen see nothing image op place (rows.End finish op) (edges.End op ∷ []) to rest [] m
    ∙ append-nil _ ∙ ap (filter_map (λ placed. see placed.call)) m.made
    ∙ ap₂ (λ a b. cons_option a (cons_option b [])) nothing none

pub walk_path : (image : Image) (op : ℕ) (steps : List Step) (walk : Walk image.map op steps) (es : List Entry) → ExecutesWalk image op steps walk es → executed_path image.map op es ≡ path_of steps
walk_path image op steps walk es x =
    executed_edges image op [] walk.partial.from walk.front es walk.place x.rest x.executes
    ∙ ap (λ (xs : List Edge). path_of walk.front ++ xs) (makes_path image op walk.place (rows.End walk.end_address op) (edges.End op ∷ []) _ x.rest [] x.ends)
    ∙ sym (ap path_of walk.whole ∙ steps_path walk.front op)

pub walk_records : {X : Type 0} (see : Option MonitorCall → Option X) (g : Edge → Option X) → see None ≡ None → Agree see g
    → (image : Image) (op : ℕ) (steps : List Step) (walk : Walk image.map op steps) (es : List Entry) → see (Some (svc.End op)) ≡ None → g (edges.End op) ≡ None
    → ExecutesWalk image op steps walk es → seen see es ≡ filter_map g (path_of steps)
walk_records see g nothing agree image op steps walk es no_call no_edge x =
    executed_seen see g nothing agree image op [] walk.partial.from walk.front es walk.place x.rest x.executes
    ∙ ap (λ xs. filter_map g (path_of walk.front) ++ xs) (end_seen see nothing image op walk.place walk.end_address _ x.rest no_call x.ends) ∙ append-nil (filter_map g (path_of walk.front))
    ∙ sym (ap (filter_map g) (ap path_of walk.whole ∙ steps_path walk.front op) ∙ ended_records g op no_edge (path_of walk.front))

walk_returns : (image : Image) (op : ℕ) (steps : List Step) (walk : Walk image.map op steps) (es : List Entry) → ExecutesWalk image op steps walk es → returns_of_run es ≡ returns_of (path_of steps)
walk_returns image op steps walk es x = walk_records returned return_of refl returns_agree image op steps walk es refl refl x

pub walk_length : (image : Image) (op : ℕ) (steps : List Step) (walk : Walk image.map op steps) (es : List Entry) → ExecutesWalk image op steps walk es → length steps ≤ length es
walk_length image op steps walk es x =
    let front = executed_length image op [] walk.partial.from walk.front es walk.place x.rest x.executes in
    let end = makes_length image op walk.place (rows.End walk.end_address op) (edges.End op ∷ []) _ x.rest [] x.ends in
    let two : length (map placed_of x.ends.group) ≡ 2 = ap length x.ends.made in
    let all = ap length walk.whole in
    let one = length-append walk.front (moved (edges.End op) ∷ []) in
    omega arith

walk_cells : (image : Image) → IsLaid image → (op : ℕ) (steps : List Step) (walk : Walk image.map op steps) (es : List Entry) → ExecutesWalk image op steps walk es
    → PassesCells image.map [] walk.partial.from walk.front (seen (used image.cells) es)
walk_cells image l op steps walk es x =
    executed_cells image l op [] walk.partial.from walk.front es walk.place x.rest x.executes (end_seen (used image.cells) refl image op walk.place walk.end_address _ x.rest refl x.ends)

executes_walk : (image : Image) (op : ℕ) (steps : List Step) (walk : Walk image.map op steps) (es : List Entry) → Following image op [] walk.partial.from walk.front walk.place walk.end_address es
    → ExecutesWalk image op steps walk es
executes_walk image op steps walk es f = record { rest = f.rest; executes = f.executes; ends = f.ends }

-- ---- a window that parts from a walk

split_path : (front common others : List Step) (from to : ℕ) → front ≡ common ++ moved (edges.Ret from to) ∷ others → path_of front ≡ path_of common ++ edges.Ret from to ∷ path_of others
split_path front common others from to is = ap path_of is ∙ filter_map-append edge_of common (moved (edges.Ret from to) ∷ others)

parting_returns : (image : Image) (op from : ℕ) (front : List Step) (es : List Entry) → (p : Parting image op [] from front es)
    → returns_of_run es ≡ returns_of (path_of p.common) ++ p.run_to ∷ returns_of_run p.later
parting_returns image op from front es p =
    executed_seen returned return_of refl returns_agree image op [] from p.common es p.place p.rest p.executes
    ∙ ap (λ (xs : List ℕ). returns_of (path_of p.common) ++ xs)
    (makes_seen returned refl image op p.place (rows.Ret p.at) (p.shown ∷ []) p.run_to p.rest p.later p.makes
    ∙ ap (λ group. filter_map (λ placed. returned placed.call) group ++ returns_of_run p.later) p.makes.made)

parts_there : (image : Image) (op : ℕ) (path : List Edge) (es : List Entry) (steps : List Step) (walk : Walk image.map op steps) → path ≡ path_of steps
    → Parting image op [] walk.partial.from walk.front es → ExecutesUpToFirst image op walk.partial.from walk.front path es
parts_there image op path es steps walk is p =
    let last_edge = edges.End op ∷ [] in
    record {
      at = record {
        parting = record {
          common = path_of p.common;
          from = p.at;
          run_to = p.run_to;
          to = p.to;
          shown = p.shown;
          run_rest = executed_path image.map op p.later;
          rest = path_of p.others ++ last_edge;
          later = returns_of_run p.later;
          run_is = executed_edges image op [] walk.partial.from p.common es p.place p.rest p.executes
              ∙ ap (λ (xs : List Edge). path_of p.common ++ xs) (makes_path image op p.place (rows.Ret p.at) (p.shown ∷ []) p.run_to p.rest p.later p.makes);
          path_is = is ∙ ap path_of walk.whole ∙ steps_path walk.front op ∙ ap (λ xs. xs ++ last_edge) (split_path walk.front p.common p.others p.at p.to p.steps_are)
              ∙ append_assoc (path_of p.common) (edges.Ret p.at p.to ∷ path_of p.others) last_edge;
          returned = p.returned;
          returns_are = parting_returns image op walk.partial.from walk.front es p;
          matching = returns_moves p.common p.to p.matching;
          false_return = p.false_return;
        };
        first = all_returns_match image.map p.common walk.partial.from p.place (executed_leads image op [] walk.partial.from p.common es p.place p.rest p.executes);
      };
      common = p.common;
      path_is = refl;
      others = p.others;
      steps_are = p.steps_are;
      place = p.place;
      rest = p.rest;
      executes = p.executes;
      later = p.later;
      returns = p.makes;
    }

-- ---- lockstep

pub lockstep : Lockstep
lockstep image session begin_at setting bytes path accepts inputs writes n s body given reported steps walk is =
    let op = session.op in
    let es = window_of (opening_of image session begin_at) s (dev image (opening_of image session begin_at) inputs writes n) in
    let a = accepted image session begin_at setting bytes path accepts inputs writes n s body given reported in
    elim (outcome image op begin_at es path a steps walk is) [
      | follows f ↦
          let x = executes_walk image op steps walk es f in
          inl (record { executed = walk_path image op steps walk es x ∙ sym is; returns = walk_returns image op steps walk es x ∙ sym (ap returns_of is); executes = x })
      | parts p ↦ inr (parts_there image op path es steps walk is p)
    ]

-- ---- where the returns are equal

same_head : (x y : ℕ) (xs ys : List ℕ) → x ∷ xs ≡ y ∷ ys → x ≡ y
same_head x y xs ys h = cc

-- with equal returns they never part
never_part : (image : Image) (op from : ℕ) (front : List Step) (es : List Entry) → returns_of_run es ≡ returns_of (path_of front) → Parting image op [] from front es → ⊥
never_part image op from front es same p =
    let both = sym (parting_returns image op from front es p) ∙ same ∙ ap returns_of (split_path front p.common p.others p.at p.to p.steps_are)
    ∙ filter_map-append return_of (path_of p.common) (edges.Ret p.at p.to ∷ path_of p.others) in
    let tails = append_cancel_left (returns_of (path_of p.common)) (p.run_to ∷ returns_of_run p.later) (p.to ∷ returns_of (path_of p.others)) both in
    p.false_return (same_head p.run_to p.to (returns_of_run p.later) (returns_of (path_of p.others)) tails)

following : (image : Image) (op begin_at : ℕ) (window : List Entry) (path : List Edge) → IsAccepted image op begin_at window path
    → returns_of_run window ≡ returns_of path → (steps : List Step) (walk : Walk image.map op steps) → path ≡ path_of steps
    → Following image op [] walk.partial.from walk.front walk.place walk.end_address window
following image op begin_at es path a same steps walk is =
    elim (outcome image op begin_at es path a steps walk is) [
      | follows f ↦ f
      | parts p ↦
          absurd (never_part image op walk.partial.from walk.front es
          (same ∙ ap returns_of (is ∙ ap path_of walk.whole ∙ steps_path walk.front op) ∙ ended_records return_of op refl (path_of walk.front)) p)
    ]

pub same_path : SamePath
same_path image session begin_at setting bytes path accepts inputs writes n s body given reported same =
    let op = session.op in
    let o = opening_of image session begin_at in
    let run = dev image o inputs writes n in
    let es = window_of o s run in
    let a = accepted image session begin_at setting bytes path accepts inputs writes n s body given reported in
    let w = accepts.walked in
    let f = following image op begin_at es path a same w.steps w.walk w.path_is in (
      walk_path image op w.steps w.walk es (executes_walk image op w.steps w.walk es f) ∙ sym w.path_is,
      λ steps walk is.
          let x = executes_walk image op steps walk es (following image op begin_at es path a same steps walk is) in (
            x,
            subst (PassesCells image.map [] walk.partial.from walk.front) (sym (cells_used image (calls_before o s run) es)) (walk_cells image a.laid op steps walk es x),
          ),
      f.loads,
    )
