-- Lockstep: from one address on, a run executes the steps of a walk with the same records, up to the first return where they part.
use Rattle.std.proofs.Common.{◌≡◌, ◌≢◌, ℕ, ◌+◌, Bool, true, false, List, [], ◌∷◌, ◌++◌, Option, Some, refl, sym, ap, subst, ◌∙◌, inl, inr, append-nil, append_assoc}
use Rattle.std.specs.List.{filter_map}
use Rattle.std.proofs.lemmas.{Bool.cases_eq, List.append_cancel_left}
use Rattle.oat_journal.specs.{Regs, Edge, Row, after, next, IsIndirectTarget, Step, passed, moved, path_of, bit_of, bits_of, target_of, targets_of, Returns, RowGoes, Leads, Image, Run.Entry}
use Rattle.oat_journal.specs.{Window.recorded_bit, Window.bits_of_run, Window.recorded_target, Window.targets_of_run}
use Rattle.oat_verify.specs.{IsReturnSite, CutsNoGroup, IsLaid}
use Rattle.oat_attest.specs.{Headline.AllReadByLoad, Lockstep.IsReturn, Lockstep.Makes, Lockstep.Executes}
use Rattle.oat_attest.proofs.{Stretches.Runs, Stretches.moved_to, Places.AreCalled, Places.called_more, Places.goes_site, Places.goes_clear, Places.returns_site, RowRuns.Past, RowRuns.RowRuns}
use Rattle.oat_attest.proofs.{RowRuns.runs_row, Executing.bits_agree, Executing.targets_agree, Executing.makes_seen, Executing.step_seen, Executing.records_split}
use Rattle.oat_map.specs.declared.edge.Edge.TheVariants as edges
use Rattle.oat_map.specs.declared.row.Row.TheVariants as rows

-- ---- the outcome

-- the run executes the steps and then ends, and each use was read by its load
pub record Following (image : Image) (op : ℕ) (before : List Step) (t : ℕ) (steps : List Step) (place finish : ℕ) (es : List Entry) : Type 0 where
  pub rest : List Entry
  pub executes : Executes image op before t steps es place rest
  pub ends : Makes image op place (rows.End finish op) (edges.End op ∷ []) (after (rows.End finish op)) rest []
  pub loads : AllReadByLoad image es

-- up to a return it executes the steps, and there it goes elsewhere
pub record Parting (image : Image) (op : ℕ) (before : List Step) (t : ℕ) (steps : List Step) (es : List Entry) : Type 0 where
  pub common : List Step
  pub at : ℕ
  pub to : ℕ
  pub others : List Step
  pub steps_are : steps ≡ common ++ moved (edges.Ret at to) ∷ others
  pub place : ℕ
  pub rest : List Entry
  pub executes : Executes image op before t common es place rest
  pub run_to : ℕ
  pub shown : Edge
  pub later : List Entry
  pub makes : Makes image op place (rows.Ret at) (shown ∷ []) run_to rest later
  pub returned : IsReturn at run_to shown
  pub matching : Returns (before ++ common) to
  pub false_return : run_to ≢ to

pub data Outcome (image : Image) (op : ℕ) (before : List Step) (t : ℕ) (steps : List Step) (place finish : ℕ) (es : List Entry) : Type 0 where
  follows : Following image op before t steps place finish es → Outcome image op before t steps place finish es
  parts : Parting image op before t steps es → Outcome image op before t steps place finish es

-- each run from an address on with the records of these steps has an outcome
abbrev pub Outcomes : Image → ℕ → List Step → ℕ → List Step → ℕ → ℕ → Type 0
Outcomes image op before t steps place finish =
    (es : List Entry) (r : Regs) → Runs image.code op (moved_to r t) es
    → bits_of_run es ≡ bits_of (path_of steps) → targets_of_run es ≡ targets_of (path_of steps) → Outcome image op before t steps place finish es

-- ---- one step

-- a walk's step from the row that the run has come to, with what is known of the rest
pub record Facing (image : Image) (op : ℕ) (before : List Step) (t : ℕ) (row : Row) (step : Step) (to : ℕ) (steps : List Step) (place finish : ℕ) (es : List Entry) : Type 0 where
  pub goes : RowGoes image.map row before step to
  pub bits : bits_of_run es ≡ bits_of (path_of (step ∷ steps))
  pub targets : targets_of_run es ≡ targets_of (path_of (step ∷ steps))
  pub on : Outcomes image op (before ++ step ∷ []) to steps place finish

-- the records that are left are those of the steps that are left
left : {X : Type 0} (g : Edge → Option X) (step : Step) (steps : List Step) (all rest : List X)
    → all ≡ filter_map g (path_of (step ∷ [])) ++ rest → all ≡ filter_map g (path_of (step ∷ steps)) → rest ≡ filter_map g (path_of steps)
left g step steps all rest one two =
    append_cancel_left (filter_map g (path_of (step ∷ []))) rest (filter_map g (path_of steps)) (sym one ∙ two ∙ records_split g step steps)

-- A step that the run took, with the outcome of the rest.
advance : (image : Image) (op : ℕ) (before : List Step) (t : ℕ) (row : Row) (step s : Step) (to went : ℕ) (steps : List Step) (place finish : ℕ) (es : List Entry)
    → Facing image op before t row step to steps place finish es → step ≡ s → to ≡ went → Past image op t row (path_of (s ∷ [])) went es
    → Outcome image op before t (step ∷ steps) place finish es
advance image op before t row step s to went steps place finish es f same there gone =
    let p : Past image op t row (path_of (step ∷ [])) to es =
    subst (λ (x : Step). Past image op t row (path_of (x ∷ [])) to es) (sym same) (subst (λ (x : ℕ). Past image op t row (path_of (s ∷ [])) x es) (sym there) gone) in
    elim (f.on p.rest p.regs p.runs
    (left bit_of step steps (bits_of_run es) (bits_of_run p.rest) (step_seen recorded_bit bit_of refl bits_agree image op before t row step to es p.rest f.goes p.makes) f.bits)
    (left target_of step steps (targets_of_run es) (targets_of_run p.rest) (step_seen recorded_target target_of refl targets_agree image op before t row step to es p.rest f.goes p.makes) f.targets)) [
      | follows g ↦ follows (record { rest = g.rest; executes = (row, to, p.rest, f.goes, p.makes, g.executes); ends = g.ends; loads = p.loads g.loads })
      | parts g ↦
          parts (record {
            common = step ∷ g.common;
            at = g.at;
            to = g.to;
            others = g.others;
            steps_are = ap (λ (xs : List Step). step ∷ xs) g.steps_are;
            place = g.place;
            rest = g.rest;
            executes = (row, to, p.rest, f.goes, p.makes, g.executes);
            run_to = g.run_to;
            shown = g.shown;
            later = g.later;
            makes = g.makes;
            returned = g.returned;
            matching = subst (λ (xs : List Step). Returns xs g.to) (append_assoc before (step ∷ []) g.common) g.matching;
            false_return = g.false_return;
          })
    ]

-- a false return
part : (image : Image) (op : ℕ) (before : List Step) (t at to : ℕ) (step : Step) (steps : List Step) (place finish : ℕ) (es : List Entry) (run_to : ℕ) (shown : Edge)
    → Facing image op before t (rows.Ret at) step to steps place finish es → Past image op t (rows.Ret at) (shown ∷ []) run_to es → IsReturn at run_to shown → run_to ≢ to
    → Outcome image op before t (step ∷ steps) place finish es
part image op before t at to step steps place finish es run_to shown f p returned differ =
    parts (record {
      common = [];
      at = at;
      to = to;
      others = steps;
      steps_are = ap (λ (s : Step). s ∷ steps) f.goes.0;
      place = t;
      rest = es;
      executes = (refl, refl);
      run_to = run_to;
      shown = shown;
      later = p.rest;
      makes = p.makes;
      returned = returned;
      matching = subst (λ (xs : List Step). Returns xs to) (sym (append-nil before)) f.goes.1;
      false_return = differ;
    })

-- ---- each row

heads : {X : Type 0} (x y : X) (xs ys : List X) → x ∷ xs ≡ y ∷ ys → x ≡ y
heads x y xs ys h = cc

-- a branch that the run takes otherwise than the walk records another bit
other_way : (image : Image) (op : ℕ) (before : List Step) (t at taken other : ℕ) (step : Step) (steps : List Step) (es : List Entry) (ran walked : Bool) (went to : ℕ)
    → step ≡ moved (edges.Branch at walked to) → bits_of_run es ≡ bits_of (path_of (step ∷ steps))
    → RowGoes image.map (rows.Branch at taken other) before (moved (edges.Branch at ran went)) went
    → Past image op t (rows.Branch at taken other) (edges.Branch at ran went ∷ []) went es → ran ≡ walked
other_way image op before t at taken other step steps es ran walked went to is bits goes p =
    heads ran walked (bits_of_run p.rest) (bits_of (path_of steps))
    (sym (step_seen recorded_bit bit_of refl bits_agree image op before t (rows.Branch at taken other) (moved (edges.Branch at ran went)) went es p.rest goes p.makes)
    ∙ bits ∙ ap (λ (s : Step). bits_of (path_of (s ∷ steps))) is)

turn_branch : (image : Image) (op : ℕ) (before : List Step) (t at taken other : ℕ) (step : Step) (to : ℕ) (steps : List Step) (place finish : ℕ) (es : List Entry)
    → (f : Facing image op before t (rows.Branch at taken other) step to steps place finish es) → RowRuns image op t (rows.Branch at taken other) es
    → RowGoes image.map (rows.Branch at taken other) before step to → Outcome image op before t (step ∷ steps) place finish es
turn_branch image op before t at taken other step to steps place finish es f (inl p) (inl g) =
    advance image op before t (rows.Branch at taken other) step (moved (edges.Branch at true taken)) to taken steps place finish es f g.0 g.1 p
turn_branch image op before t at taken other step to steps place finish es f (inr p) (inr g) =
    advance image op before t (rows.Branch at taken other) step (moved (edges.Branch at false other)) to other steps place finish es f g.0 g.1 p
turn_branch image op before t at taken other step to steps place finish es f (inl p) (inr g) =
    let both : true ≡ false = other_way image op before t at taken other step steps es true false taken other g.0 f.bits (inl (refl, refl)) p in
    absurd (cc)
turn_branch image op before t at taken other step to steps place finish es f (inr p) (inl g) =
    let both : false ≡ true = other_way image op before t at taken other step steps es false true other taken g.0 f.bits (inr (refl, refl)) p in
    absurd (cc)

-- the run and the walk make an indirect call to one place
same_target : (image : Image) (op t at params : ℕ) (step : Step) (steps : List Step) (es : List Entry) (to went : ℕ) (shown : List Edge) → step ≡ moved (edges.ICall at to)
    → targets_of_run es ≡ targets_of (path_of (step ∷ steps)) → Past image op t (rows.ICall at params) shown went es → went ≡ to
same_target image op t at params step steps es to went shown is targets p =
    heads went to (targets_of_run p.rest) (targets_of (path_of steps))
    (sym (makes_seen recorded_target refl image op t (rows.ICall at params) shown went es p.rest p.makes ∙ ap (λ group. filter_map (λ placed. recorded_target placed.call) group ++ targets_of_run p.rest) p.makes.made)
    ∙ targets ∙ ap (λ (s : Step). targets_of (path_of (s ∷ steps))) is)

turn_icall : (image : Image) (op : ℕ) (before : List Step) (t at params : ℕ) (step : Step) (to : ℕ) (steps : List Step) (place finish : ℕ) (es : List Entry)
    → Facing image op before t (rows.ICall at params) step to steps place finish es → RowRuns image op t (rows.ICall at params) es
    → Outcome image op before t (step ∷ steps) place finish es
turn_icall image op before t at params step to steps place finish es f (went, inl (target, p)) =
    let same = same_target image op t at params step steps es to went (edges.ICall at went ∷ []) f.goes.0 f.targets p in
    advance image op before t (rows.ICall at params) step (moved (edges.ICall at went)) to went steps place finish es f
    (f.goes.0 ∙ ap (λ (x : ℕ). moved (edges.ICall at x)) (sym same)) (sym same) p
turn_icall image op before t at params step to steps place finish es f (went, inr (no_target, p)) =
    let same = same_target image op t at params step steps es to went (edges.Stray (at + 4) went ∷ []) f.goes.0 f.targets p in
    absurd (no_target (subst (IsIndirectTarget image.map.functions params) (sym same) f.goes.1))

turn_ret : (image : Image) (op : ℕ) (before : List Step) (t at : ℕ) (step : Step) (to : ℕ) (steps : List Step) (place finish : ℕ) (es : List Entry) → AreCalled image.map.rows before
    → Facing image op before t (rows.Ret at) step to steps place finish es → RowRuns image op t (rows.Ret at) es → Outcome image op before t (step ∷ steps) place finish es
turn_ret image op before t at step to steps place finish es called f (went, inl (site, p)) =
    elim (cases_eq went to) [
      | inl same ↦
          advance image op before t (rows.Ret at) step (moved (edges.Ret at went)) to went steps place finish es f
          (f.goes.0 ∙ ap (λ (x : ℕ). moved (edges.Ret at x)) (sym same)) (sym same) p
      | inr differ ↦ part image op before t at to step steps place finish es went (edges.Ret at went) f p (inl refl) differ
    ]
turn_ret image op before t at step to steps place finish es called f (went, inr (no_site, p)) =
    part image op before t at to step steps place finish es went (edges.Stray (at + 4) went) f p (inr refl)
    (λ same. no_site (subst (IsReturnSite image.map.rows) (sym same) (returns_site image.map.rows before to called f.goes.1)))

turn : (image : Image) (op : ℕ) (before : List Step) (t : ℕ) (row : Row) (step : Step) (to : ℕ) (steps : List Step) (place finish : ℕ) (es : List Entry) → AreCalled image.map.rows before
    → Facing image op before t row step to steps place finish es → RowRuns image op t row es → Outcome image op before t (step ∷ steps) place finish es
turn image op before t (rows.Jump at there) step to steps place finish es called f p =
    advance image op before t (rows.Jump at there) step (moved (edges.Jump at there)) to there steps place finish es f f.goes.0 f.goes.1 p
turn image op before t (rows.Branch at taken other) step to steps place finish es called f p = turn_branch image op before t at taken other step to steps place finish es f p f.goes
turn image op before t (rows.Call at there) step to steps place finish es called f p =
    advance image op before t (rows.Call at there) step (moved (edges.Call at there)) to there steps place finish es f f.goes.0 f.goes.1 p
turn image op before t (rows.ICall at params) step to steps place finish es called f p = turn_icall image op before t at params step to steps place finish es f p
turn image op before t (rows.Ret at) step to steps place finish es called f p = turn_ret image op before t at step to steps place finish es called f p
turn image op before t (rows.Begin at begun) step to steps place finish es called f p = absurd f.goes
turn image op before t (rows.End at ended) step to steps place finish es called f p = absurd f.goes
turn image op before t (rows.UseCell at cell) step to steps place finish es called f p =
    advance image op before t (rows.UseCell at cell) step passed to _ steps place finish es f f.goes.0 f.goes.1 p
turn image op before t (rows.DefCell at cell) step to steps place finish es called f p =
    advance image op before t (rows.DefCell at cell) step passed to _ steps place finish es f f.goes.0 f.goes.1 p
turn image op before t (rows.UseAt at cell len) step to steps place finish es called f p =
    advance image op before t (rows.UseAt at cell len) step passed to _ steps place finish es f f.goes.0 f.goes.1 p
turn image op before t (rows.DefAt at cell len) step to steps place finish es called f p =
    advance image op before t (rows.DefAt at cell len) step passed to _ steps place finish es f f.goes.0 f.goes.1 p
turn image op before t (rows.Check at) step to steps place finish es called f p =
    advance image op before t (rows.Check at) step passed to _ steps place finish es f f.goes.0 f.goes.1 p

-- ---- all rows

-- From a clear address on, a run with the records of a trail to the operation's end follows it, or they part.
pub sync : (image : Image) → IsLaid image → (op place finish : ℕ) → next image.map.rows place ≡ Some (rows.End finish op)
    → (steps before : List Step) (t : ℕ) → AreCalled image.map.rows before → CutsNoGroup image.map.rows t → Leads image.map before t steps place
    → Outcomes image op before t steps place finish
sync image laid op place finish at_end [] before t called clear leads es r runs bits targets =
    let here : next image.map.rows t ≡ Some (rows.End finish op) = ap (next image.map.rows) leads ∙ at_end in
    let over = runs_row image laid op t (rows.End finish op) clear here es r runs in
    follows (record {
      rest = es;
      executes = (leads, refl);
      ends = subst (λ (p : ℕ). Makes image op p (rows.End finish op) (edges.End op ∷ []) (after (rows.End finish op)) es []) leads over.makes;
      loads = over.loads;
    })
sync image laid op place finish at_end (step ∷ steps) before t called clear (middle, (row, at_row, goes), leads) es r runs bits targets =
    let has = (laid.next_is t row at_row).has in
    turn image op before t row step middle steps place finish es called
    (record {
      goes = goes;
      bits = bits;
      targets = targets;
      on =
          sync image laid op place finish at_end steps (before ++ step ∷ []) middle
          (called_more image.map.rows before step called (goes_site image.map row before step middle has goes))
          (goes_clear image laid row before step middle has called goes) leads;
    })
    (runs_row image laid op t row clear at_row es r runs)
