-- What follows of a window that executes steps: its path, its records, where it leads, the cells that it uses.
use Rattle.std.proofs.Common.{◌≡◌, ℕ, ◌+◌, ◌≤◌, Bool, true, false, not, List, [], ◌∷◌, ◌++◌, length, map, Contains, Option, Some, None, refl, sym, ap, ap₂, subst, ◌∙◌, inl, inr, arith, append_assoc}
use Rattle.std.proofs.Common.{length-append}
use Rattle.std.specs.{List.slice_get, List.filter_map, List.cons_option, Option.option_map}
use Rattle.std.proofs.lemmas.{Bool.ne_eqb, List.length-map, List.Elements.filter_map-append}
use Rattle.oat_journal.specs.{Edge, Map, Row, Step, moved, edge_of as step_edge, path_of, bit_of, bits_of, target_of, targets_of, return_of, returns_of, RowGoes, Leads, Image, MonitorCall, Run.Entry}
use Rattle.oat_journal.specs.{is_transfer, Window.made_call, Window.shown_edge, Window.executed_path, Window.returned, Window.recorded_bit, Window.recorded_target}
use Rattle.oat_verify.specs.{IsLaid}
use Rattle.oat_attest.specs.Lockstep.{Placed, placed_of, AreQuiet, IsGroupRun, Makes, Executes, AreUsedAt, PassesCells}
use Rattle.oat_map.specs.declared.edge.Edge.TheVariants as edges
use Rattle.oat_map.specs.declared.row.Row.TheVariants as rows
use Rattle.oat_journal.specs.svc as svc

-- ---- what is seen of instructions

-- what is seen of the calls of instructions
abbrev pub seen : {X : Type 0} → (Option MonitorCall → Option X) → List Entry → List X
seen see es = filter_map (λ (e : Entry). see (made_call e)) es

abbrev pub seen_placed : {X : Type 0} → (Option MonitorCall → Option X) → List Placed → List X
seen_placed see group = filter_map (λ (p : Placed). see p.call) group

seen_group : {X : Type 0} (see : Option MonitorCall → Option X) (es : List Entry) → seen see es ≡ seen_placed see (map placed_of es)
seen_group see [] = refl
seen_group see (e ∷ es) = ap (cons_option (see (made_call e))) (seen_group see es)

seen_quiet : {X : Type 0} (see : Option MonitorCall → Option X) → see None ≡ None → (es : List Entry) → AreQuiet es → seen see es ≡ []
seen_quiet see nothing [] quiet = refl
seen_quiet see nothing (e ∷ es) quiet =
    ap (λ o. cons_option o (seen see es)) (ap see quiet.1 ∙ nothing) ∙ seen_quiet see nothing es quiet.2

quiet_edge : (flow : Map) (op : ℕ) (e : Entry) → is_transfer e.inst ≡ false → made_call e ≡ None → shown_edge flow op e ≡ None
quiet_edge flow op e plain_ none = rw (plain_, none) refl

path_quiet : (flow : Map) (op : ℕ) (es : List Entry) → AreQuiet es → executed_path flow op es ≡ []
path_quiet flow op [] quiet = refl
path_quiet flow op (e ∷ es) quiet =
    ap (λ (o : Option Edge). cons_option o (executed_path flow op es)) (quiet_edge flow op e quiet.0 quiet.1) ∙ path_quiet flow op es quiet.2

-- ---- what a group shows

pub makes_path : (image : Image) (op from : ℕ) (row : Row) (shown : List Edge) (to : ℕ) (es rest : List Entry) → Makes image op from row shown to es rest
    → executed_path image.map op es ≡ shown ++ executed_path image.map op rest
makes_path image op from row shown to es rest m =
    let path = executed_path image.map op in
    ap path m.whole ∙ filter_map-append (shown_edge image.map op) m.way (m.group ++ rest)
    ∙ ap₂ (λ (xs ys : List Edge). xs ++ ys) (path_quiet image.map op m.way m.quiet)
    (filter_map-append (shown_edge image.map op) m.group rest ∙ ap (λ (xs : List Edge). xs ++ path rest) m.shows)

pub makes_seen : {X : Type 0} (see : Option MonitorCall → Option X) → see None ≡ None
    → (image : Image) (op from : ℕ) (row : Row) (shown : List Edge) (to : ℕ) (es rest : List Entry) → (m : Makes image op from row shown to es rest)
    → seen see es ≡ seen_placed see (map placed_of m.group) ++ seen see rest
makes_seen see nothing image op from row shown to es rest m =
    ap (seen see) m.whole ∙ filter_map-append (λ (e : Entry). see (made_call e)) m.way (m.group ++ rest)
    ∙ ap₂ (λ xs ys. xs ++ ys) (seen_quiet see nothing m.way m.quiet)
    (filter_map-append (λ (e : Entry). see (made_call e)) m.group rest ∙ ap (λ xs. xs ++ seen see rest) (seen_group see m.group))

-- ---- what a group records

-- the records of a group are those of the step that it makes
pub record Records (step : Step) (group : List Placed) : Type 0 where
  pub bits : seen_placed recorded_bit group ≡ bits_of (path_of (step ∷ []))
  pub targets : seen_placed recorded_target group ≡ targets_of (path_of (step ∷ []))
  pub returns : seen_placed returned group ≡ returns_of (path_of (step ∷ []))
  pub some : 1 ≤ length group

records_by : (step s : Step) (group g : List Placed) → step ≡ s → group ≡ g → Records s g → Records step group
records_by step s group g same is r =
    subst (λ (x : Step). Records x group) (sym same) (subst (λ (y : List Placed). Records s y) (sym is) r)

-- the group at a step that is known
made_for : (row : Row) (step s : Step) (to : ℕ) (group : List Placed) → step ≡ s → IsGroupRun row (path_of (step ∷ [])) to group → IsGroupRun row (path_of (s ∷ [])) to group
made_for row step s to group same made = subst (λ (x : Step). IsGroupRun row (path_of (x ∷ [])) to group) same made

pub group_records : (flow : Map) (row : Row) (before : List Step) (step : Step) (to : ℕ) (group : List Placed) → RowGoes flow row before step to
    → IsGroupRun row (path_of (step ∷ [])) to group → Records step group
group_records flow (rows.Jump at place) before step to group goes made =
    records_by step _ group _ goes.0 made (record { bits = refl; targets = refl; returns = refl; some = omega arith })
group_records flow (rows.Branch at taken other) before step to group (inl goes) made =
    let m = made_for (rows.Branch at taken other) step (moved (edges.Branch at true taken)) to group goes.0 made in
    records_by step _ group _ goes.0 m.2 (record { bits = ap (λ (b : Bool). not b ∷ []) (ne_eqb m.0 0 m.1); targets = refl; returns = refl; some = omega arith })
group_records flow (rows.Branch at taken other) before step to group (inr goes) made =
    records_by step _ group _ goes.0 (made_for (rows.Branch at taken other) step (moved (edges.Branch at false other)) to group goes.0 made)
    (record { bits = refl; targets = refl; returns = refl; some = omega arith })
group_records flow (rows.Call at place) before step to group goes made =
    records_by step _ group _ goes.0 made (record { bits = refl; targets = refl; returns = refl; some = omega arith })
group_records flow (rows.ICall at params) before step to group goes made =
    records_by step _ group _ goes.0 made (record { bits = refl; targets = refl; returns = refl; some = omega arith })
group_records flow (rows.Ret at) before step to group goes made =
    records_by step _ group _ goes.0 made (record { bits = refl; targets = refl; returns = refl; some = omega arith })
group_records flow (rows.Begin at op) before step to group goes made = absurd goes
group_records flow (rows.End at op) before step to group goes made = absurd goes
group_records flow (rows.UseCell at cell) before step to group goes made =
    records_by step _ group _ goes.0 made.3 (record { bits = refl; targets = refl; returns = refl; some = omega arith })
group_records flow (rows.DefCell at cell) before step to group goes made =
    records_by step _ group _ goes.0 made.3 (record { bits = refl; targets = refl; returns = refl; some = omega arith })
group_records flow (rows.UseAt at first len) before step to group goes made =
    records_by step _ group _ goes.0 made.3 (record { bits = refl; targets = refl; returns = refl; some = omega arith })
group_records flow (rows.DefAt at first len) before step to group goes made =
    records_by step _ group _ goes.0 made.3 (record { bits = refl; targets = refl; returns = refl; some = omega arith })
group_records flow (rows.Check at) before step to group goes made =
    records_by step _ group _ goes.0 made (record { bits = refl; targets = refl; returns = refl; some = omega arith })

-- ---- a list of steps

cons_split : {X : Type 0} (o : Option X) (xs : List X) → cons_option o xs ≡ cons_option o [] ++ xs
cons_split None xs = refl
cons_split (Some x) xs = refl

pub path_split : (step : Step) (steps : List Step) → path_of (step ∷ steps) ≡ path_of (step ∷ []) ++ path_of steps
path_split step steps = cons_split (step_edge step) (path_of steps)

pub records_split : {X : Type 0} (g : Edge → Option X) (step : Step) (steps : List Step)
    → filter_map g (path_of (step ∷ steps)) ≡ filter_map g (path_of (step ∷ [])) ++ filter_map g (path_of steps)
records_split g step steps = ap (filter_map g) (path_split step steps) ∙ filter_map-append g (path_of (step ∷ [])) (path_of steps)

-- what the calls of each step's group show is what its edge records
abbrev pub Agree : {X : Type 0} → (Option MonitorCall → Option X) → (Edge → Option X) → Type 0
Agree see g = (flow : Map) (row : Row) (before : List Step) (step : Step) (to : ℕ) (group : List Placed) → RowGoes flow row before step to
    → IsGroupRun row (path_of (step ∷ [])) to group → seen_placed see group ≡ filter_map g (path_of (step ∷ []))

pub bits_agree : Agree recorded_bit bit_of
bits_agree flow row before step to group goes made = (group_records flow row before step to group goes made).bits

pub targets_agree : Agree recorded_target target_of
targets_agree flow row before step to group goes made = (group_records flow row before step to group goes made).targets

pub returns_agree : Agree returned return_of
returns_agree flow row before step to group goes made = (group_records flow row before step to group goes made).returns

-- the records of one step
pub step_seen : {X : Type 0} (see : Option MonitorCall → Option X) (g : Edge → Option X) → see None ≡ None → Agree see g
    → (image : Image) (op : ℕ) (before : List Step) (from : ℕ) (row : Row) (step : Step) (to : ℕ) (es rest : List Entry) → RowGoes image.map row before step to
    → Makes image op from row (path_of (step ∷ [])) to es rest → seen see es ≡ filter_map g (path_of (step ∷ [])) ++ seen see rest
step_seen see g nothing agree image op before from row step to es rest goes m =
    makes_seen see nothing image op from row (path_of (step ∷ [])) to es rest m
    ∙ ap (λ xs. xs ++ seen see rest) (agree image.map row before step to (map placed_of m.group) goes m.made)

-- The records of a window that executes steps are those of the steps, and of what is left of it.
pub executed_seen : {X : Type 0} (see : Option MonitorCall → Option X) (g : Edge → Option X) → see None ≡ None → Agree see g
    → (image : Image) (op : ℕ) (before : List Step) (from : ℕ) (steps : List Step) (es : List Entry) (place : ℕ) (rest : List Entry)
    → Executes image op before from steps es place rest → seen see es ≡ filter_map g (path_of steps) ++ seen see rest
executed_seen see g nothing agree image op before from [] es place rest x = ap (seen see) x.1
executed_seen see g nothing agree image op before from (step ∷ steps) es place rest (row, to, others, goes, m, on) =
    step_seen see g nothing agree image op before from row step to es others goes m
    ∙ ap (λ xs. filter_map g (path_of (step ∷ [])) ++ xs) (executed_seen see g nothing agree image op (before ++ step ∷ []) to steps others place rest on)
    ∙ sym (append_assoc (filter_map g (path_of (step ∷ []))) (filter_map g (path_of steps)) (seen see rest))
    ∙ ap (λ xs. xs ++ seen see rest) (sym (records_split g step steps))

-- and so is its path
pub executed_edges : (image : Image) (op : ℕ) (before : List Step) (from : ℕ) (steps : List Step) (es : List Entry) (place : ℕ) (rest : List Entry)
    → Executes image op before from steps es place rest → executed_path image.map op es ≡ path_of steps ++ executed_path image.map op rest
executed_edges image op before from [] es place rest x = ap (executed_path image.map op) x.1
executed_edges image op before from (step ∷ steps) es place rest (row, to, others, goes, m, on) =
    makes_path image op from row (path_of (step ∷ [])) to es others m
    ∙ ap (λ (xs : List Edge). path_of (step ∷ []) ++ xs) (executed_edges image op (before ++ step ∷ []) to steps others place rest on)
    ∙ sym (append_assoc (path_of (step ∷ [])) (path_of steps) (executed_path image.map op rest))
    ∙ ap (λ (xs : List Edge). xs ++ executed_path image.map op rest) (sym (path_split step steps))

-- the steps lead where the run comes
pub executed_leads : (image : Image) (op : ℕ) (before : List Step) (from : ℕ) (steps : List Step) (es : List Entry) (place : ℕ) (rest : List Entry)
    → Executes image op before from steps es place rest → Leads image.map before from steps place
executed_leads image op before from [] es place rest x = x.0
executed_leads image op before from (step ∷ steps) es place rest (row, to, others, goes, m, on) =
    (to, (row, m.at_row, goes), executed_leads image op (before ++ step ∷ []) to steps others place rest on)

pub makes_length : (image : Image) (op from : ℕ) (row : Row) (shown : List Edge) (to : ℕ) (es rest : List Entry) → (m : Makes image op from row shown to es rest)
    → length (map placed_of m.group) + length rest ≤ length es
makes_length image op from row shown to es rest m =
    let whole = ap length m.whole in
    let one = length-append m.way (m.group ++ rest) in
    let two = length-append m.group rest in
    let three = length-map m.group placed_of in
    omega arith

-- and there are no more of them than instructions
pub executed_length : (image : Image) (op : ℕ) (before : List Step) (from : ℕ) (steps : List Step) (es : List Entry) (place : ℕ) (rest : List Entry)
    → Executes image op before from steps es place rest → length steps + length rest ≤ length es
executed_length image op before from [] es place rest x = let same = ap length x.1 in omega arith
executed_length image op before from (step ∷ steps) es place rest (row, to, others, goes, m, on) =
    let later = executed_length image op (before ++ step ∷ []) to steps others place rest on in
    let here = makes_length image op from row (path_of (step ∷ [])) to es others m in
    let some = (group_records image.map row before step to (map placed_of m.group) goes m.made).some in
    omega arith

-- ---- the cells of uses

-- the cell that a call uses; a number that is no cell is none
abbrev pub used : List ℕ → Option MonitorCall → Option ℕ
used cells (Some (svc.Use cell value)) = option_map (λ index. cell) (slice_get cells cell)
used cells _ = None

cells_by : (image : Image) (row : Row) (group g : List Placed) → group ≡ g → AreUsedAt row (seen_placed (used image.cells) g) → AreUsedAt row (seen_placed (used image.cells) group)
cells_by image row group g is u = subst (λ (x : List Placed). AreUsedAt row (seen_placed (used image.cells) x)) (sym is) u

group_cells : (image : Image) → IsLaid image → (row : Row) (before : List Step) (step : Step) (to : ℕ) (group : List Placed) → Contains image.map.rows row
    → RowGoes image.map row before step to → IsGroupRun row (path_of (step ∷ [])) to group → AreUsedAt row (seen_placed (used image.cells) group)
group_cells image laid (rows.Jump at place) before step to group has goes made = cells_by image (rows.Jump at place) group _ made refl
group_cells image laid (rows.Branch at taken other) before step to group has (inl goes) made =
    cells_by image (rows.Branch at taken other) group _ (made_for (rows.Branch at taken other) step (moved (edges.Branch at true taken)) to group goes.0 made).2 refl
group_cells image laid (rows.Branch at taken other) before step to group has (inr goes) made =
    cells_by image (rows.Branch at taken other) group _ (made_for (rows.Branch at taken other) step (moved (edges.Branch at false other)) to group goes.0 made) refl
group_cells image laid (rows.Call at place) before step to group has goes made = cells_by image (rows.Call at place) group _ made refl
group_cells image laid (rows.ICall at params) before step to group has goes made = cells_by image (rows.ICall at params) group _ made refl
group_cells image laid (rows.Ret at) before step to group has goes made = cells_by image (rows.Ret at) group _ made refl
group_cells image laid (rows.Begin at op) before step to group has goes made = absurd goes
group_cells image laid (rows.End at op) before step to group has goes made = absurd goes
group_cells image laid (rows.UseCell at cell) before step to group has goes made =
    let (index, cell_is, (moves, load, move, call)) = laid.group (rows.UseCell at cell) has in
    let (own, value, named, is) = made in
    let there : slice_get image.cells own ≡ Some index = ap (slice_get image.cells) named ∙ cell_is in
    (own, named, ap (seen_placed (used image.cells)) is ∙ ap (λ (o : Option ℕ). cons_option (option_map (λ i. own) o) []) there)
group_cells image laid (rows.DefCell at cell) before step to group has goes made = cells_by image (rows.DefCell at cell) group _ made.3 refl
group_cells image laid (rows.UseAt at first len) before step to group has goes made =
    let (index, elements, stands) = laid.group (rows.UseAt at first len) has in
    let (own, value, named, is) = made in
    let there : slice_get image.cells own ≡ Some (index + named.0) = ap (slice_get image.cells) named.2 ∙ elements.consecutive named.0 named.1 in
    (own, named, ap (seen_placed (used image.cells)) is ∙ ap (λ (o : Option ℕ). cons_option (option_map (λ i. own) o) []) there)
group_cells image laid (rows.DefAt at first len) before step to group has goes made = cells_by image (rows.DefAt at first len) group _ made.3 refl
group_cells image laid (rows.Check at) before step to group has goes made = cells_by image (rows.Check at) group _ made refl

-- The cells that a window uses are those of the rows that its steps pass.
pub executed_cells : (image : Image) → IsLaid image → (op : ℕ) (before : List Step) (from : ℕ) (steps : List Step) (es : List Entry) (place : ℕ) (rest : List Entry)
    → Executes image op before from steps es place rest → seen (used image.cells) rest ≡ [] → PassesCells image.map before from steps (seen (used image.cells) es)
executed_cells image laid op before from [] es place rest x none = ap (seen (used image.cells)) x.1 ∙ none
executed_cells image laid op before from (step ∷ steps) es place rest (row, to, others, goes, m, on) none = (
  row,
  m.at_row,
  to,
  goes,
  seen_placed (used image.cells) (map placed_of m.group),
  seen (used image.cells) others,
  group_cells image laid row before step to (map placed_of m.group) (laid.next_is from row m.at_row).has goes m.made,
  executed_cells image laid op (before ++ step ∷ []) to steps others place rest on none,
  makes_seen (used image.cells) refl image op from row (path_of (step ∷ [])) to es others m,
)
