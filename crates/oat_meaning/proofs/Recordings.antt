-- What is recorded of a list of events: its outputs, and of the calls of the operation their edges and loads, one call behind the other.
use Rattle.std.proofs.Common.{◌≡◌, ◌+◌, ℕ, Bool, true, false, cond, eqb, ◌&&◌, ◌||◌, List, [], ◌∷◌, ◌++◌, length, map, Option, Some, None, refl, sym, ap, subst, ◌∙◌, append_assoc, append-nil}
use Rattle.std.specs.{Prelude.is_some, List.cons_option, List.filter_map, List.fold}
use Rattle.std.proofs.lemmas.{List.length-append, List.map-append, List.Elements.filter_map-append}
use Rattle.oat_check.specs.{Program, CriticalLoad, SourceEdge, End, Cut, cut_up, taken_up, takes_up, SourceEvent, takes, enters, leaves, loads, stores, outputs, is_entered, is_left, edge_taken}
use Rattle.oat_check.specs.{load_in, outputs_of, Naming.written_edge, Steps.LineEdge, Steps.finishes, Shown.written_load}
use Rattle.oat_meaning.specs.Recording.{Recorded, completed, nothing_recorded, when_entered, when_left, edge_added, event_added, events_added, load_added}
use Rattle.oat_meaning.proofs.CallItems.{Events, FromCalls, from_calls_ended, from_calls_more, from_no_calls, opened}

-- ---- outputs

edge_keeps_outputs : (r : Recorded) (edge : SourceEdge) (b : Bool) → (cond b (record r { edges = r.edges ++ edge ∷ [] }) r).outputs ≡ r.outputs
edge_keeps_outputs r edge true = refl
edge_keeps_outputs r edge false = refl

leave_keeps_outputs : (r : Recorded) (b : Bool) → (cond b (completed r) r).outputs ≡ r.outputs
leave_keeps_outputs r true = refl
leave_keeps_outputs r false = refl

load_keeps_outputs : (r : Recorded) (load : CriticalLoad) (b : Bool) → (cond b (record r { loads = r.loads ++ load ∷ [] }) r).outputs ≡ r.outputs
load_keeps_outputs r load true = refl
load_keeps_outputs r load false = refl

pub outputs_recorded : (p : Program) (es : Events) (r : Recorded) → (events_added p r es).outputs ≡ r.outputs ++ outputs_of es
outputs_recorded p [] r = sym (append-nil r.outputs)
outputs_recorded p (takes edge ∷ es) r =
    outputs_recorded p es (edge_added r (written_edge p edge)) ∙ ap (λ os. os ++ outputs_of es) (edge_keeps_outputs r (written_edge p edge) r.inside)
outputs_recorded p (enters op ∷ es) r = outputs_recorded p es (when_entered r op)
outputs_recorded p (leaves op ∷ es) r = outputs_recorded p es (when_left r op) ∙ ap (λ os. os ++ outputs_of es) (leave_keeps_outputs r (r.inside && eqb op r.op))
outputs_recorded p (loads cell value ∷ es) r =
    outputs_recorded p es (load_added r cell value) ∙ ap (λ os. os ++ outputs_of es) (load_keeps_outputs r _ r.inside)
outputs_recorded p (stores cell value ∷ es) r = outputs_recorded p es r
outputs_recorded p (outputs value ∷ es) r = outputs_recorded p es (record r { outputs = r.outputs ++ value ∷ [] }) ∙ append_assoc r.outputs (value ∷ []) (outputs_of es)

-- ---- calls of the operation

module _ (p : Program) (op : ℕ) where
  abbrev pub edges_in : Events → List SourceEdge
  edges_in es = map (written_edge p) (filter_map (edge_taken finishes op) es)

  abbrev pub loads_in : Events → List CriticalLoad
  loads_in es = map written_load (filter_map load_in es)

  pub edges_append : (xs ys : Events) → edges_in (xs ++ ys) ≡ edges_in xs ++ edges_in ys
  edges_append xs ys = ap (map (written_edge p)) (filter_map-append (edge_taken finishes op) xs ys) ∙ map-append (written_edge p) (filter_map (edge_taken finishes op) xs) _

  pub loads_append : (xs ys : Events) → loads_in (xs ++ ys) ≡ loads_in xs ++ loads_in ys
  loads_append xs ys = ap (map written_load) (filter_map-append load_in xs ys) ∙ map-append written_load (filter_map load_in xs) _

  -- the record has these calls, and this one on its way
  pub record Holds (r : Recorded) (closed : List Events) (going : Option Events) : Type 0 where
    pub op_is : r.op ≡ op
    pub inside : r.inside ≡ is_some going
    pub edges : FromCalls edges_in edges_append r.edges r.path_ends closed (opened going)
    pub loads : FromCalls loads_in loads_append r.loads r.load_ends closed (opened going)

  -- an event inside a call that doesn't end it
  grown : (r after : Recorded) (closed : List Events) (es : Events) (e : SourceEvent LineEdge) → Holds r closed (Some es)
      → after.op ≡ r.op → after.inside ≡ true → after.edges ≡ r.edges ++ edges_in (e ∷ []) → after.loads ≡ r.loads ++ loads_in (e ∷ []) → after.path_ends ≡ r.path_ends → after.load_ends ≡ r.load_ends
      → Holds after closed (Some (es ++ e ∷ []))
  grown r after closed es e h same_op inside edges_are loads_are path_ends_are load_ends_are = record {
    op_is = same_op ∙ h.op_is;
    inside = inside;
    edges =
        subst (λ ends. FromCalls edges_in edges_append after.edges ends closed (es ++ e ∷ [])) (sym path_ends_are)
        (from_calls_more edges_in edges_append r.edges after.edges r.path_ends closed es e h.edges edges_are);
    loads =
        subst (λ ends. FromCalls loads_in loads_append after.loads ends closed (es ++ e ∷ [])) (sym load_ends_are)
        (from_calls_more loads_in loads_append r.loads after.loads r.load_ends closed es e h.loads loads_are);
  }

  -- the event that ends it
  ended : (r : Recorded) (closed : List Events) (es : Events) (e : SourceEvent LineEdge) → Holds r closed (Some es) → edges_in (e ∷ []) ≡ End r.op ∷ [] → loads_in (e ∷ []) ≡ []
      → Holds (completed r) (closed ++ (es ++ e ∷ []) ∷ []) None
  ended r closed es e h edge load = record {
    op_is = h.op_is;
    inside = refl;
    edges =
        from_calls_ended edges_in edges_append r.edges (r.edges ++ End r.op ∷ []) r.path_ends (length r.edges + 1) closed es e h.edges (ap (λ xs. r.edges ++ xs) (sym edge))
        (sym (length-append r.edges (End r.op ∷ [])));
    loads = from_calls_ended loads_in loads_append r.loads r.loads r.load_ends (length r.loads) closed es e h.loads (sym (append-nil r.loads) ∙ ap (λ xs. r.loads ++ xs) (sym load)) refl;
  }

  -- ---- event by event

  -- the edge of a return from an operation: that of the one whose calls are told, or none
  abbrev edges_of_leave : Bool → List SourceEdge
  edges_of_leave own = map (written_edge p) (cons_option (cond own (Some (finishes op)) None) [])

  inside_one : (r : Recorded) (closed : List Events) (es : Events) (e : SourceEvent LineEdge) → Holds r closed (Some es)
      → let next = taken_up (is_entered op) (is_left op) closed (Some es) e in Holds (event_added p r e) next.closed next.going
  inside_one r closed es (takes edge) h =
      subst (λ b. Holds (cond b (record r { edges = r.edges ++ written_edge p edge ∷ [] }) r) closed (Some (es ++ takes edge ∷ []))) (sym h.inside)
      (grown r (record r { edges = r.edges ++ written_edge p edge ∷ [] }) closed es (takes edge) h refl h.inside refl (sym (append-nil r.loads)) refl refl)
  inside_one r closed es (enters entered) h =
      grown r (when_entered r entered) closed es (enters entered) h refl (ap (λ b. b || eqb entered r.op) h.inside) (sym (append-nil r.edges)) (sym (append-nil r.loads)) refl refl
  inside_one r closed es (leaves left) h = by (eqb left op) refl where
    by : (b : Bool) → eqb left op ≡ b
        → let next : Cut (SourceEvent LineEdge) = cond b (record { closed = closed ++ (es ++ leaves left ∷ []) ∷ []; going = None }) (record { closed = closed; going = Some (es ++ leaves left ∷ []) }) in
        Holds (cond (r.inside && eqb left r.op) (completed r) r) next.closed next.going
    by true is =
        let here : (r.inside && eqb left r.op) ≡ true = ap (λ b. b && eqb left r.op) h.inside ∙ ap (eqb left) h.op_is ∙ is in
        subst (λ b. Holds (cond b (completed r) r) (closed ++ (es ++ leaves left ∷ []) ∷ []) None) (sym here)
        (ended r closed es (leaves left) h (ap (λ b. edges_of_leave b) is ∙ ap (λ n. End n ∷ []) (sym h.op_is)) refl)
    by false is =
        let here : (r.inside && eqb left r.op) ≡ false = ap (λ b. b && eqb left r.op) h.inside ∙ ap (eqb left) h.op_is ∙ is in
        subst (λ b. Holds (cond b (completed r) r) closed (Some (es ++ leaves left ∷ []))) (sym here)
        (grown r r closed es (leaves left) h refl h.inside (sym (append-nil r.edges) ∙ ap (λ xs. r.edges ++ xs) (sym (ap (λ b. edges_of_leave b) is))) (sym (append-nil r.loads)) refl refl)
  inside_one r closed es (loads cell value) h =
      let load : CriticalLoad = written_load (record { cell = cell; value = value }) in
      subst (λ b. Holds (cond b (record r { loads = r.loads ++ load ∷ [] }) r) closed (Some (es ++ loads cell value ∷ []))) (sym h.inside)
      (grown r (record r { loads = r.loads ++ load ∷ [] }) closed es (loads cell value) h refl h.inside (sym (append-nil r.edges)) refl refl refl)
  inside_one r closed es (stores cell value) h = grown r r closed es (stores cell value) h refl h.inside (sym (append-nil r.edges)) (sym (append-nil r.loads)) refl refl
  inside_one r closed es (outputs value) h =
      grown r (record r { outputs = r.outputs ++ value ∷ [] }) closed es (outputs value) h refl h.inside (sym (append-nil r.edges)) (sym (append-nil r.loads)) refl refl

  -- another record with the same edges and loads
  like : (r after : Recorded) (closed : List Events) → Holds r closed None → (b : Bool) → after ≡ record r { inside = b; outputs = after.outputs } → Holds after closed (cond b (Some []) None)
  like r after closed h b is = subst (λ x. Holds x closed (cond b (Some []) None)) (sym is) (by b) where
    by : (b : Bool) → Holds (record r { inside = b; outputs = after.outputs }) closed (cond b (Some []) None)
    by true = record { op_is = h.op_is; inside = refl; edges = h.edges; loads = h.loads }
    by false = record { op_is = h.op_is; inside = refl; edges = h.edges; loads = h.loads }

  outside_one : (r : Recorded) (closed : List Events) (e : SourceEvent LineEdge) → Holds r closed None
      → let next = taken_up (is_entered op) (is_left op) closed None e in Holds (event_added p r e) next.closed next.going
  outside_one r closed (takes edge) h = subst (λ b. Holds (cond b (record r { edges = r.edges ++ written_edge p edge ∷ [] }) r) closed None) (sym h.inside) h
  outside_one r closed (enters entered) h =
      like r (when_entered r entered) closed h (eqb entered op)
      (ap (λ b. record r { inside = b }) (ap (λ b. b || eqb entered r.op) h.inside ∙ ap (eqb entered) h.op_is))
  outside_one r closed (leaves left) h = subst (λ b. Holds (cond (b && eqb left r.op) (completed r) r) closed None) (sym h.inside) h
  outside_one r closed (loads cell value) h =
      subst (λ b. Holds (cond b (record r { loads = r.loads ++ written_load (record { cell = cell; value = value }) ∷ [] }) r) closed None) (sym h.inside) h
  outside_one r closed (stores cell value) h = h
  outside_one r closed (outputs value) h = record { op_is = h.op_is; inside = h.inside; edges = h.edges; loads = h.loads }

  one_more : (r : Recorded) (closed : List Events) (going : Option Events) (e : SourceEvent LineEdge) → Holds r closed going
      → let next = taken_up (is_entered op) (is_left op) closed going e in Holds (event_added p r e) next.closed next.going
  one_more r closed None e h = outside_one r closed e h
  one_more r closed (Some es) e h = inside_one r closed es e h

  all_more : (es : Events) (r : Recorded) (cut : Cut (SourceEvent LineEdge)) → Holds r cut.closed cut.going
      → let last = fold (takes_up (is_entered op) (is_left op)) cut es in Holds (events_added p r es) last.closed last.going
  all_more [] r cut h = h
  all_more (e ∷ es) r cut h = all_more es (event_added p r e) (takes_up (is_entered op) (is_left op) cut e) (one_more r cut.closed cut.going e h)

  -- what is recorded of some events holds the calls among them
  abbrev pub cut_of : Events → Cut (SourceEvent LineEdge)
  cut_of es = cut_up (is_entered op) (is_left op) es

  pub recorded_holds : (es : Events) → Holds (events_added p (nothing_recorded op) es) (cut_of es).closed (cut_of es).going
  recorded_holds es = all_more es (nothing_recorded op) (record { closed = []; going = None })
      (record { op_is = refl; inside = refl; edges = from_no_calls edges_in edges_append refl; loads = from_no_calls loads_in loads_append refl })
