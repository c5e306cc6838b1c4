-- What the record of a run tells of it.
use Rattle.std.proofs.Common.{◌≡◌, ◌+◌, ◌<◌, ◌≤◌, ◌||◌, ℕ, Bool, true, false, cond, ltb, List, [], ◌∷◌, ◌++◌, length, Some, None, refl, sym, ap, subst, ◌∙◌, inl, inr, arith, append_assoc, append-nil}
use Rattle.std.specs.{Prelude.is_some, Prelude.slice_get, List.fold, List.list_any}
use Rattle.std.proofs.lemmas.{Bool.cases_order, Bool.lt-ltb, Bool.le-ltb, Bool.ltb-true, Bool.ltb-false, Bool.false≢true, List.nil_from_length, Option.slice_get_past, Option.slice_get_cases}
use Rattle.oat_check.specs.{Cut, cut_up, takes_up, SourceEvent, is_entered, is_left, stretch, beyond, through, Steps.LineEdge}
use Rattle.oat_check.proofs.Sourcing.{calls_are_counted, calls_are_cut}
use Rattle.oat_meaning.specs.{declared.interpreter.Interpreter.Interpreter, Made.HasReached, Recording.Recorded, Recording.calls_end, Recording.nothing_recorded, SourceRun.SourceRun}
use Rattle.oat_meaning.specs.{SourceRun.calls_so_far, SourceRun.completed_so_far, SourceRun.events_so_far, SourceRun.loads_so_far, SourceRun.outputs_so_far, SourceRun.path_so_far}
use Rattle.oat_meaning.proofs.{CallItems.Events, CallItems.IsPart, CallItems.joined, CallItems.part_of_call, CallItems.opened, Recordings.Holds, Recordings.edges_append, Recordings.edges_in}
use Rattle.oat_meaning.proofs.{Recordings.loads_append, Recordings.loads_in, Recordings.outputs_recorded, Recordings.recorded_holds}

-- ---- a call that is on its way

none_seals : {X : Type 0} (seals : X → Bool) (xs : List X) → list_any seals xs ≡ false → through seals xs ≡ xs
none_seals seals [] none = refl
none_seals {X} seals (x ∷ xs) none = by (seals x) none (λ k. none_seals seals xs k) where
  by : (b : Bool) → (b || list_any seals xs) ≡ false → (list_any seals xs ≡ false → through seals xs ≡ xs) → cond b (x ∷ []) (x ∷ through seals xs) ≡ x ∷ xs
  by true k rest = absurd (cc)
  by false k rest = ap (λ ys. x ∷ ys) (rest k)

stays_open : {X : Type 0} (opens seals : X → Bool) (xs : List X) (closed : List (List X)) (ys : List X) → list_any seals xs ≡ false
    → fold (takes_up opens seals) (record { closed = closed; going = Some ys }) xs ≡ record { closed = closed; going = Some (ys ++ xs) }
stays_open opens seals [] closed ys none = ap (λ zs. record { closed = closed; going = Some zs }) (sym (append-nil ys))
stays_open {X} opens seals (x ∷ xs) closed ys none = by (seals x) none (λ k. stays_open opens seals xs closed (ys ++ x ∷ []) k) where
  by : (b : Bool) → (b || list_any seals xs) ≡ false
      → (list_any seals xs ≡ false → fold (takes_up opens seals) (record { closed = closed; going = Some (ys ++ x ∷ []) }) xs ≡ record { closed = closed; going = Some ((ys ++ x ∷ []) ++ xs) })
      → fold (takes_up opens seals) (cond b (record { closed = closed ++ (ys ++ x ∷ []) ∷ []; going = None }) (record { closed = closed; going = Some (ys ++ x ∷ []) })) xs
      ≡ record { closed = closed; going = Some (ys ++ x ∷ xs) }
  by true k rest = absurd (cc)
  by false k rest = rest k ∙ ap (λ zs. record { closed = closed; going = Some zs }) (append_assoc ys (x ∷ []) xs)

first_open : (opens seals : SourceEvent LineEdge → Bool) (xs : Events) → list_any seals (beyond opens xs) ≡ false → opened (cut_up opens seals xs).going ≡ beyond opens xs
first_open opens seals [] none = refl
first_open opens seals (x ∷ xs) none = by (opens x) none (λ k. first_open opens seals xs k) where
  by : (b : Bool) → list_any seals (cond b xs (beyond opens xs)) ≡ false → (list_any seals (beyond opens xs) ≡ false → opened (cut_up opens seals xs).going ≡ beyond opens xs)
      → opened (fold (takes_up opens seals) (record { closed = []; going = cond b (Some []) None }) xs).going ≡ cond b xs (beyond opens xs)
  by true k rest = ap (λ (cut : Cut (SourceEvent LineEdge)). opened cut.going) (stays_open opens seals xs [] [] k)
  by false k rest = rest k

-- ---- how many have completed

is_some_where : {X : Type 0} (b : Bool) (x : X) → is_some (cond b (Some x) None) ≡ b
is_some_where true x = refl
is_some_where false x = refl

length_told : {X : Type 0} (xs : List X) (n : ℕ) → ((s : ℕ) → is_some (slice_get xs s) ≡ ltb s n) → length xs ≡ n
length_told xs n told = elim (cases_order (length xs) n) [
  | inl same ↦ same
  | inr (inl less) ↦
      absurd (false≢true (sym (ap is_some (slice_get_past xs (length xs) (omega arith))) ∙ told (length xs) ∙ lt-ltb (length xs) n less))
  | inr (inr more) ↦ elim (slice_get_cases xs n).1 [
    | inl found ↦ absurd (false≢true (sym (le-ltb n n (omega arith)) ∙ sym (told n) ∙ ap is_some found.2))
    | inr past ↦ let l = past.0 in absurd (omega (arith, l, more))
  ]
]

-- ---- what is told

module _ (m : Interpreter) (run : SourceRun) (s : HasReached m run) where
  abbrev cut : Cut (SourceEvent LineEdge)
  cut = cut_up (is_entered run.op) (is_left run.op) (events_so_far run)

  holds : Holds run.program run.op m.kept.recorded cut.closed cut.going
  holds = subst (λ (r : Recorded). Holds run.program run.op r cut.closed cut.going) (sym s.recorded) (recorded_holds run.program run.op (events_so_far run))

  pub counted : (call : ℕ) → completed_so_far run call ≡ ltb call (calls_so_far run)
  counted call = calls_are_counted run.program s.checked run.inputs run.made run.op call

  pub first_done : completed_so_far run 0 ≡ true → 0 < calls_so_far run
  first_done done = ltb-true 0 (calls_so_far run) (sym (counted 0) ∙ done)

  pub none_done : completed_so_far run 0 ≡ false → calls_so_far run ≡ 0
  none_done going = let few : calls_so_far run ≤ 0 = ltb-false 0 (calls_so_far run) (sym (counted 0) ∙ going) in omega (arith, few)

  cut_at : (call : ℕ) → slice_get cut.closed call ≡ cond (completed_so_far run call) (Some (stretch run.op call (events_so_far run))) None
  cut_at call = calls_are_cut run.program run.inputs run.made run.op call

  many : length cut.closed ≡ calls_so_far run
  many = length_told cut.closed (calls_so_far run) (λ call. ap is_some (cut_at call) ∙ is_some_where (completed_so_far run call) _ ∙ counted call)

  pub calls_told : length m.kept.recorded.load_ends ≡ calls_so_far run
  calls_told = holds.loads.count ∙ many

  pub outputs_told : m.kept.recorded.outputs ≡ outputs_so_far run
  outputs_told = ap (λ (r : Recorded). r.outputs) s.recorded ∙ outputs_recorded run.program (events_so_far run) (nothing_recorded run.op)

  -- ---- of a call that has completed

  module _ (call : ℕ) (low : call < calls_so_far run) where
    call_there : slice_get cut.closed call ≡ Some (stretch run.op call (events_so_far run))
    call_there =
        cut_at call ∙ ap (λ b. cond b (Some (stretch run.op call (events_so_far run))) None) (counted call ∙ lt-ltb call (calls_so_far run) low)

    pub path_told : IsPart m.kept.recorded.edges (calls_end m.kept.recorded.path_ends call) (calls_end m.kept.recorded.path_ends (call + 1)) (path_so_far run call)
    path_told = part_of_call (edges_in run.program run.op) (edges_append run.program run.op) _ _ cut.closed (opened cut.going) call (stretch run.op call (events_so_far run)) holds.edges call_there

    pub loads_told : IsPart m.kept.recorded.loads (calls_end m.kept.recorded.load_ends call) (calls_end m.kept.recorded.load_ends (call + 1)) (loads_so_far run call)
    loads_told = part_of_call (loads_in run.program run.op) (loads_append run.program run.op) _ _ cut.closed (opened cut.going) call (stretch run.op call (events_so_far run)) holds.loads call_there

  -- ---- of the first one, where none has completed

  module _ (none : calls_so_far run ≡ 0) where
    unsealed : list_any (is_left run.op) (beyond (is_entered run.op) (events_so_far run)) ≡ false
    unsealed = counted 0 ∙ le-ltb 0 (calls_so_far run) (omega (arith, none))

    all_open : joined cut.closed ++ opened cut.going ≡ stretch run.op 0 (events_so_far run)
    all_open =
        ap (λ calls. joined calls ++ opened cut.going) (nil_from_length cut.closed (many ∙ none))
        ∙ first_open (is_entered run.op) (is_left run.op) (events_so_far run) unsealed ∙ sym (none_seals (is_left run.op) (beyond (is_entered run.op) (events_so_far run)) unsealed)

    pub first_path_told : m.kept.recorded.edges ≡ path_so_far run 0
    first_path_told = holds.edges.all ∙ ap (edges_in run.program run.op) all_open

    pub first_loads_told : m.kept.recorded.loads ≡ loads_so_far run 0
    first_loads_told = holds.loads.all ∙ ap (loads_in run.program run.op) all_open
