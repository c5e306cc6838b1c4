-- What holds of whole bare runs where each step is followed.
use Rattle.std.proofs.Common.{◌≡◌, ◌+◌, ◌≤◌, ℕ, zero, ℤ, Bool, true, List, [], ◌++◌, map, filter_map, Some, None, refl, sym, ap, subst, ◌∙◌, arith}
use Rattle.std.proofs.lemmas.{List.map-append, List.Elements.filter_map-append}
use Rattle.oat_events.proofs.{EventLaws.passes_parted, WindowLaws.closed_alike, WindowLaws.closed_stays, WindowLaws.inside_alike, WindowLaws.inside_stays, WindowLaws.shown_at_once}
use Rattle.oat_events.proofs.{WindowLaws.up_to_alike, WindowLaws.up_to_stays}
use Rattle.oat_journal.specs.{Cells, Passes, SourceEvent, is_entered, is_left, Finish, SourceKeeps, SourceMachine, end_after, events_after, has_completed, load_in, output_in, outputs_of, store_in}
use Rattle.oat_journal.specs.{stretch, inside, is_closed, up_to, Image, Edge, name_of, declared.end.DeviceEnd.DeviceEnd, Measured.start_cells, Run.Entry, Run.bare, Run.journal, Run.started}
use Rattle.oat_journal.specs.{Window.made_call, Window.opens_window, Window.seals_window, Window.up_to_window, Window.window}
use Rattle.oat_follow.specs.{Events.MachineEvent, Events.call_in, Events.edge_in, Events.events_of, Events.print_in, Events.told_at, Following.EndsAs, Following.HasEnded}
use Rattle.oat_follow.specs.{Following.JournalShowsTheCall, Following.RunsAs, Order.KeepOrder, Order.is_window_closed, Placement.Placement, Placement.seen_at, Reaching.run_on, Reaching.shown_on}
use Rattle.oat_follow.specs.{Steps.FollowsSteps, Steps.instructions_for}
use Rattle.oat_follow.proofs.{Naming.named-call, Ordering.source-ordered, Reaching.shown-adds, Seeing.defines-made, Seeing.enters-agree, Seeing.leaves-agree, Seeing.load-seen, Seeing.load_seen}
use Rattle.oat_follow.proofs.{Seeing.of-seen, Seeing.output-seen, Seeing.path-seen, Seeing.store-seen, Seeing.store_seen, Showing.event_in, Showing.map-shown, Showing.opens-agree}
use Rattle.oat_follow.proofs.{Showing.outputs_are_shown, Showing.paths_are_shown, Showing.seals-agree, Showing.shown-calls, Sounding.uses-checked, Stepping.ended-by, Stepping.has-ended, Stepping.lags}
use Rattle.oat_follow.proofs.{Stepping.shows-by, Stepping.stands}

-- ---- whole runs

module _ (S : SourceMachine) (image : Image) (p : Placement S.Edge) (inputs : List ℤ)
    (K : SourceKeeps S (start_cells image)) (M : FollowsSteps S image p inputs) (op : ℕ) where
  abbrev js : ℕ → List Entry
  js n = journal image inputs [] n

  abbrev evs : ℕ → List MachineEvent
  evs n = events_of image.map (js n)

  abbrev words : Cells
  words = start_cells image

  run-ordered : (n : ℕ) → KeepOrder words (map made_call (js n))
  run-ordered n =
      let behind_it = lags S image p inputs words K M n in
      let source = source-ordered S words K p n in
      let whole : filter_map event_in (map (seen_at p) (events_after S n)) ≡ filter_map event_in (evs n) ++ filter_map event_in behind_it.rest =
      ap (filter_map event_in) (sym behind_it.more) ∙ filter_map-append event_in (evs n) behind_it.rest in
      let w = passes_parted (filter_map event_in (evs n)) (filter_map event_in behind_it.rest) None source.later words source.behind
      (subst (λ (es : List (SourceEvent Edge)). Passes None words es source.later source.behind) whole source.passes) in
      record {
        active = w.0;
        cells = w.1;
        passes = subst (λ (es : List (SourceEvent Edge)). Passes None words es w.0 w.1) (sym (shown-calls image.map (js n))) w.2;
      }

  -- ---- outputs

  outputs-shown : (n : ℕ) → (bare image inputs [] n).outputs ≡ filter_map print_in (evs n)
  outputs-shown n = outputs_are_shown image inputs [] n

  outputs-of : (k : ℕ) → filter_map print_in (map (seen_at p) (events_after S k)) ≡ outputs_of (events_after S k)
  outputs-of k = of-seen p print_in output_in (output-seen p) (events_after S k)

  forth : (k n : ℕ) (why : Finish) → end_after S k ≡ Some why → instructions_for k ≤ n → EndsAs S (bare image inputs [] n).end (bare image inputs [] n).outputs k why
  forth k n why is enough =
      let w = ended-by S image p inputs words K M k n why is enough in
      record {
        ended = w.end;
        same = outputs-shown n ∙ ap (filter_map print_in) w.alike ∙ outputs-of k;
      }

  back : (n : ℕ) (why : DeviceEnd) → (bare image inputs [] n).end ≡ Some why → HasEnded S (bare image inputs [] n).outputs n why
  back n why is =
      let w = has-ended S image p inputs words K M n why is in
      record {
        finish = w.finish;
        ends = w.is;
        alike = w.end;
        same = outputs-shown n ∙ ap (filter_map print_in) w.alike ∙ outputs-of n;
      }

  prefix : (n : ℕ) → (rest : List ℤ) × ((bare image inputs [] n).outputs ++ rest ≡ outputs_of (events_after S n))
  prefix n =
      let w = lags S image p inputs words K M n in (
        filter_map print_in w.rest,
        ap (λ (xs : List ℤ). xs ++ filter_map print_in w.rest) (outputs-shown n) ∙ sym (filter_map-append print_in (evs n) w.rest) ∙ ap (filter_map print_in) w.more ∙ outputs-of n,
      )

  -- ---- windows

  abbrev opens_e : MachineEvent → Bool
  opens_e e = opens_window call_in op (p.begin op) e

  abbrev seals_e : MachineEvent → Bool
  seals_e e = seals_window call_in op e

  run-closed : (s : ℕ) (xs : List Entry) → is_closed opens_e seals_e s (events_of image.map xs) ≡ is_window_closed op (p.begin op) s xs
  run-closed s xs = closed_alike (told_at image.map) (opens_window made_call op (p.begin op)) (seals_window made_call op) opens_e seals_e (opens-agree image.map op (p.begin op)) (seals-agree image.map op) s xs

  source-closed : (s : ℕ) (es : List (SourceEvent S.Edge)) → is_closed opens_e seals_e s (map (seen_at p) es) ≡ has_completed op s es
  source-closed s es =
      ap (is_closed opens_e seals_e s) (map-shown (seen_at p) es)
      ∙ closed_alike (λ (e : SourceEvent S.Edge). Some (seen_at p e)) (is_entered op) (is_left op) opens_e seals_e (enters-agree p op (p.begin op) refl) (leaves-agree p op) s es

  completes : (s k n : ℕ) → has_completed op s (events_after S k) ≡ true → instructions_for k ≤ n → is_window_closed op (p.begin op) s (js n) ≡ true
  completes s k n has enough =
      let w = shows-by S image p inputs words K M k n enough in
      sym (run-closed s (js n)) ∙ ap (is_closed opens_e seals_e s) (sym w.more)
      ∙ closed_stays opens_e seals_e s (map (seen_at p) (events_after S k)) w.rest (source-closed s (events_after S k) ∙ has)

  completed : (s n : ℕ) → is_window_closed op (p.begin op) s (js n) ≡ true → has_completed op s (events_after S n) ≡ true
  completed s n is =
      let w = lags S image p inputs words K M n in
      sym (source-closed s (events_after S n)) ∙ ap (is_closed opens_e seals_e s) (sym w.more)
      ∙ closed_stays opens_e seals_e s (evs n) w.rest (run-closed s (js n) ∙ is)

  -- window s shows what call s shows
  record Alike (s k n : ℕ) : Type 0 where
    pub window : events_of image.map (window made_call op (p.begin op) s (js n)) ≡ map (seen_at p) (stretch op s (events_after S k))
    pub before : events_of image.map (up_to_window made_call op (p.begin op) s (js n)) ≡ map (seen_at p) (up_to (is_entered op) (is_left op) s (events_after S k))

  alike : (s k n : ℕ) → has_completed op s (events_after S k) ≡ true → is_window_closed op (p.begin op) s (js n) ≡ true → Alike s k n
  alike s k n has is =
      let far = n + instructions_for k in
      let w = shows-by S image p inputs words K M k far (omega arith) in
      let more = shown_on image (instructions_for k) (run_on image n (started image inputs)) in
      let longer : evs n ++ more ≡ map (seen_at p) (events_after S k) ++ w.rest = sym (shown-adds image n (instructions_for k) (started image inputs)) ∙ sym w.more in
      let here : is_closed opens_e seals_e s (evs n) ≡ true = run-closed s (js n) ∙ is in
      let there : is_closed opens_e seals_e s (map (seen_at p) (events_after S k)) ≡ true = source-closed s (events_after S k) ∙ has in
      record {
        window = sym (inside_alike (told_at image.map) (opens_window made_call op (p.begin op)) (seals_window made_call op) opens_e seals_e (opens-agree image.map op (p.begin op)) (seals-agree image.map op) s (js n))
            ∙ sym (inside_stays opens_e seals_e s (evs n) more here) ∙ ap (inside opens_e seals_e s) longer ∙ inside_stays opens_e seals_e s (map (seen_at p) (events_after S k)) w.rest there
            ∙ ap (inside opens_e seals_e s) (map-shown (seen_at p) (events_after S k))
            ∙ inside_alike (λ (e : SourceEvent S.Edge). Some (seen_at p e)) (is_entered op) (is_left op) opens_e seals_e (enters-agree p op (p.begin op) refl) (leaves-agree p op) s (events_after S k)
            ∙ sym (map-shown (seen_at p) (stretch op s (events_after S k)));
        before = sym (up_to_alike (told_at image.map) (opens_window made_call op (p.begin op)) (seals_window made_call op) opens_e seals_e (opens-agree image.map op (p.begin op)) (seals-agree image.map op) s (js n))
            ∙ sym (up_to_stays opens_e seals_e s (evs n) more here) ∙ ap (up_to opens_e seals_e s) longer ∙ up_to_stays opens_e seals_e s (map (seen_at p) (events_after S k)) w.rest there
            ∙ ap (up_to opens_e seals_e s) (map-shown (seen_at p) (events_after S k))
            ∙ up_to_alike (λ (e : SourceEvent S.Edge). Some (seen_at p e)) (is_entered op) (is_left op) opens_e seals_e (enters-agree p op (p.begin op) refl) (leaves-agree p op) s (events_after S k)
            ∙ sym (map-shown (seen_at p) (up_to (is_entered op) (is_left op) s (events_after S k)));
      }

  shows : (s k n : ℕ) → has_completed op s (events_after S k) ≡ true → is_window_closed op (p.begin op) s (js n) ≡ true → JournalShowsTheCall S image p op s k (js n)
  shows s k n has is =
      let a = alike s k n has is in
      let c = uses-checked words op (p.begin op) s (js n) (run-ordered n) in
      let before = up_to_window made_call op (p.begin op) s (js n) in
      let inner = window made_call op (p.begin op) s (js n) in
      let ahead_of = up_to (is_entered op) (is_left op) s (events_after S k) in
      let call_s = stretch op s (events_after S k) in
      let path = paths_are_shown image.map op inner ∙ ap (filter_map (edge_in op)) a.window ∙ path-seen p S.finish op (M.finish op).edge call_s in
      let both : events_of image.map (before ++ inner) ≡ map (seen_at p) (ahead_of ++ call_s) =
      filter_map-append (told_at image.map) before inner ∙ ap (λ (es : List MachineEvent). es ++ events_of image.map inner) a.before
      ∙ ap (λ (es : List MachineEvent). map (seen_at p) ahead_of ++ es) a.window ∙ sym (map-append (seen_at p) ahead_of call_s) in
      record {
        edges = path;
        names = ap (map (name_of image.map)) path ∙ named-call image.map p S.name S.finish op s (events_after S k) (M.finish op).name (stands S image p inputs words K M k).named;
        found = c.found ∙ ap (filter_map load_in) (shown-calls image.map inner ∙ ap (filter_map event_in) a.window)
            ∙ sym (shown_at_once event_in load_in load_seen (λ e. refl) (map (seen_at p) call_s)) ∙ of-seen p load_seen load_in (load-seen p) call_s;
        sound = c.sound;
        stores = defines-made (before ++ inner)
            ∙ ap (filter_map store_in) (shown-calls image.map (before ++ inner) ∙ ap (filter_map event_in) both)
            ∙ sym (shown_at_once event_in store_in store_seen (λ e. refl) (map (seen_at p) (ahead_of ++ call_s))) ∙ of-seen p store_seen store_in (store-seen p) (ahead_of ++ call_s);
      }

pub runs_as : (S : SourceMachine) (image : Image) (p : Placement S.Edge) (inputs : List ℤ) → SourceKeeps S (start_cells image) → FollowsSteps S image p inputs → RunsAs S image p inputs
runs_as S image p inputs K M = record {
  events = record {
    forth = λ k n enough. let w = shows-by S image p inputs (start_cells image) K M k n enough in (w.rest, w.more);
    back = λ n. let w = lags S image p inputs (start_cells image) K M n in (w.rest, w.more);
  };
  ends = record { forth = forth S image p inputs K M zero; back = back S image p inputs K M zero; prefix = prefix S image p inputs K M zero };
  closes = λ op. completes S image p inputs K M op;
  closed = λ op. completed S image p inputs K M op;
  shows = λ op. shows S image p inputs K M op;
  ordered = run-ordered S image p inputs K M zero;
}
