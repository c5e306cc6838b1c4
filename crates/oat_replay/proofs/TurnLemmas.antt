-- What each turn of a replay does to the walk that it stands behind.
use Rattle.std.proofs.Common.{◌≡◌, ◌⊎◌, ℕ, zero, suc, ◌+◌, ◌-◌, ◌<◌, ◌≤◌, Bool, true, false, cond, List, [], ◌∷◌, ◌++◌, length, Option, None, Some, refl, sym, ap, subst, ◌∙◌, inl, inr, append_assoc}
use Rattle.std.proofs.Common.{arith, length-append}
use Rattle.std.specs.List.{slice_get}
use Rattle.std.proofs.lemmas.{List.nil_from_length, List.Elements.filter_map-append}
use Rattle.oat_map.specs.{declared.row.Row.Row, declared.row.Row.TheVariants.Branch, declared.row.Row.TheVariants.End, declared.row.Row.TheVariants.UseCell, declared.row.Row.TheVariants.DefCell}
use Rattle.oat_map.specs.{declared.row.Row.TheVariants.UseAt, declared.row.Row.TheVariants.DefAt, declared.row.Row.TheVariants.Check, declared.map.Map.Map, Rows.after, Rows.next}
use Rattle.oat_map.specs.{Rows.IsIndirectTarget, Stack.IsStack, Walk.Step, Walk.passed, Walk.moved, Walk.edge_of, Walk.path_of, Walk.bit_of, Walk.bits_of, Walk.target_of, Walk.targets_of, Walk.depth}
use Rattle.oat_map.specs.{Walk.RowGoes, Walk.Goes, Walk.Walk, Walk.path_limit}
use Rattle.oat_map.proofs.{StackLemmas.depth-is, WalkLemmas.Leads-push}
use Rattle.oat_replay.specs.{declared.cause.ReplayCause.ReplayCause, declared.replay.Replay.Replay, declared.turn.Turn.Turn, declared.turn.Turn.TheVariants.Moved}
use Rattle.oat_replay.specs.{declared.turn.Turn.TheVariants.Passed, declared.turn.Turn.TheVariants.Done, declared.turn.Turn.TheVariants.Stuck, EndTurn.EndsTurn, Replay.IsWalked, Replay.FollowsRecords}
use Rattle.oat_replay.specs.{Replay.GetsStuck, Replay.StuckAt, Replay.StuckAtEnd, StandsBehind.StandsBehind, StandsBehind.Turns}
use Rattle.oat_replay.proofs.ReplayLemmas.{stops_longest}
use Rattle.oat_map.specs.declared.edge.Edge.TheVariants as edges

pub is_none : (row : Option Row) → ((x : Row) → row ≡ Some x → ⊥) → row ≡ None
is_none None never = refl
is_none (Some x) never = absurd (never x refl)

bits-append : (xs ys : List Step) → bits_of (path_of (xs ++ ys)) ≡ bits_of (path_of xs) ++ bits_of (path_of ys)
bits-append xs ys = ap bits_of (filter_map-append edge_of xs ys) ∙ filter_map-append bit_of (path_of xs) (path_of ys)

targets-append : (xs ys : List Step) → targets_of (path_of (xs ++ ys)) ≡ targets_of (path_of xs) ++ targets_of (path_of ys)
targets-append xs ys = ap targets_of (filter_map-append edge_of xs ys) ∙ filter_map-append target_of (path_of xs) (path_of ys)

-- what is left of a list behind its first items begins with the item that stands there
get-behind : {X : Type 0} (before left : List X) (i : ℕ) → i ≡ length before → slice_get (before ++ left) i ≡ slice_get left 0
get-behind [] left zero here = refl
get-behind [] left (suc i) here = absurd (omega arith)
get-behind (x ∷ before) left zero here = absurd (omega arith)
get-behind (x ∷ before) left (suc i) here = get-behind before left i (omega arith)

begins_with : {X : Type 0} (left : List X) (x : X) → slice_get left 0 ≡ Some x → (others : List X) × (left ≡ x ∷ others)
begins_with [] x found = absurd (cc)
begins_with (y ∷ left) x found = (left, cc)

next_left : {X : Type 0} (all before left : List X) (used : ℕ) (x : X) → all ≡ before ++ left → used ≡ length before
    → slice_get all used ≡ Some x → (others : List X) × (left ≡ x ∷ others)
next_left all before left used x parts used_is found =
    begins_with left x (sym (get-behind before left used used_is) ∙ ap (λ items. slice_get items used) (sym parts) ∙ found)

count_left : {X : Type 0} (all before left : List X) (used : ℕ) → all ≡ before ++ left → used ≡ length before
    → length all - used ≡ length left
count_left all before left used parts used_is =
    let lengths : length all ≡ length before + length left = ap length parts ∙ length-append before left in
    omega arith

-- a branch goes as its bit says
pub branch_goes : (flow : Map) (at taken other : ℕ) (steps : List Step) (bit : Bool) (to : ℕ) → to ≡ cond bit taken other
    → RowGoes flow (Branch at taken other) steps (moved (edges.Branch at bit to)) to
branch_goes flow at taken other steps true to is = inl (ap (λ place. moved (edges.Branch at true place)) is, is)
branch_goes flow at taken other steps false to is = inr (ap (λ place. moved (edges.Branch at false place)) is, is)

-- a row without a transfer is passed
pub pass_goes : (flow : Map) (row : Row) (steps : List Step)
    → ((at : ℕ) × (cell : ℕ) × (row ≡ UseCell at cell))
    ⊎ (((at : ℕ) × (cell : ℕ) × (row ≡ DefCell at cell))
    ⊎ (((at : ℕ) × (cell : ℕ) × (len : ℕ) × (row ≡ UseAt at cell len))
    ⊎ (((at : ℕ) × (cell : ℕ) × (len : ℕ) × (row ≡ DefAt at cell len)) ⊎ ((at : ℕ) × (row ≡ Check at)))))
    → RowGoes flow row steps passed (after row)
pass_goes flow row steps (inl (at, cell, is)) = rw is (refl, refl)
pass_goes flow row steps (inr (inl (at, cell, is))) = rw is (refl, refl)
pass_goes flow row steps (inr (inr (inl (at, cell, len, is)))) = rw is (refl, refl)
pass_goes flow row steps (inr (inr (inr (inl (at, cell, len, is))))) = rw is (refl, refl)
pass_goes flow row steps (inr (inr (inr (inr (at, is))))) = rw is (refl, refl)

pub plus_none : (used before : ℕ) → used ≡ before → used ≡ before + 0
plus_none used before same = omega arith

-- one more step that follows the records
FollowsRecords-push : (flow : Map) (op : ℕ) (bits : List Bool) (targets : List ℕ) (steps : List Step) (place : ℕ)
    (b c : List Bool) (t u : List ℕ) (step : Step) (to : ℕ)
    → FollowsRecords flow op bits targets steps place b t → length steps < path_limit → Goes flow steps place step to
    → b ≡ bits_of (path_of (step ∷ [])) ++ c → t ≡ targets_of (path_of (step ∷ [])) ++ u
    → FollowsRecords flow op bits targets (steps ++ step ∷ []) to c u
FollowsRecords-push flow op bits targets steps place b c t u step to follows few goes bit target =
    let lengths : length (steps ++ step ∷ []) ≡ length steps + 1 = length-append steps (step ∷ []) in
    record {
      partial = record {
        from = follows.partial.from;
        starts = follows.partial.starts;
        leads = Leads-push flow [] follows.partial.from steps place step to follows.partial.leads goes;
      };
      within = omega arith;
      bits_are = follows.bits_are ∙ ap (λ left. bits_of (path_of steps) ++ left) bit
          ∙ sym (append_assoc (bits_of (path_of steps)) (bits_of (path_of (step ∷ []))) c)
          ∙ ap (λ all. all ++ c) (sym (bits-append steps (step ∷ [])));
      targets_are = follows.targets_are ∙ ap (λ left. targets_of (path_of steps) ++ left) target
          ∙ sym (append_assoc (targets_of (path_of steps)) (targets_of (path_of (step ∷ []))) u)
          ∙ ap (λ all. all ++ u) (sym (targets-append steps (step ∷ [])));
    }

module _ (flow : Map) (op : ℕ) (bits : List Bool) (targets : List ℕ) (replay : Replay) (steps : List Step)
    (behind : StandsBehind flow op bits targets replay steps) where
  -- the map is the replay's own
  pub next_is : (row : Option Row) → next replay.map.now.rows replay.place ≡ row → next flow.rows replay.place ≡ row
  next_is row here = ap (λ held. next held.rows replay.place) (sym behind.same_map) ∙ here

  -- so are its functions
  pub flow_target : (params target : ℕ) → IsIndirectTarget replay.map.now.functions params target → IsIndirectTarget flow.functions params target
  flow_target params target allowed = subst (λ (held : Map). IsIndirectTarget held.functions params target) behind.same_map allowed

  pub own_target : (params target : ℕ) → IsIndirectTarget flow.functions params target → IsIndirectTarget replay.map.now.functions params target
  own_target params target allowed = subst (λ (held : Map). IsIndirectTarget held.functions params target) (sym behind.same_map) allowed

  -- a turn that gets stuck at a row
  pub stuck_at : (row : Option Row) (cause : ReplayCause) → next flow.rows replay.place ≡ row → replay.turns < path_limit
      → StuckAt flow op row steps behind.bits_left behind.targets_left cause
      → GetsStuck flow op bits targets cause (length steps + 1)
  stuck_at row cause here few stops =
      let turns = behind.turns_made in
      let stops_here : StuckAt flow op (next flow.rows replay.place) steps behind.bits_left behind.targets_left cause = rw here stops in
      record {
        steps = steps;
        place = replay.place;
        bits_left = behind.bits_left;
        targets_left = behind.targets_left;
        follows = behind.follows;
        longest = stops_longest flow op bits targets steps replay.place behind.bits_left behind.targets_left cause behind.follows stops_here;
        turn_is = refl;
        at_limit = λ full. absurd (omega arith);
        before_limit = λ less. stops_here;
      }

  -- a replay that stands where this one does
  pub StandsBehind-same : (new : Replay) → new.map.now ≡ replay.map.now → new.op ≡ replay.op → new.place ≡ replay.place
      → new.stack.items ≡ replay.stack.items → new.turns ≡ replay.turns → new.bits_used ≡ replay.bits_used
      → new.targets_used ≡ replay.targets_used → StandsBehind flow op bits targets new steps
  StandsBehind-same new same_map same_op place stack turns same_bits same_targets =
      record {
        same_map = same_map ∙ behind.same_map;
        same_op = same_op ∙ behind.same_op;
        bits_left = behind.bits_left;
        targets_left = behind.targets_left;
        follows = rw place behind.follows;
        turns_made = turns ∙ behind.turns_made;
        bits_used = same_bits ∙ behind.bits_used;
        targets_used = same_targets ∙ behind.targets_used;
        open_calls = rw stack behind.open_calls;
      }

  -- a replay that went a step further
  pub StandsBehind-step : (new : Replay) (step : Step) (to : ℕ) (bits_left : List Bool) (targets_left : List ℕ)
      → replay.turns < path_limit → Goes flow steps replay.place step to
      → behind.bits_left ≡ bits_of (path_of (step ∷ [])) ++ bits_left
      → behind.targets_left ≡ targets_of (path_of (step ∷ [])) ++ targets_left
      → IsStack (steps ++ step ∷ []) new.stack.items
      → new.map.now ≡ replay.map.now → new.op ≡ replay.op → new.place ≡ to → new.turns ≡ replay.turns + 1
      → new.bits_used ≡ replay.bits_used + length (bits_of (path_of (step ∷ [])))
      → new.targets_used ≡ replay.targets_used + length (targets_of (path_of (step ∷ [])))
      → StandsBehind flow op bits targets new (steps ++ step ∷ [])
  StandsBehind-step new step to bits_left targets_left few goes bit target stack same_map same_op place turns used_bits used_targets =
      let made = behind.turns_made in
      let follows : FollowsRecords flow op bits targets (steps ++ step ∷ []) to bits_left targets_left =
      FollowsRecords-push flow op bits targets steps replay.place behind.bits_left bits_left behind.targets_left targets_left
      step to behind.follows (omega arith) goes bit target in
      record {
        same_map = same_map ∙ behind.same_map;
        same_op = same_op ∙ behind.same_op;
        bits_left = bits_left;
        targets_left = targets_left;
        follows = rw place follows;
        turns_made = turns ∙ ap (λ n. n + 1) behind.turns_made ∙ sym (length-append steps (step ∷ []));
        bits_used = used_bits ∙ ap (λ n. n + length (bits_of (path_of (step ∷ [])))) behind.bits_used
            ∙ sym (ap length (bits-append steps (step ∷ [])) ∙ length-append (bits_of (path_of steps)) (bits_of (path_of (step ∷ []))));
        targets_used = used_targets ∙ ap (λ n. n + length (targets_of (path_of (step ∷ [])))) behind.targets_used
            ∙ sym (ap length (targets-append steps (step ∷ [])) ∙ length-append (targets_of (path_of steps)) (targets_of (path_of (step ∷ []))));
        open_calls = stack;
      }

  -- the records that are left begin with the ones that are read next
  pub next_bit : (bit : Bool) → slice_get bits replay.bits_used ≡ Some bit → (others : List Bool) × (behind.bits_left ≡ bit ∷ others)
  next_bit bit found = next_left bits (bits_of (path_of steps)) behind.bits_left replay.bits_used bit behind.follows.bits_are behind.bits_used found

  pub next_target : (target : ℕ) → slice_get targets replay.targets_used ≡ Some target
      → (others : List ℕ) × (behind.targets_left ≡ target ∷ others)
  next_target target found =
      next_left targets (targets_of (path_of steps)) behind.targets_left replay.targets_used target behind.follows.targets_are behind.targets_used found

  bits_left_is : length bits - replay.bits_used ≡ length behind.bits_left
  bits_left_is = count_left bits (bits_of (path_of steps)) behind.bits_left replay.bits_used behind.follows.bits_are behind.bits_used

  targets_left_is : length targets - replay.targets_used ≡ length behind.targets_left
  targets_left_is = count_left targets (targets_of (path_of steps)) behind.targets_left replay.targets_used behind.follows.targets_are behind.targets_used

  pub no_bits : length bits ≤ replay.bits_used → behind.bits_left ≡ []
  no_bits used = let left = bits_left_is in nil_from_length behind.bits_left (omega arith)

  pub no_targets : length targets ≤ replay.targets_used → behind.targets_left ≡ []
  no_targets used = let left = targets_left_is in nil_from_length behind.targets_left (omega arith)

  whole_walk : (at : ℕ) → next flow.rows replay.place ≡ Some (End at op) → depth steps ≡ 0
      → Walk flow op (steps ++ moved (edges.End op) ∷ [])
  whole_walk at here closed = record {
    front = steps;
    place = replay.place;
    partial = behind.follows.partial;
    closed = closed;
    end_address = at;
    at_end = here;
    whole = refl;
  }

  done : (at : ℕ) → next flow.rows replay.place ≡ Some (End at op) → replay.turns < path_limit → depth steps ≡ 0
      → length behind.bits_left ≡ 0 → length behind.targets_left ≡ 0
      → IsWalked flow op bits targets (path_of (steps ++ moved (edges.End op) ∷ []))
  done at here few closed no_bit no_target =
      let made = behind.turns_made in
      let lengths : length (steps ++ moved (edges.End op) ∷ []) ≡ length steps + 1 = length-append steps (moved (edges.End op) ∷ []) in
      record {
        steps = steps ++ moved (edges.End op) ∷ [];
        walk = whole_walk at here closed;
        within = omega arith;
        path_is = refl;
        bits_are = bits-append steps (moved (edges.End op) ∷ [])
            ∙ ap (λ left. bits_of (path_of steps) ++ left) (sym (nil_from_length behind.bits_left no_bit)) ∙ sym behind.follows.bits_are;
        targets_are = targets-append steps (moved (edges.End op) ∷ [])
            ∙ ap (λ left. targets_of (path_of steps) ++ left) (sym (nil_from_length behind.targets_left no_target)) ∙ sym behind.follows.targets_are;
      }

  -- a turn at an End row
  pub Turns-end : (turn : Turn) (at ended open_calls : ℕ) → next flow.rows replay.place ≡ Some (End at ended) → replay.turns < path_limit
      → open_calls ≡ length replay.stack.items
      → EndsTurn replay.op ended open_calls (length bits - replay.bits_used) (length targets - replay.targets_used) turn
      → Turns flow op bits targets steps replay turn
  Turns-end (Moved edge) at ended open_calls here few are ends = absurd ends
  Turns-end Passed at ended open_calls here few are ends = absurd ends
  Turns-end (Done edge) at ended open_calls here few are ends =
      let same_op : ended ≡ op = ends.0 ∙ behind.same_op in
      let same_edge : edge ≡ edges.End op = ends.4 ∙ ap (λ o. edges.End o) behind.same_op in
      let at_end : next flow.rows replay.place ≡ Some (End at op) = here ∙ ap (λ o. Some (End at o)) same_op in
      let closed : depth steps ≡ 0 = depth-is steps replay.stack.items behind.open_calls ∙ sym are ∙ ends.1 in
      let walked = done at at_end few closed (sym bits_left_is ∙ ends.2) (sym targets_left_is ∙ ends.3) in
      (behind, same_edge, rw same_edge walked, rw same_edge (whole_walk at at_end closed))
  Turns-end (Stuck cause) at ended open_calls here few are ends =
      let stops : StuckAtEnd op ended (depth steps) (length behind.bits_left) (length behind.targets_left) cause =
      rw (depth-is steps replay.stack.items behind.open_calls, ← are, ← bits_left_is, ← targets_left_is, ← behind.same_op) ends in
      (behind, stuck_at (Some (End at ended)) cause here few stops)
