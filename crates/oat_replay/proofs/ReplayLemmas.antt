-- Replays of the same records: which of two is the longer, where one ends, and why it is the only one.
use Rattle.std.proofs.Common.{◌≡◌, ℕ, ◌+◌, ◌≤◌, Bool, List, [], ◌∷◌, ◌++◌, length, Some, refl, sym, ap, ◌∙◌, inl, inr, ◌⊎◌, ◌<◌, append_assoc, append-nil, arith, length-append}
use Rattle.std.proofs.lemmas.{Bool.cases_lt, List.append_cancel_left, List.Elements.filter_map-append}
use Rattle.oat_map.specs.{declared.row.Row.Row, declared.row.Row.TheVariants.Jump, declared.row.Row.TheVariants.Branch, declared.row.Row.TheVariants.Call, declared.row.Row.TheVariants.ICall}
use Rattle.oat_map.specs.{declared.row.Row.TheVariants.Ret, declared.row.Row.TheVariants.Begin, declared.row.Row.TheVariants.End, declared.row.Row.TheVariants.UseCell}
use Rattle.oat_map.specs.{declared.row.Row.TheVariants.DefCell, declared.row.Row.TheVariants.UseAt, declared.row.Row.TheVariants.DefAt, declared.row.Row.TheVariants.Check, declared.edge.Edge.Edge}
use Rattle.oat_map.specs.{declared.map.Map.Map, Rows.next, Walk.Step, Walk.moved, Walk.edge_of, Walk.path_of, Walk.bit_of, Walk.bits_of, Walk.target_of, Walk.targets_of, Walk.depth, Walk.RowGoes}
use Rattle.oat_map.specs.{Walk.Leads}
use Rattle.oat_map.proofs.WalkLemmas.{Leads-continues, Continues, bits-left, targets-left}
use Rattle.oat_replay.specs.{declared.cause.ReplayCause.ReplayCause, Replay.IsWalked, Replay.FollowsRecords, Replay.StuckAt, Replay.StuckAtEnd, Replay.no_target, Replay.bad_target, Replay.wrong_end}
use Rattle.oat_replay.specs.{Replay.end_inside, Replay.unused_bits, Replay.unused_targets, Replay.OneWalk, Replay.OnePath, Replay.FollowersAreFronts, Replay.NeverBoth}
use Rattle.oat_map.specs.declared.edge.Edge.TheVariants as edges

-- of two that follow the same records, the longer one goes on where the shorter one leads
pub FollowsRecords-continues : (flow : Map) (op : ℕ) (bits : List Bool) (targets : List ℕ) (xs ys : List Step) (to other : ℕ)
    (b c : List Bool) (t u : List ℕ)
    → FollowsRecords flow op bits targets xs to b t → FollowsRecords flow op bits targets ys other c u
    → length xs ≤ length ys → Continues flow [] xs to ys other
FollowsRecords-continues flow op bits targets xs ys to other b c t u one two shorter =
    let starts : Some one.partial.from ≡ Some two.partial.from = sym one.partial.starts ∙ two.partial.starts in
    let same : one.partial.from ≡ two.partial.from = cc in
    Leads-continues flow [] one.partial.from xs ys to other b c t u one.partial.leads (rw same two.partial.leads)
    (sym one.bits_are ∙ two.bits_are) (sym one.targets_are ∙ two.targets_are) shorter

-- where a replay stops with the records that are left, no step is allowed
no_step : (flow : Map) (op : ℕ) (row : Row) (steps : List Step) (b c : List Bool) (t u : List ℕ) (cause : ReplayCause)
    (step : Step) (more : List Step) (to : ℕ)
    → StuckAt flow op (Some row) steps b t cause → RowGoes flow row steps step to
    → b ≡ bits_of (path_of (step ∷ more)) ++ c → t ≡ targets_of (path_of (step ∷ more)) ++ u → ⊥
no_step flow op (Jump at target) steps b c t u cause step more to stops goes bits targets = stops
no_step flow op (Branch at taken others) steps b c t u cause step more to stops (inl goes) bits targets =
    let none = rw (stops.0, goes.0) at bits in cc
no_step flow op (Branch at taken others) steps b c t u cause step more to stops (inr goes) bits targets =
    let none = rw (stops.0, goes.0) at bits in cc
no_step flow op (Call at target) steps b c t u cause step more to stops goes bits targets = stops
no_step flow op (ICall at params) steps b c t u cause step more to (no_target none is) goes bits targets =
    let none_left = rw (none, goes.0) at targets in cc
no_step flow op (ICall at params) steps b c t u cause step more to (bad_target target others left bad is) goes bits targets =
    let both = rw (left, goes.0) at targets in
    let same : to ≡ target = cc in
    bad (rw same at goes.1)
no_step flow op (Ret at) steps b c t u cause step more to stops goes bits targets =
    let none : depth steps ≡ 0 = stops.0 in
    let some = goes.1.open_calls in omega arith
no_step flow op (Begin at begun) steps b c t u cause step more to stops goes bits targets = goes
no_step flow op (End at ended) steps b c t u cause step more to stops goes bits targets = goes
no_step flow op (UseCell at cell) steps b c t u cause step more to stops goes bits targets = stops
no_step flow op (DefCell at cell) steps b c t u cause step more to stops goes bits targets = stops
no_step flow op (UseAt at cell len) steps b c t u cause step more to stops goes bits targets = stops
no_step flow op (DefAt at cell len) steps b c t u cause step more to stops goes bits targets = stops
no_step flow op (Check at) steps b c t u cause step more to stops goes bits targets = stops

-- nor is there a longer one
no_more : (flow : Map) (op : ℕ) (place : ℕ) (steps : List Step) (b c : List Bool) (t u : List ℕ) (cause : ReplayCause)
    (rest : List Step) (other : ℕ)
    → StuckAt flow op (next flow.rows place) steps b t cause → Leads flow steps place rest other
    → b ≡ bits_of (path_of rest) ++ c → t ≡ targets_of (path_of rest) ++ u → rest ≡ []
no_more flow op place steps b c t u cause [] other stops leads bits targets = refl
no_more flow op place steps b c t u cause (step ∷ rest) other stops (middle, goes, leads) bits targets =
    absurd (no_step flow op goes.0 steps b c t u cause step rest middle (rw goes.1 at stops) goes.2 bits targets)

pub stops_longest : (flow : Map) (op : ℕ) (bits : List Bool) (targets : List ℕ) (steps : List Step) (place : ℕ)
    (b : List Bool) (t : List ℕ) (cause : ReplayCause)
    → FollowsRecords flow op bits targets steps place b t → StuckAt flow op (next flow.rows place) steps b t cause
    → (others : List Step) (other : ℕ) (c : List Bool) (u : List ℕ)
    → FollowsRecords flow op bits targets others other c u → length others ≤ length steps
stops_longest flow op bits targets steps place b t cause follows stops others other c u longer =
    elim (cases_lt (length steps) (length others)) [
      | inl above ↦
          let on = FollowsRecords-continues flow op bits targets steps others place other b c t u follows longer (omega arith) in
          let bits_are : bits_of (path_of steps) ++ b ≡ bits_of (path_of (steps ++ on.0)) ++ c =
          sym follows.bits_are ∙ longer.bits_are ∙ ap (λ all. bits_of (path_of all) ++ c) on.1 in
          let targets_are : targets_of (path_of steps) ++ t ≡ targets_of (path_of (steps ++ on.0)) ++ u =
          sym follows.targets_are ∙ longer.targets_are ∙ ap (λ all. targets_of (path_of all) ++ u) on.1 in
          let none = no_more flow op place steps b c t u cause on.0 other stops on.2
          (bits-left steps on.0 b c bits_are) (targets-left steps on.0 t u targets_are) in
          let same : others ≡ steps = on.1 ∙ ap (λ more. steps ++ more) none ∙ append-nil steps in
          let lengths : length others ≡ length steps = ap length same in
          omega arith
      | inr below ↦ below
    ]

-- at an End row no step follows
pub at_end : (flow : Map) (steps : List Step) (place at op : ℕ) (rest : List Step) (other : ℕ)
    → next flow.rows place ≡ Some (End at op) → Leads flow steps place rest other → rest ≡ []
at_end flow steps place at op [] other ends leads = refl
at_end flow steps place at op (step ∷ rest) other ends (middle, (row, at_row, goes), leads) =
    let both : Some row ≡ Some (End at op) = sym at_row ∙ ends in
    let same : row ≡ End at op = cc in
    let never = rw same at goes in absurd never

-- the steps of a walk before its end follow the records, and leave none
module _ (flow : Map) (op : ℕ) (bits : List Bool) (targets : List ℕ) where
  path_is : (path : List Edge) → (walked : IsWalked flow op bits targets path)
      → path ≡ path_of walked.walk.front ++ edges.End op ∷ []
  path_is path walked =
      walked.path_is ∙ ap path_of walked.walk.whole ∙ filter_map-append edge_of walked.walk.front (moved (edges.End op) ∷ [])

  front_follows : (path : List Edge) → (walked : IsWalked flow op bits targets path)
      → FollowsRecords flow op bits targets walked.walk.front walked.walk.place [] []
  front_follows path walked =
      let front = walked.walk.front in
      let lengths : length walked.steps ≡ length front + 1 =
      ap length walked.walk.whole ∙ length-append front (moved (edges.End op) ∷ []) in
      let within = walked.within in
      record {
        partial = walked.walk.partial;
        within = omega arith;
        bits_are = sym walked.bits_are ∙ ap bits_of (path_is path walked) ∙ filter_map-append bit_of (path_of front) (edges.End op ∷ []);
        targets_are = sym walked.targets_are ∙ ap targets_of (path_is path walked) ∙ filter_map-append target_of (path_of front) (edges.End op ∷ []);
      }

  same_front : (one two : List Edge) → (first : IsWalked flow op bits targets one) → (second : IsWalked flow op bits targets two)
      → length first.walk.front ≤ length second.walk.front → first.steps ≡ second.steps
  same_front one two first second shorter =
      let on = FollowsRecords-continues flow op bits targets first.walk.front second.walk.front first.walk.place second.walk.place
      [] [] [] [] (front_follows one first) (front_follows two second) shorter in
      let none = at_end flow first.walk.front first.walk.place first.walk.end_address op on.0 second.walk.place first.walk.at_end on.2 in
      let same : second.walk.front ≡ first.walk.front = on.1 ∙ ap (λ more. first.walk.front ++ more) none ∙ append-nil first.walk.front in
      first.walk.whole ∙ ap (λ front. front ++ moved (edges.End op) ∷ []) (sym same) ∙ sym second.walk.whole

  follower_is_front : (path : List Edge) → (walked : IsWalked flow op bits targets path)
      → (steps : List Step) (place : ℕ) (bits_left : List Bool) (targets_left : List ℕ)
      → FollowsRecords flow op bits targets steps place bits_left targets_left
      → (length steps < length walked.walk.front) ⊎ (length walked.walk.front ≤ length steps) → (rest : List Step) × (walked.steps ≡ steps ++ rest)
  follower_is_front path walked steps place bits_left targets_left follows (inl shorter) =
      let front = walked.walk.front in
      let end : List Step = moved (edges.End op) ∷ [] in
      let on = FollowsRecords-continues flow op bits targets steps front place walked.walk.place bits_left [] targets_left []
      follows (front_follows path walked) (omega arith) in
      (on.0 ++ end, walked.walk.whole ∙ ap (λ xs. xs ++ end) on.1 ∙ append_assoc steps on.0 end)
  follower_is_front path walked steps place bits_left targets_left follows (inr longer) =
      let front = walked.walk.front in
      let end : List Step = moved (edges.End op) ∷ [] in
      let on = FollowsRecords-continues flow op bits targets front steps walked.walk.place place [] bits_left [] targets_left
      (front_follows path walked) follows longer in
      let none = at_end flow front walked.walk.place walked.walk.end_address op on.0 place walked.walk.at_end on.2 in
      let same : steps ≡ front = on.1 ∙ ap (λ more. front ++ more) none ∙ append-nil front in
      (end, walked.walk.whole ∙ ap (λ xs. xs ++ end) (sym same))

pub followers_are_fronts : FollowersAreFronts
followers_are_fronts flow op bits targets path walked steps place bits_left targets_left follows =
    follower_is_front flow op bits targets path walked steps place bits_left targets_left follows (cases_lt (length steps) (length walked.walk.front))

pub one_walk : OneWalk
one_walk flow op bits targets one two first second =
    elim (cases_lt (length first.walk.front) (length second.walk.front)) [
      | inl below ↦ same_front flow op bits targets one two first second (omega arith)
      | inr above ↦ sym (same_front flow op bits targets two one second first above)
    ]

pub one_path : OnePath
one_path flow op bits targets one two first second =
    first.path_is ∙ ap path_of (one_walk flow op bits targets one two first second) ∙ sym second.path_is

-- the records that are left behind the same steps are the same
same_bits : (all before b c : List Bool) → all ≡ before ++ b → all ≡ before ++ c → b ≡ c
same_bits all before b c one two = append_cancel_left before b c (sym one ∙ two)

same_targets : (all before b c : List ℕ) → all ≡ before ++ b → all ≡ before ++ c → b ≡ c
same_targets all before b c one two = append_cancel_left before b c (sym one ∙ two)

-- the end of a walk is no place to stop
not_stopped : (op level bits targets : ℕ) (cause : ReplayCause) → level ≡ 0 → bits ≡ 0 → targets ≡ 0
    → StuckAtEnd op op level bits targets cause → ⊥
not_stopped op level bits targets cause l b t (wrong_end other is) = other refl
not_stopped op level bits targets cause l b t (end_inside same open_call is) = omega arith
not_stopped op level bits targets cause l b t (unused_bits same closed some is) = omega arith
not_stopped op level bits targets cause l b t (unused_targets same closed used some is) = omega arith

pub never_both : NeverBoth
never_both flow op bits targets path cause turn walked stuck =
    let front = walked.walk.front in
    let follows : FollowsRecords flow op bits targets front walked.walk.place [] [] = front_follows flow op bits targets path walked in
    let shorter = stuck.longest front walked.walk.place [] [] follows in
    let on = FollowsRecords-continues flow op bits targets front stuck.steps walked.walk.place stuck.place [] stuck.bits_left [] stuck.targets_left
    follows stuck.follows shorter in
    let none = at_end flow front walked.walk.place walked.walk.end_address op on.0 stuck.place walked.walk.at_end on.2 in
    let same : stuck.steps ≡ front = on.1 ∙ ap (λ more. front ++ more) none ∙ append-nil front in
    let same_place : walked.walk.place ≡ stuck.place = rw none at on.2 in
    let lengths : length walked.steps ≡ length front + 1 =
    ap length walked.walk.whole ∙ length-append front (moved (edges.End op) ∷ []) in
    let fewer : length stuck.steps ≡ length front = ap length same in
    let within = walked.within in
    let stops = stuck.before_limit (omega arith) in
    let here : next flow.rows stuck.place ≡ Some (End walked.walk.end_address op) =
    ap (λ place. next flow.rows place) (sym same_place) ∙ walked.walk.at_end in
    let ends = rw here at stops in
    let bits_are : bits ≡ bits_of (path_of front) ++ stuck.bits_left =
    stuck.follows.bits_are ∙ ap (λ steps. bits_of (path_of steps) ++ stuck.bits_left) same in
    let targets_are : targets ≡ targets_of (path_of front) ++ stuck.targets_left =
    stuck.follows.targets_are ∙ ap (λ steps. targets_of (path_of steps) ++ stuck.targets_left) same in
    not_stopped op (depth stuck.steps) (length stuck.bits_left) (length stuck.targets_left) cause
    (ap depth same ∙ walked.walk.closed)
    (ap length (same_bits bits (bits_of (path_of front)) stuck.bits_left [] bits_are follows.bits_are))
    (ap length (same_targets targets (targets_of (path_of front)) stuck.targets_left [] targets_are follows.targets_are))
    ends
