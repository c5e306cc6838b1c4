-- From one step to all steps: where a run of the image stands behind k steps of the source, and what it has shown.
use Rattle.std.proofs.Common.{◌≡◌, ◌+◌, ◌-◌, ◌*◌, ◌≤◌, ℕ, zero, suc, ℤ, List, [], ◌++◌, map, Option, Some, None, option_map, refl, sym, ap, subst, ◌∙◌, arith, append-nil}
use Rattle.std.proofs.lemmas.List.{map-append}
use Rattle.oat_journal.specs.{Image, Cells, SourceEvent, Finish, SourceKeeps, SourceMachine, end_after, events_after, shown_from, state_after, declared.end.DeviceEnd.DeviceEnd, Run.Running}
use Rattle.oat_journal.specs.{Run.journal_from, Run.started, Run.turns}
use Rattle.oat_journal.proofs.RunLaws.{ended_runs_rest, turns_add}
use Rattle.oat_follow.specs.{Events.MachineEvent, Events.events_of, Placement.AreNamed, Placement.Placement, Placement.seen_at, Reaching.run_on, Reaching.shown_on, Steps.FollowsSteps, Steps.IsMatched}
use Rattle.oat_follow.specs.{Steps.device_end, Steps.instructions_for, Steps.step_limit}
use Rattle.oat_follow.proofs.{Naming.named-append, Reaching.shown-adds}

-- how a run ended
pub record Ends (m : Running) : Type 0 where
  pub why : DeviceEnd
  pub is : m.end ≡ Some why

pub rests : (image : Image) (n : ℕ) (m : Running) → Ends m → run_on image n m ≡ m
rests image n m ends = (ended_runs_rest image.code [] n m ends.why ends.is).same

pub shows-no-more : (image : Image) (n : ℕ) (m : Running) → Ends m → shown_on image n m ≡ []
shows-no-more image n m ends = ap (events_of image.map) (ended_runs_rest image.code [] n m ends.why ends.is).no_more

run-adds : (image : Image) (a b : ℕ) (m : Running) → run_on image (a + b) m ≡ run_on image b (run_on image a m)
run-adds image a b m = (turns_add image.code [] a b m).run

module _ (S : SourceMachine) (image : Image) (p : Placement S.Edge) (inputs : List ℤ) (words : Cells) (K : SourceKeeps S words) (M : FollowsSteps S image p inputs) where
  pub ends-as : (s : S.State) (m : Running) (why : Finish) → M.Related s m → S.end s ≡ Some why → Ends m
  ends-as s m why r is = record { why = device_end why; is = M.ends s m r ∙ ap (λ (e : Option Finish). option_map device_end e) is }

  -- an ended source stays, and so does the image
  matched-ended : (s : S.State) (m : Running) (why : Finish) → M.Related s m → S.end s ≡ Some why → IsMatched S image p M.Related s m
  matched-ended s m why r is =
      let ends = ends-as s m why r is in
      record {
        count = 1;
        some = omega arith;
        few = omega arith;
        kept = subst (λ (t : S.State). M.Related t (run_on image 1 m)) (sym (K.stays s why is)) (subst (M.Related s) (sym (rests image 1 m ends)) r);
        alike = shows-no-more image 1 m ends ∙ sym (ap (map (seen_at p)) (K.quiet s why is));
        named = subst (λ (es : List (SourceEvent S.Edge)). AreNamed image.map p S.name es) (sym (K.quiet s why is)) tt;
      }

  matched-by : (s : S.State) (m : Running) (e : Option Finish) → S.end s ≡ e → M.Related s m → IsMatched S image p M.Related s m
  matched-by s m None is r = M.step s m r is
  matched-by s m (Some why) is r = matched-ended s m why r is

  -- k steps from related states
  pub record Reached (k : ℕ) (s : S.State) (m : Running) : Type 0 where
    pub count : ℕ
    pub some : k ≤ count
    pub few : count ≤ step_limit * k
    pub kept : M.Related (state_after S k s) (run_on image count m)
    pub alike : shown_on image count m ≡ map (seen_at p) (shown_from S k s)
    pub named : AreNamed image.map p S.name (shown_from S k s)

  further : (k c : ℕ) (s : S.State) (m : Running) (w : IsMatched S image p M.Related s m) → Reached k (S.next s) (run_on image w.count m) → Reached (suc k) s m
  further k c s m w rest =
      let some_1 = w.some in
      let some_2 = rest.some in
      let few_1 = w.few in
      let few_2 = rest.few in
      record {
        count = w.count + rest.count;
        some = omega (arith, some_1, some_2);
        few = omega (arith, few_1, few_2);
        kept = subst (M.Related (state_after S k (S.next s))) (sym (run-adds image w.count rest.count m)) rest.kept;
        alike = shown-adds image w.count rest.count m
            ∙ ap (λ (es : List MachineEvent). es ++ shown_on image rest.count (run_on image w.count m)) w.alike
            ∙ ap (λ (es : List MachineEvent). map (seen_at p) (S.show s) ++ es) rest.alike
            ∙ sym (map-append (seen_at p) (S.show s) (shown_from S k (S.next s)));
        named = named-append image.map p S.name (S.show s) (shown_from S k (S.next s)) w.named rest.named;
      }

  reached : (k : ℕ) (s : S.State) (m : Running) → M.Related s m → Reached k s m
  unfolding turns journal_from
  reached zero s m r = record { count = 0; some = omega arith; few = omega arith; kept = r; alike = refl; named = tt }
  reached (suc k) s m r =
      let w = matched-by s m (S.end s) refl r in
      further k 0 s m w (reached k (S.next s) (run_on image w.count m) w.kept)

  -- k steps from the start
  pub record Stands (k : ℕ) : Type 0 where
    pub count : ℕ
    pub some : k ≤ count
    pub few : count ≤ instructions_for k
    pub kept : M.Related (state_after S k S.start) (run_on image count (started image inputs))
    pub alike : shown_on image count (started image inputs) ≡ map (seen_at p) (events_after S k)
    pub named : AreNamed image.map p S.name (events_after S k)

  pub stands : (k : ℕ) → Stands k
  stands k =
      let first = run_on image M.lead (started image inputs) in
      let w = reached k S.start first M.first in
      let some_1 = w.some in
      let few_1 = w.few in
      let few_2 = M.few in
      record {
        count = M.lead + w.count;
        some = omega (arith, some_1);
        few = omega (arith, few_1, few_2);
        kept = subst (M.Related (state_after S k S.start)) (sym (run-adds image M.lead w.count (started image inputs))) w.kept;
        alike = shown-adds image M.lead w.count (started image inputs)
            ∙ ap (λ (es : List MachineEvent). es ++ shown_on image w.count first) M.silent ∙ w.alike;
        named = w.named;
      }

  -- what is behind where it stands
  pub record Shows (k n : ℕ) : Type 0 where
    pub rest : List MachineEvent
    pub more : map (seen_at p) (events_after S k) ++ rest ≡ shown_on image n (started image inputs)

  pub shows-by : (k n : ℕ) → instructions_for k ≤ n → Shows k n
  shows-by k n enough =
      let w = stands k in
      let few = w.few in
      let reach : w.count + (n - w.count) ≡ n = omega (arith, few) in
      record {
        rest = shown_on image (n - w.count) (run_on image w.count (started image inputs));
        more = ap (λ (es : List MachineEvent). es ++ shown_on image (n - w.count) (run_on image w.count (started image inputs))) (sym w.alike)
            ∙ sym (shown-adds image w.count (n - w.count) (started image inputs))
            ∙ ap (λ (k : ℕ). shown_on image k (started image inputs)) reach;
      }

  pub record Lags (n : ℕ) : Type 0 where
    pub rest : List MachineEvent
    pub more : shown_on image n (started image inputs) ++ rest ≡ map (seen_at p) (events_after S n)

  pub lags : (n : ℕ) → Lags n
  lags n =
      let w = stands n in
      let some = w.some in
      let reach : n + (w.count - n) ≡ w.count = omega (arith, some) in
      record {
        rest = shown_on image (w.count - n) (run_on image n (started image inputs));
        more = sym (shown-adds image n (w.count - n) (started image inputs)) ∙ ap (λ (k : ℕ). shown_on image k (started image inputs)) reach ∙ w.alike;
      }

  -- where the source has ended
  pub record Ended (k n : ℕ) (why : Finish) : Type 0 where
    pub end : (run_on image n (started image inputs)).end ≡ Some (device_end why)
    pub alike : shown_on image n (started image inputs) ≡ map (seen_at p) (events_after S k)

  pub ended-by : (k n : ℕ) (why : Finish) → end_after S k ≡ Some why → instructions_for k ≤ n → Ended k n why
  unfolding ends-as
  ended-by k n why is enough =
      let w = stands k in
      let few = w.few in
      let m = run_on image w.count (started image inputs) in
      let reach : w.count + (n - w.count) ≡ n = omega (arith, few) in
      let ends = ends-as (state_after S k S.start) m why w.kept is in
      let same : run_on image n (started image inputs) ≡ m =
      ap (λ (k : ℕ). run_on image k (started image inputs)) (sym reach) ∙ run-adds image w.count (n - w.count) (started image inputs) ∙ rests image (n - w.count) m ends in
      record {
        end = ap (λ (x : Running). x.end) same ∙ ends.is;
        alike = ap (λ (k : ℕ). shown_on image k (started image inputs)) (sym reach) ∙ shown-adds image w.count (n - w.count) (started image inputs)
            ∙ ap (λ (es : List MachineEvent). shown_on image w.count (started image inputs) ++ es) (shows-no-more image (n - w.count) m ends)
            ∙ append-nil (shown_on image w.count (started image inputs)) ∙ w.alike;
      }

  -- where the image has ended
  pub record Has (n : ℕ) (why : DeviceEnd) : Type 0 where
    pub finish : Finish
    pub is : end_after S n ≡ Some finish
    pub end : why ≡ device_end finish
    pub alike : shown_on image n (started image inputs) ≡ map (seen_at p) (events_after S n)

  some-as : (e : Option Finish) (why : DeviceEnd) → Some why ≡ option_map device_end e → (finish : Finish) × (e ≡ Some finish) × (why ≡ device_end finish)
  some-as None why h = absurd (cc)
  some-as (Some finish) why h = (finish, refl, (cc))

  pub has-ended : (n : ℕ) (why : DeviceEnd) → (run_on image n (started image inputs)).end ≡ Some why → Has n why
  has-ended n why h =
      let w = stands n in
      let some = w.some in
      let m = run_on image n (started image inputs) in
      let ends : Ends m = record { why = why; is = h } in
      let reach : n + (w.count - n) ≡ w.count = omega (arith, some) in
      let same : run_on image w.count (started image inputs) ≡ m =
      ap (λ (k : ℕ). run_on image k (started image inputs)) (sym reach) ∙ run-adds image n (w.count - n) (started image inputs) ∙ rests image (w.count - n) m ends in
      let end : Some why ≡ option_map device_end (end_after S n) = sym h ∙ sym (ap (λ (x : Running). x.end) same) ∙ M.ends (state_after S n S.start) (run_on image w.count (started image inputs)) w.kept in
      let f = some-as (end_after S n) why end in
      record {
        finish = f.0;
        is = f.1;
        end = f.2;
        alike = sym (append-nil (shown_on image n (started image inputs)))
            ∙ ap (λ (es : List MachineEvent). shown_on image n (started image inputs) ++ es) (sym (shows-no-more image (w.count - n) m ends))
            ∙ sym (shown-adds image n (w.count - n) (started image inputs)) ∙ ap (λ (k : ℕ). shown_on image k (started image inputs)) reach ∙ w.alike;
      }
