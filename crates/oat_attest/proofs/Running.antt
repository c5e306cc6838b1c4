-- The window of an honest sealed run is a walk, and its blob is accepted.
use Rattle.std.proofs.Common.{◌≡◌, ◌+◌, ◌<◌, ◌⊎◌, inl, inr, ℕ, suc, Option, option_map, List, [], ◌∷◌, ◌++◌, Some, None, refl, sym, ap, subst, ◌∙◌, arith}
use Rattle.std.specs.{Prelude.IfSome, Prelude.unwrap_or, List.slice_get}
use Rattle.oat_map.proofs.StackLemmas.{IsStack-empty}
use Rattle.oat_shape.proofs.Laid.{laid}
use Rattle.oat_journal.specs.{next_pc, chain, Edge, Begin, after, moved, Walk, bit_of, bits_of, target_of, targets_of, return_of, returns_of, serial_of, Run.Entry, Window.made_call}
use Rattle.oat_journal.specs.{Window.executed_path, Window.returned, Window.recorded_bit, Window.recorded_target, Window.returns_of_run, Measured.dev, Measured.window_of, Measured.opening_of}
use Rattle.oat_journal.specs.{Trace.IsQuiet, Trace.IsTrace}
use Rattle.oat_journal.proofs.RunLaws.{bodies_are_called_for, bodies_tell_windows, no_violation_means_sound, windows_are_short, windows_are_traces}
use Rattle.oat_verify.specs.{Verdict.FitsSession, Verdict.IsVerdict, Verdict.subject_of, Verdict.head_of, declared.verdict.Verdict.TheVariants.Accept}
use Rattle.oat_verify.proofs.OneVerdict.{one_verdict, acceptance_at_once}
use Rattle.oat_attest.specs.{Honest.TracesAreWalks, Honest.HonestRunsWalk, Honest.HonestRunsAreAccepted, Honest.SoundRunsAreAccepted, Lockstep.ExecutesWalk}
use Rattle.oat_attest.proofs.{Stretches.Runs, Stretches.moved_to, Places.called_none, Executing.bits_agree, Executing.targets_agree, Executing.returns_agree, Executing.executed_leads}
use Rattle.oat_attest.proofs.{Joining.trace_runs, Joining.starts_at, Joining.walk_path, Joining.walk_records, Joining.walk_length, Walking.NoneBegins, Walking.finds}
use Rattle.oat_map.specs.declared.edge.Edge.TheVariants as edges
use Rattle.oat_journal.specs.svc as svc

-- ---- no operation begins in a trace

no_two : (before others : List Entry) (e : Entry) → before ++ e ∷ others ≡ [] → ⊥
no_two [] others e is = cc
no_two (b ∷ before) others e is = cc

split_last : (before front others : List Entry) (e final : Entry) → before ++ e ∷ others ≡ front ++ final ∷ [] → (e ≡ final) ⊎ ((k : ℕ) × (slice_get front k ≡ Some e))
split_last [] [] others e final is = inl (cc)
split_last [] (f ∷ front) others e final is = inr (0, (let same : e ≡ f = cc in ap Some (sym same)))
split_last (b ∷ before) [] others e final is = absurd (no_two before others e (let rest : before ++ e ∷ others ≡ [] = cc in rest))
split_last (b ∷ before) (f ∷ front) others e final is =
    elim (split_last before front others e final (let rest : before ++ e ∷ others ≡ front ++ final ∷ [] = cc in rest)) [
      | inl same ↦ inl same
      | inr (k, at) ↦ inr (suc k, at)
    ]

none_begins : (code : List ℕ) (op from : ℕ) (es : List Entry) → IsTrace code op from es → NoneBegins es
none_begins code op from es t b =
    elim (split_last b.before t.front b.others b.e t.last (sym b.whole ∙ t.whole)) [
      | inl same ↦ let both : Some (svc.Begin b.op b.at) ≡ Some (svc.End op) = sym b.called ∙ ap made_call same ∙ t.seals in absurd (cc)
      | inr (k, at) ↦ subst IsQuiet b.called (t.quiet k b.e at)
    ]

-- ---- the walk

pub traces_are_walks : TracesAreWalks
traces_are_walks image op begin_at es formed shaped (at, has, begins_there) trace back =
    let l = laid image formed shaped in
    let from = after (Begin at op) in
    let there = starts_at image l op at begin_at has begins_there in
    let runs = trace_runs image.code op (next_pc begin_at) es trace in
    let found = finds image l op es [] [] from runs.0 IsStack-empty (called_none image.map.rows) there.1
    (subst (λ (p : ℕ). Runs image.code op (moved_to runs.0 p) es) there.0 runs.1) (none_begins image.code op (next_pc begin_at) es trace) back in
    let steps = found.steps ++ moved (edges.End op) ∷ [] in
    let walk : Walk image.map op steps = record {
      front = found.steps;
      place = found.place;
      partial = record { from = from; starts = l.begun at op has; leads = executed_leads image op [] from found.steps es found.place found.rest found.executes };
      closed = found.closed;
      end_address = found.finish;
      at_end = found.ends.at_row;
      whole = refl;
    } in
    let x : ExecutesWalk image op steps walk es = record { rest = found.rest; executes = found.executes; ends = found.ends } in
    record {
      steps = steps;
      walk = walk;
      executes = x;
      path = walk_path image op steps walk es x;
      bits = sym (walk_records recorded_bit bit_of refl bits_agree image op steps walk es refl refl x);
      targets = sym (walk_records recorded_target target_of refl targets_agree image op steps walk es refl refl x);
      returns = sym (walk_records returned return_of refl returns_agree image op steps walk es refl refl x);
      short = walk_length image op steps walk es x;
    }

pub honest_runs_walk : HonestRunsWalk
honest_runs_walk image session begin_at setting inputs writes n s body given has back =
    let o = opening_of image session begin_at in
    let es = window_of o s (dev image o inputs writes n) in
    let w = traces_are_walks image session.op begin_at es setting.well_formed setting.shaped setting.begins (windows_are_traces image o inputs writes n s body given has) back in
    let tells = bodies_tell_windows image o inputs writes n s body has in
    record {
      walk = w;
      bits = w.bits ∙ sym tells.bits;
      targets = w.targets ∙ sym tells.targets;
      hash = tells.hash
          ∙ (ap (λ (number : Option ℕ). chain (head_of (subject_of image session) number) (returns_of_run es)) (sym tells.serial)
          ∙ ap (chain (head_of (subject_of image session) body.head.serial)) (sym w.returns));
      within = (let short = w.short in let m = windows_are_short image o inputs writes n s in omega arith);
    }

-- ---- the verdict

-- the number of a window that a session calls for
fits_session : (calls serial : Option ℕ) (s most : ℕ) → serial ≡ option_map (λ (first : ℕ). first + s) (option_map (λ (n : ℕ). 0) calls) → most ≡ unwrap_or calls 1 → IfSome calls (λ k. 0 < k)
    → ((s ≡ 0) ⊎ ((number : ℕ) × (serial ≡ Some number) × (number < most))) → FitsSession serial calls
fits_session None serial s most is bound some due = subst (λ (n : Option ℕ). FitsSession n None) (sym is) tt
fits_session (Some k) serial s most is bound some (inl first) =
    let low : 0 + s < k = omega (arith, some, first) in
    subst (λ (n : Option ℕ). FitsSession n (Some k)) (sym is) low
fits_session (Some k) serial s most is bound some (inr due) =
    let same : 0 + s ≡ due.0 = (let h : Some (0 + s) ≡ Some due.0 = sym is ∙ due.1 in cc) in
    let few : due.0 < most = due.2 in
    let low : 0 + s < k = omega (arith, few, same, bound) in
    subst (λ (n : Option ℕ). FitsSession n (Some k)) (sym is) low

pub honest_runs_are_accepted : HonestRunsAreAccepted
honest_runs_are_accepted image session begin_at setting inputs writes n s body given has back some clean few bytes blob =
    let o = opening_of image session begin_at in
    let path = executed_path image.map session.op (window_of o s (dev image o inputs writes n)) in
    let w = honest_runs_walk image session begin_at setting inputs writes n s body given has back in
    let tells = bodies_tell_windows image o inputs writes n s body has in
    record {
      body = body;
      mac = _;
      is_blob = blob;
      right_mac = refl;
      nonce = tells.nonce;
      serial = subst (λ (number : Option ℕ). FitsSession number session.calls) (sym tells.serial)
          (fits_session session.calls (serial_of o s) s o.calls refl refl some (bodies_are_called_for image o inputs writes n s body has));
      operation = tells.op;
      image = tells.digest;
      walked = record {
        steps = w.walk.steps;
        walk = w.walk.walk;
        within = (let within = w.within in omega arith);
        path_is = w.walk.path;
        bits_are = ap bits_of w.walk.path ∙ w.bits;
        targets_are = ap targets_of w.walk.path ∙ w.targets;
      };
      hash = w.hash ∙ ap (λ (xs : List Edge). chain (head_of (subject_of image session) body.head.serial) (returns_of xs)) (sym w.walk.path);
      clean = clean;
    }

-- ---- as `verify` sees it

pub sound_runs_are_accepted : SoundRunsAreAccepted
sound_runs_are_accepted image session begin_at setting inputs writes n s body given has back some sound few bytes blob v =
    let o = opening_of image session begin_at in
    let clean = (no_violation_means_sound image o inputs writes n s body has).none sound in
    let path = executed_path image.map session.op (window_of o s (dev image o inputs writes n)) in
    let accepts = honest_runs_are_accepted image session begin_at setting inputs writes n s body given has back some clean few bytes blob in
    let verdict = (acceptance_at_once (subject_of image session) bytes path).1 accepts in (
      λ other. one_verdict (subject_of image session) bytes v (Accept path) other verdict,
      λ same. subst (IsVerdict (subject_of image session) bytes) (sym same) verdict,
    )
