-- The room of `trace`: the path that is shown of a window has edges of the map alone, and where the part ends with `same`, the run followed the accepted path.
use Rattle.std.proofs.Common.{◌≡◌, ◌∙◌, ◌<◌, ℕ, List, length, map, get_or, Option, Some, None, inl, inr, refl, sym, ap, subst, arith}
use Rattle.std.specs.List.{All}
use Rattle.std.proofs.lemmas.List.{get_or-map, length-map}
use Rattle.oat_shape.proofs.Laid.{laid}
use Rattle.oat_journal.proofs.RunLaws.{windows_are_traces}
use Rattle.oat_verify.proofs.OneVerdict.{acceptance_at_once}
use Rattle.oat_attest.specs.Headline.{Followed, IsSetting, calls_before}
use Rattle.oat_attest.proofs.Headlines.{headline}
use Rattle.oat_room_device.specs.{Clash, CheckedUse as ShownUse, WatchedWindow, use_of, FoundDefined, HasItsVerdict, OfEach, PartsFrom, Device.run_of, Trace.AreTraced, Trace.parting_text}
use Rattle.oat_room_attest.specs.{Case, Image, Edge, IsOperation, returns_of, opening_of, window_of, AreGiven, CheckedUse, IsSound, returns_of_run, serial_of, IsEdgeOf, same_text, Verdict, Accept}
use Rattle.oat_room_attest.specs.{Refuse, IsVerdict, head_of, subject_of, line}
use Rattle.oat_tool.specs.TraceLaws.{SameIsFollowed}
use Rattle.oat_tool.proofs.TracedEdges.{takes_edges}

-- only an acceptance with nothing apart ends with `same`
ends_with_same : (verdict : Verdict) (apart : Option Clash) → parting_text verdict apart ≡ line same_text → (path : List Edge) × (verdict ≡ Accept path) × (apart ≡ None)
ends_with_same (Accept path) None ends = (path, refl, refl)
ends_with_same (Accept path) (Some clash) ends = absurd (let letter : Path ℕ 97 115 = ap (λ (text : List ℕ). get_or text 0 0) ends in omega arith)
ends_with_same (Refuse cause) apart ends = absurd (let letter : Path ℕ 0 115 = ap (λ (text : List ℕ). get_or text 0 0) ends in omega arith)

all_found_defined : (uses : List ShownUse) → All IsSound (map use_of uses) → All FoundDefined uses
all_found_defined uses sound k d below =
    let there : k < length (map use_of uses) = rw length-map below in
    subst (λ (used : CheckedUse). IsSound used) (get_or-map use_of uses k d (use_of d) below) (sound k (use_of d) there)

module _ (image : Image) (case : Case) (begin_at : ℕ) (setting : IsSetting image case.session begin_at) (given : AreGiven case.inputs case.writes) where
  -- where the returns are those of the accepted path, there is no clash
  follows : (s : ℕ) (shown : WatchedWindow) (path : List Edge) → HasItsVerdict image case.session begin_at (run_of image case begin_at) s shown
      → shown.verdict ≡ Accept path → returns_of_run (window_of (opening_of image case.session begin_at) s (run_of image case begin_at)) ≡ returns_of path
      → Followed image case.session.op path (calls_before (opening_of image case.session begin_at) s (run_of image case begin_at))
      (window_of (opening_of image case.session begin_at) s (run_of image case begin_at))
  follows s shown path has accepts equal =
      let judged = subst (IsVerdict (subject_of image case.session) has.bytes) accepts has.judged in
      let accepted = (acceptance_at_once (subject_of image case.session) has.bytes path).0 judged in
      elim (headline image case.session begin_at setting has.bytes path accepted case.inputs case.writes case.steps s has.body given has.reported) [
        | inl followed ↦ followed
        | inr clashes ↦ absurd (clashes.differ equal)
      ]

  pub same_is_followed : (windows : List WatchedWindow) → AreTraced image case begin_at windows → OfEach windows (SameIsFollowed image case begin_at)
  same_is_followed windows traced s shown at ends =
      let told = ends_with_same shown.verdict shown.apart ends in
      let head = head_of (subject_of image case.session) (serial_of (opening_of image case.session begin_at) s) in
      let returns = returns_of_run (window_of (opening_of image case.session begin_at) s (run_of image case begin_at)) in
      let parts = subst (λ (v : Verdict). PartsFrom head returns v shown.apart) told.1 (traced.parted s shown at) in
      let equal : returns ≡ returns_of told.0 = subst (λ (a : Option Clash). PartsFrom head returns (Accept told.0) a) told.2 parts in
      let followed = follows s shown told.0 (traced.judged s shown at) told.1 equal in
      let shows = traced.shown s shown at in (
        told.0,
        told.1,
        record {
          followed = followed;
          path_is = shows.path ∙ followed.executed;
          uses_agree = all_found_defined shown.uses.items (subst (All IsSound) (sym shows.uses) followed.sound);
        },
      )

  pub shown_edges : IsOperation image.map case.session.op → (windows : List WatchedWindow) → AreTraced image case begin_at windows
      → OfEach windows (λ s shown. All (IsEdgeOf image.map) shown.path)
  shown_edges begun windows traced s shown at =
      let o = opening_of image case.session begin_at in
      let judged = traced.judged s shown at in
      let trace = windows_are_traces image o case.inputs case.writes case.steps s judged.body given judged.reported.has in
      subst (All (IsEdgeOf image.map)) (sym (traced.shown s shown at).path)
      (takes_edges image (laid image setting.well_formed setting.shaped) case.session.op begun (window_of o s (run_of image case begin_at)) trace.made)
