use Rattle.std.proofs.Common.{◌≡◌, ◌∙◌, ℕ, List, ◌∷◌, [], length, map, get_or, add-one, refl, ap, sym, subst, arith}
use Rattle.std.specs.String.{string_bytes}
use Rattle.std.proofs.Math.{ListN.get_or-map, Seq.take-length, Seq.take-suc}
use Rattle.std.proofs.lemmas.{List.length-map, List.map-append, Result.err_from_is_err_and}
use Rattle.oat_world.specs.Outside.{Rose}
use Rattle.oat_page.specs.{Outcome.Outcome, Loads.File, Loads.wanted_of, Loads.IsLoaded, Loads.LoadFails}
use Rattle.oat_page.proofs.Holding.{HaltsWith-more, LoadFails-more, AreLoaded-next, LoadsFail-next, length-wanted}
use Rattle.oat_page.proofs.files.load_all.Goals as goal

pub returns-in_err-file-clause-loads : goal.returns-in_err-file-clause-loads
returns-in_err-file-clause-loads g c = λ contents told.
    let p = err_from_is_err_and c.from_residual.result c.from_residual.ensures.1 in
    let names = map string_bytes c.args.names.now in
    let r = c.index-names-k.result in
    let same : length names ≡ length c.args.limits.now = rw (length-map c.args.names.now string_bytes) c.requires in
    let name : c.as_str.result.now ≡ get_or names c.loop-k.k (string_bytes r) =
    c.as_str.ensures.value ∙ (ap string_bytes c.index-names-k.is ∙ sym (get_or-map string_bytes c.args.names.now c.loop-k.k r)) in
    rw (p.1, p.2) (HaltsWith-more _ _ _ (λ (o : Outcome) failed.
    LoadsFail-next contents _ names c.args.limits.now c.loop-k.k (string_bytes r) 0 _ o same c.loop-k-test.true
    (c.loop-k.invariant.held contents told)
    (LoadFails-more contents (Rose (g.F.Files.faults c.loop-k.files) (g.F.Files.faults c.load_one.new.files)) (Rose (g.F.Files.faults c.args.files.now) (g.F.Files.faults c.load_one.new.files)) _ o
    (λ rises. omega (arith, rises, c.loop-k.invariant.faults_stay))
    (subst (λ (n : List ℕ). LoadFails contents (Rose (g.F.Files.faults c.loop-k.files) (g.F.Files.faults c.load_one.new.files)) (record { name = n; limit = get_or c.args.limits.now c.loop-k.k 0 }) o) name failed)))
    (c.in_err-file.ensures.loads contents (c.loop-k.invariant.same ∙ told)))

pub loop-k-preserved : goal.loop-k-preserved
loop-k-preserved g c =
    let names = map string_bytes c.args.names.now in
    let r = c.index-names-k.result in
    let same : length names ≡ length c.args.limits.now = rw (length-map c.args.names.now string_bytes) c.requires in
    let name : c.as_str.result.now ≡ get_or names c.loop-k.k (string_bytes r) =
    c.as_str.ensures.value ∙ (ap string_bytes c.index-names-k.is ∙ sym (get_or-map string_bytes c.args.names.now c.loop-k.k r)) in
    record {
      same = c.load_one.ensures.same ∙ c.loop-k.invariant.same;
      faults_stay = omega (arith, c.load_one.ensures.faults_stay, c.loop-k.invariant.faults_stay);
      limited = rw (
        c.in_ok-push.ensures.items,
        map-append (λ (f : File). f.limit) c.loop-k.loaded.items (c.in_ok-file.file ∷ []),
        c.loop-k.invariant.limited,
        add-one,
        take-suc c.args.limits.now c.loop-k.k 0 c.loop-k-test.true,
        c.in_ok-file.ensures.limited,
      ) refl;
      held = λ contents told. rw c.in_ok-push.ensures.items
          (AreLoaded-next contents names c.args.limits.now c.loop-k.k (string_bytes r) 0 c.loop-k.loaded.items c.in_ok-file.file same c.loop-k-test.true
          (c.loop-k.invariant.held contents told)
          (subst (λ (n : List ℕ). IsLoaded contents (record { name = n; limit = get_or c.args.limits.now c.loop-k.k 0 }) c.in_ok-file.file) name
          (c.in_ok-file.ensures.loads contents (c.loop-k.invariant.same ∙ told))));
    }

pub returns-clause-loads : goal.returns-clause-loads
returns-clause-loads g c = λ contents told.
    let names = map string_bytes c.args.names.now in
    let same : length names ≡ length c.args.limits.now = rw (length-map c.args.names.now string_bytes) c.requires in
    let all : c.loop-k.k ≡ length (wanted_of names c.args.limits.now) = rw (length-wanted names c.args.limits.now same) (omega (arith, c.loop-k-test.false, c.loop-k.auto.k-end)) in
    let held = c.loop-k.invariant.held contents told in
    rw (all, take-length (wanted_of names c.args.limits.now)) at held
