use Rattle.std.proofs.Common.{◌∙◌, ap, sym, subst, refl}
use Rattle.std.specs.Prelude.{vec_capacity}
use Rattle.oat_verify.specs.Verdict.{form, no_blob}
use Rattle.oat_feed.specs.{declared.intake.State.State, RecordPlaces.kept_bits, RecordPlaces.kept_targets, Standing.KeepsFront, Verdict.of_none}
use Rattle.oat_feed.proofs.{PlacesAre.none_kept, Settling.broken_form, Settling.same_records}
use Rattle.oat_feed.proofs.feed.Feed.settle.Goals as goal

pub returns-in_ok-judged-in-Open-clause-kept : goal.returns-in_ok-judged-in-Open-clause-kept
returns-in_ok-judged-in-Open-clause-kept c = λ s came fed.
    let keeps = subst (λ (state : State). KeepsFront state came c.args.self.intake.front.items (vec_capacity c.args.self.intake.front)) c.in-Open.is fed.intake.keeps in
    let value = c.as_slice.ensures.value in
    same_records came c.as_slice.result.now c.at.result _ (keeps.0 ∙ sym value) (c.at.ensures.bits ∙ ap (kept_bits c.in_ok-judged-in-Open.judged.places) (sym value))
    (c.at.ensures.targets ∙ ap (kept_targets c.in_ok-judged-in-Open.judged.places) (sym value)) c.in_ok-judged-in-Open.ensures.records

pub returns-in-Broken-clause-verdict : goal.returns-in-Broken-clause-verdict
returns-in-Broken-clause-verdict c = λ s came fed.
    let keeps = subst (λ (state : State). KeepsFront state came c.args.self.intake.front.items (vec_capacity c.args.self.intake.front)) c.in-Broken.is fed.intake.keeps in
    let at = broken_form came c.args.self.intake.front.items (vec_capacity c.args.self.intake.front) fed.intake.begins keeps in
    let len = c.len.ensures ∙ c.args.self.intake.front.ok.0 in
    record { verdict = _; right = form c.len.result (rw len at) refl; told = refl }

pub returns-in-Broken-clause-kept : goal.returns-in-Broken-clause-kept
returns-in-Broken-clause-kept c = λ s came fed.
    let keeps = subst (λ (state : State). KeepsFront state came c.args.self.intake.front.items (vec_capacity c.args.self.intake.front)) c.in-Broken.is fed.intake.keeps in
    let at = broken_form came c.args.self.intake.front.items (vec_capacity c.args.self.intake.front) fed.intake.begins keeps in
    of_none at.no_blob (c.at-in-Broken.ensures.bits ∙ (none_kept c.args.self.intake.front.items).0) (c.at-in-Broken.ensures.targets ∙ (none_kept c.args.self.intake.front.items).1)

pub returns-in-Broken-clause-serial : goal.returns-in-Broken-clause-serial
returns-in-Broken-clause-serial c = λ s came fed.
    let keeps = subst (λ (state : State). KeepsFront state came c.args.self.intake.front.items (vec_capacity c.args.self.intake.front)) c.in-Broken.is fed.intake.keeps in
    let at = broken_form came c.args.self.intake.front.items (vec_capacity c.args.self.intake.front) fed.intake.begins keeps in
    no_blob at.no_blob refl
