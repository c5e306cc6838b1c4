use Rattle.std.proofs.Common.{◌≡◌, ◌++◌, slice_range, length, ap, refl, ◌∙◌, arith}
use Rattle.std.proofs.lemmas.{List.take_all, Slice.between_from_start}
use Rattle.oat_measure.specs.declared.shelf.Filed.{Filed}
use Rattle.oat_measure.proofs.Filing.{filed-push}
use Rattle.oat_measure.proofs.shelf.Shelf.put.Goals as goal

pub returns-clause-bodies : goal.returns-clause-bodies
returns-clause-bodies c =
    let inside = c.self.inside in
    let bits = c.args.bits.now.bits in
    let targets = c.args.targets.now in
    let whole : slice_range bits 0 c.len.result ≡ bits = between_from_start bits c.len.result ∙ take_all c.len.result bits (omega (arith, c.len.ensures)) in
    let bits_now : c.copy_bits.new.onto.bits ≡ inside.bits.bits ++ bits = c.copy_bits.ensures.appended ∙ ap (λ part. inside.bits.bits ++ part) whole in
    let targets_now : c.copy_targets.new.onto.items ≡ inside.targets.items ++ targets = c.copy_targets.ensures.appended in
    let filed_now = c.push_reserved.ensures.items in
    let last : Filed = record {
      head = c.args.head;
      bits = record { from = c.len-bits_from.result; to = c.len-2.result };
      targets = record { from = c.len-targets_from.result; to = c.len-3.result };
    } in
    let bits_from = c.len-bits_from.ensures in
    let bits_to = c.len-2.ensures ∙ ap length bits_now in
    let targets_from : c.len-targets_from.result ≡ length inside.targets.items = c.len-targets_from.ensures ∙ inside.targets.ok.0 in
    let targets_to : c.len-3.result ≡ length (inside.targets.items ++ targets) = c.len-3.ensures ∙ (c.copy_targets.new.onto.ok.0 ∙ ap length targets_now) in
    rw (bits_now, targets_now, filed_now, ← c.self.view_is) (filed-push inside.bits.bits bits inside.targets.items targets inside.filed.items last c.self.invariant (rw (bits_from, bits_to) refl) (rw (targets_from, targets_to) refl))
