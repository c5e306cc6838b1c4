use Rattle.std.proofs.Common.{◌≡◌, ◌+◌, ◌++◌, [], ◌∷◌, slice_range, ap, sym, ◌∙◌, append_assoc, arith}
use Rattle.std.proofs.lemmas.{List.Edits.between_more, Option.get_or_from_slice_get}
use Rattle.oat_measure.proofs.shelf.copy_bits.Goals as goal

pub loop-i-preserved : goal.loop-i-preserved
loop-i-preserved c =
    let bits = c.args.bits.now.bits in
    let from = c.args.part.from in
    let i = c.loop-i.i in
    let bit = c.get.result in
    let so_far = slice_range bits from i in
    let next : slice_range bits from (i + 1) ≡ so_far ++ bit ∷ [] =
    between_more bits from i bit (omega arith) (omega (arith, c.requires.part.within)) ∙ ap (λ b. so_far ++ b ∷ []) (get_or_from_slice_get bits i bit bit c.get.ensures) in record {
      appended =
          c.push.ensures.appended
          ∙ (ap (λ b. b ++ bit ∷ []) c.loop-i.invariant.appended
          ∙ (append_assoc c.args.onto.now.bits so_far (bit ∷ []) ∙ ap (λ part. c.args.onto.now.bits ++ part) (sym next)));
      spare = omega (arith, c.push.ensures.spare, c.loop-i.invariant.spare);
    }
