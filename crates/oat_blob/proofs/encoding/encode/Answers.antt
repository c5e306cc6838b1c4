use Rattle.std.proofs.Common.{◌≡◌, ◌<◌, ◌^◌, ◌++◌, [], ◌∙◌, ap, arith}
use Rattle.std.proofs.lemmas.List.Elements.{All-from_get_or}
use Rattle.oat_hmac.specs.Hmac.{hmac}
use Rattle.oat_blob.specs.{Layout.bits_part, Layout.targets_part, Parts.head_part}
use Rattle.oat_blob.proofs.Sealed.{is_sealed}
use Rattle.oat_blob.proofs.encoding.encode.Goals as goal

pub returns : goal.returns
returns c =
    let head : c.put_head.new.out.items ≡ head_part c.args.head.now = c.in_ok-put_head.ensures.put ∙ ap (λ xs. xs ++ head_part c.args.head.now) c.new-out.ensures.items in
    let bits : c.put_bits.new.out.items ≡ head_part c.args.head.now ++ bits_part c.args.bits.now.bits = c.in_ok-put_bits.ensures ∙ ap (λ xs. xs ++ bits_part c.args.bits.now.bits) head in
    let put : c.put_targets.new.out.items ≡ (head_part c.args.head.now ++ bits_part c.args.bits.now.bits) ++ targets_part c.args.targets.now =
    c.in_ok-put_targets.ensures ∙ ap (λ xs. xs ++ targets_part c.args.targets.now) bits in
    let addresses = All-from_get_or (λ target. target < 2 ^ 64) c.args.targets.now 0 (λ i below. let here = c.type_inv.targets i in omega arith) in
    is_sealed c.args.head.now c.args.bits.now.bits c.args.targets.now c.args.key.now c.put_targets.new.out.items c.finish.result c.put_bytes.new.out.items
    c.in_ok-put_head.ensures.fits c.requires.bits c.requires.targets addresses
    put (c.finish.ensures c.args.key.now ([] ++ c.deref.result.now) (c.update.ensures c.args.key.now [] c.new-mac.ensures) ∙ ap (hmac c.args.key.now) c.deref.ensures.value) c.put_bytes.ensures.fits c.in_ok-put_bytes.ensures.put
