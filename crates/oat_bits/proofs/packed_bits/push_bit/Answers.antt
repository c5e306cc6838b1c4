use Rattle.std.proofs.Common.{◌≡◌, ◌<◌, ◌%◌, ◌/◌, ◌+◌, ◌-◌, ◌^◌, ℕ, List, [], ◌∷◌, ◌++◌, length, pos_of_ne-zero, get_or, ap, sym, ◌∙◌, arith, refl}
use Rattle.std.specs.Prelude.{if◌then◌else◌}
use Rattle.std.proofs.lemmas.List.{get_or_default}
use Rattle.oat_bits.specs.{Packed.packed, Bits.bits_in}
use Rattle.oat_bits.proofs.PackedForm.{length-bits_in, length-packed, packed-open, packed-fill, packed-fill-fits}
use Rattle.oat_bits.proofs.packed_bits.push_bit.Goals as goal

-- so many bytes as the bits take
held : (count : ℕ) (bytes : List ℕ) → packed (bits_in count bytes) ≡ bytes → length bytes ≡ (count + 7) / 8
held count bytes form = rw (sym (ap length form) ∙ length-packed (bits_in count bytes), length-bits_in count bytes) refl

pub push_reserved-requires : goal.push_reserved-requires
push_reserved-requires c =
    let bytes = held c.args.count c.args.bytes.now.items c.requires.form in
    omega (arith, bytes)

pub index_mut-requires : goal.index_mut-requires
index_mut-requires c =
    let bytes = held c.args.count c.args.bytes.now.items c.requires.form in
    omega (arith, bytes)

pub overflow_add-index_mut : goal.overflow_add-index_mut
overflow_add-index_mut c =
    let bytes = held c.args.count c.args.bytes.now.items c.requires.form in
    let counted = length-bits_in c.args.count c.args.bytes.now.items in
    let some : 0 < c.args.count % 8 = pos_of_ne-zero c.if-count-eq0.false in
    let old : c.index_mut.result.now ≡ get_or c.args.bytes.now.items (c.args.count / 8) 0 = c.index_mut.ensures.value ∙ get_or_default c.args.bytes.now.items (c.args.count / 8) _ 0 (omega arith) in
    let fits : get_or c.args.bytes.now.items (c.args.count / 8) 0 + (if c.args.bit then 2 ^ (7 - c.args.count % 8) else 0) < 256 =
    rw (counted, c.requires.form) at (packed-fill-fits (bits_in c.args.count c.args.bytes.now.items) c.args.bit (rw counted c.if-count-eq0.false)) in
    rw (old, c.weight-weight.ensures) (omega arith)

pub returns-then-count-eq0-clause-form : goal.returns-then-count-eq0-clause-form
returns-then-count-eq0-clause-form c =
    let counted = length-bits_in c.args.count c.args.bytes.now.items in
    let highest : c.weight-weight.result ≡ (if c.args.bit then 128 else 0) = c.weight-weight.ensures ∙ ap (λ n. if c.args.bit then 2 ^ (7 - n) else 0) c.if-count-eq0.true in
    packed-open (bits_in c.args.count c.args.bytes.now.items) c.args.bit (rw counted c.if-count-eq0.true)
    ∙ (ap (λ bytes. bytes ++ (if c.args.bit then 128 else 0) ∷ []) c.requires.form
    ∙ (ap (λ n. c.args.bytes.now.items ++ n ∷ []) (sym highest) ∙ sym c.push_reserved.ensures.items))

pub returns-else-count-eq0-clause-form : goal.returns-else-count-eq0-clause-form
returns-else-count-eq0-clause-form c =
    let bytes = held c.args.count c.args.bytes.now.items c.requires.form in
    let counted = length-bits_in c.args.count c.args.bytes.now.items in
    let some : 0 < c.args.count % 8 = pos_of_ne-zero c.if-count-eq0.false in
    let old : c.index_mut.result.now ≡ get_or c.args.bytes.now.items (c.args.count / 8) 0 = c.index_mut.ensures.value ∙ get_or_default c.args.bytes.now.items (c.args.count / 8) _ 0 (omega arith) in
    rw (old, c.weight-weight.ensures) (rw (counted, c.requires.form) at (packed-fill (bits_in c.args.count c.args.bytes.now.items) c.args.bit (rw counted c.if-count-eq0.false)))
