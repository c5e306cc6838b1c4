use Rattle.std.proofs.Common.{◌≡◌, ◌+◌, ◌*◌, ◌≤◌, ℕ, length, subst, sym, ap, ◌∙◌, arith, drop, List, None}
use Rattle.std.specs.{Ordering.nat_cmp, BTreeMap.get}
use Rattle.oat_asm.proofs.StandingItems.{laid_words_encode}
use Rattle.oat_match.specs.{code_base, Assembled, LabelAt, address, words_needed, layout}
use Rattle.oat_build.proofs.Labels.{addresses_known, last_known}
use Rattle.oat_build.proofs.addresses.LabelAddresses.new.Goals as goal

pub overflow_mul-end : goal.overflow_mul-end
overflow_mul-end c =
    let items = c.args.items.now in
    let long = (laid_words_encode items c.requires.whole).0 in
    let same : length c.args.assembled.now.code ≡ length (layout items code_base).code = ap (λ (a : Assembled). length a.code) c.requires.laid in
    let few : words_needed items ≤ 131072 = c.requires.whole.few in
    omega arith

pub overflow_add-end : goal.overflow_add-end
overflow_add-end c =
    let items = c.args.items.now in
    let long = (laid_words_encode items c.requires.whole).0 in
    let same : length c.args.assembled.now.code ≡ length (layout items code_base).code = ap (λ (a : Assembled). length a.code) c.requires.laid in
    let few : words_needed items ≤ 131072 = c.requires.whole.few in
    omega arith

pub returns : goal.returns
returns c = λ label.
    let items = c.args.items.now in
    let entries = c.as_slice-entry-items.result.now in
    let long = (laid_words_encode items c.requires.whole).0 in
    let code : c.len.result ≡ words_needed items = c.len.ensures ∙ ap (λ (a : Assembled). length a.code) c.requires.laid ∙ long in
    let listed : entries ≡ (layout items code_base).labels = c.as_slice-entry-items.ensures ∙ ap (λ (a : Assembled). a.labels) c.requires.laid in
    let known = get nat_cmp c.loop-entry.known label in
    let past : length (layout items code_base).labels ≤ c.loop-entry.entry-index = subst (λ (xs : List LabelAt). length xs ≤ c.loop-entry.entry-index) listed c.loop-entry-test.false in
    let last = subst (λ (xs : List LabelAt). last_known label (drop c.loop-entry.entry-index xs) known ≡ last_known label xs None) listed (c.loop-entry.invariant label) in
    addresses_known items label (65536 + 4 * c.len.result) c.loop-entry.entry-index known c.requires.once (ap (address code_base) code) past last
