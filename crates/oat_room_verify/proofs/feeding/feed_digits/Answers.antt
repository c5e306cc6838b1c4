use Rattle.std.proofs.Common.{rules, ◌≡◌, ◌+◌, ◌-◌, ◌/◌, ◌++◌, ℕ, List, take, drop, length, arith, refl, sym, ap, subst, ◌∙◌, append_assoc, append-nil}
use Rattle.std.specs.Prelude.{is_ok}
use Rattle.std.proofs.lemmas.List.{length-take-le}
use Rattle.hex.specs.Hex.{decode_sized}
use Rattle.hex.proofs.HexLemmas.{decode_of-even}
use Rattle.oat_feed.specs.Standing.{HasBeenFed}
use Rattle.oat_room_verify.proofs.Digits.{all_fed, chunk, chunk_decoded, decoded_chunk, length-decoded, nothing_fed, taken_piece}
use Rattle.oat_room_verify.proofs.feeding.feed_digits.Goals as goal

pub loop-done-init : goal.loop-done-init
loop-done-init c = nothing_fed c.args.feed.now c.args.digits.now c.requires.0 c.requires.1

pub unwrap-requires : goal.unwrap-requires
unwrap-requires c =
    let so_far = c.loop-done.invariant in
    let done = c.loop-done.done in
    let end = done + c.min.result in
    let size = (end - done) / 2 in
    let cut = chunk c.args.digits.now done end size so_far.rest c.loop-done-test.true (ap (λ n. done + n) c.min.ensures) refl so_far.left in
    let long : length (take size c.loop-done.piece) ≡ size = length-take-le size c.loop-done.piece (search rules) in
    let digits = take (end - done) (drop done c.args.digits.now) in
    let decoded = decoded_chunk _ cut.0.first _ _ (ap (decode_sized digits) long ∙ chunk_decoded digits cut.0.first size cut.0.of_first cut.1) c.decode_to_slice-decoded.ensures.value in
    ap is_ok decoded.0

pub loop-done-preserved : goal.loop-done-preserved
loop-done-preserved c =
    let so_far = c.loop-done.invariant in
    let done = c.loop-done.done in
    let end = done + c.min.result in
    let size = (end - done) / 2 in
    let cut = chunk c.args.digits.now done end size so_far.rest c.loop-done-test.true (ap (λ n. done + n) c.min.ensures) refl so_far.left in
    let long : length (take size c.loop-done.piece) ≡ size = length-take-le size c.loop-done.piece (search rules) in
    let digits = take (end - done) (drop done c.args.digits.now) in
    let decoded = decoded_chunk _ cut.0.first _ _ (ap (decode_sized digits) long ∙ chunk_decoded digits cut.0.first size cut.0.of_first cut.1) c.decode_to_slice-decoded.ensures.value in
    let piece = taken_piece c.decode_to_slice-decoded.new.out cut.0.first (drop size c.loop-done.piece) size decoded.1 (length-decoded digits cut.0.first size cut.0.of_first cut.1) in
    record {
      within = omega (arith, c.min.ensures, c.loop-done-test.true);
      rest = cut.0.rest;
      left = decode_of-even (drop end c.args.digits.now) cut.2 ∙ cut.0.of_rest;
      fed = λ s bytes fed spelled.
          let before = so_far.fed s bytes fed spelled in (
            before.0 ++ cut.0.first,
            subst (λ (xs : List ℕ). HasBeenFed c.piece.new.self s (before.0 ++ xs)) piece (c.in_ok-piece.ensures.taken s before.0 before.1),
            before.2 ∙ (ap (λ xs. before.0 ++ xs) cut.0.joined ∙ sym (append_assoc before.0 cut.0.first cut.0.rest)),
          );
    }

pub returns : goal.returns
returns c = λ s bytes fed decoded.
    let so_far = c.loop-done.invariant in
    let before = so_far.fed s bytes fed decoded in
    let none = all_fed c.args.digits.now so_far.rest c.loop-done.done c.loop-done-test.false so_far.left in
    subst (λ (xs : List ℕ). HasBeenFed c.loop-done.feed s xs) (sym (before.2 ∙ (ap (λ xs. before.0 ++ xs) none ∙ append-nil before.0))) before.1
