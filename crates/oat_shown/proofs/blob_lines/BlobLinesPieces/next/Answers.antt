use Rattle.std.proofs.Common.{◌≡◌, ◌<◌, ◌∙◌, true, false, length, rules, drop, arith}
use Rattle.oat_shown.proofs.Lines.{blob_at, few_taken, makes_block, makes_end, makes_keyword, next_blob}
use Rattle.oat_shown.proofs.blob_lines.BlobLinesPieces.next.Goals as goal

pub returns-then-not-self : goal.returns-then-not-self
returns-then-not-self c =
    let now = c.args.self.now in
    let within : now.done < length now.blobs.items = let low = c.if-self-len.false in let long = c.len.ensures in let counted = now.blobs.ok.0 in omega (arith, low, long, counted) in
    let begun : now.is_begun ≡ false = search rules in
    let first = blob_at now.blobs.items now.done within in
    let next = next_blob now.blobs.items now.done first.0 within first.1 in
    rw begun (makes_keyword _ _ first.0 now.at c.in_ok-keyword.keyword.items next (search rules))

pub lower_digits-requires : goal.lower_digits-requires
lower_digits-requires c = few_taken 32 _ (drop c.args.self.now.at c.as_slice-bytes.result.now) c.next_block-block.ensures

pub returns-then-self-bytes : goal.returns-then-self-bytes
returns-then-self-bytes c =
    let now = c.args.self.now in
    let within : now.done < length now.blobs.items = let low = c.if-self-len.false in let long = c.len.ensures in let counted = now.blobs.ok.0 in omega (arith, low, long, counted) in
    let begun : now.is_begun ≡ true = search rules in
    let next = next_blob now.blobs.items now.done c.index.result.now within c.index.ensures in
    let bytes = c.as_slice-bytes.ensures in
    let block = rw bytes at c.next_block-block.ensures in
    let more = rw bytes at c.if-self-bytes.true in
    rw begun (makes_block _ _ c.index.result.now now.at c.next_block-block.result.now c.in_ok-digits.digits.items next more block (c.in_ok-digits.ensures.items ∙ c.lower_digits.ensures))

pub returns : goal.returns
returns c =
    let now = c.args.self.now in
    let within : now.done < length now.blobs.items = let low = c.if-self-len.false in let long = c.len.ensures in let counted = now.blobs.ok.0 in omega (arith, low, long, counted) in
    let begun : now.is_begun ≡ true = search rules in
    let next = next_blob now.blobs.items now.done c.index.result.now within c.index.ensures in
    let done = rw c.as_slice-bytes.ensures at c.if-self-bytes.false in
    rw begun (makes_end _ _ c.index.result.now now.at c.in_ok-end.end.items next done c.in_ok-end.ensures.items)
