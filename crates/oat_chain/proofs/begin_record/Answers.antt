use Rattle.std.proofs.Common.{◌≡◌, [], ◌++◌, ◌∙◌, length, replicate, refl, ap, sym, rules, arith, append_assoc, length-append}
use Rattle.oat_chain.proofs.Writing.{begun, written_next, written_whole}
use Rattle.oat_chain.proofs.begin_record.Goals as goal

pub returns : goal.returns
returns c =
    let nonce = c.args.nonce.now in
    let digest = c.args.digest.now in
    let number = c.to_be_bytes.result in
    let of_nonce : length nonce ≡ 16 = search rules in
    let of_number : length number ≡ 2 = ap length c.to_be_bytes.ensures in
    let of_digest : length digest ≡ 32 = search rules in
    let of_front : length (nonce ++ number) ≡ 18 = length-append nonce number ∙ omega arith in
    let of_whole : length (nonce ++ number ++ digest) ≡ 50 = length-append (nonce ++ number) digest ∙ omega arith in
    let first = written_next _ _ [] _ nonce 0 refl (begun (replicate 50 0)) c.put.ensures in
    let second = written_next _ _ _ _ number 16 of_nonce first c.put-2.ensures in
    let third = written_next _ _ _ _ digest 18 of_front second c.put-3.ensures in
    let whole : length c.put-3.new.message ≡ length (nonce ++ number ++ digest) = c.put-3.array_long ∙ sym of_whole in
    written_whole _ _ _ third whole ∙ (append_assoc nonce number digest ∙ ap (λ n. nonce ++ (n ++ digest)) c.to_be_bytes.ensures)
