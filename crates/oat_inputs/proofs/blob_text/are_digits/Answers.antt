use Rattle.std.proofs.Common.{rules, ◌≡◌, ◌∙◌, [], ◌∷◌, true, take, get_or, subst, sym}
use Rattle.std.specs.List.{AllPass}
use Rattle.std.proofs.lemmas.{Bool.eqb-true, Bool.false≢true, List.take_all, List.take_more, List.Elements.All-append, List.Elements.All-cons, List.Elements.All-nil}
use Rattle.hex.specs.Hex.{is_hex_digit}
use Rattle.hex.proofs.HexLemmas.{decode_of-digits, decode_of-ok}
use Rattle.oat_inputs.proofs.blob_text.are_digits.Goals as goal

pub returns-then-not-is_digit-clause-no : goal.returns-then-not-is_digit-clause-no
returns-then-not-is_digit-clause-no c = λ same digits.
    let all = (decode_of-ok c.args.text.now digits.0 digits.1).1 in
    false≢true (c.if-not-is_digit.ensures ∙ all c.loop-byte.byte-index 0 c.loop-byte-test.true)

pub loop-byte-preserved : goal.loop-byte-preserved
loop-byte-preserved c =
    let text = c.args.text.now in
    let at = c.loop-byte.byte-index in
    let digit : is_hex_digit (get_or text at 0) ≡ true = search rules in
    subst (AllPass is_hex_digit) (sym (take_more text at 0 c.loop-byte-test.true))
    (All-append (λ byte. is_hex_digit byte ≡ true) (take at text) (get_or text at 0 ∷ []) c.loop-byte.invariant
    (All-cons (λ byte. is_hex_digit byte ≡ true) (get_or text at 0) [] digit (All-nil (λ byte. is_hex_digit byte ≡ true))))

pub returns-clause-yes : goal.returns-clause-yes
returns-clause-yes c = λ even.
    decode_of-digits c.args.text.now (eqb-true _ 0 even) (subst (AllPass is_hex_digit) (take_all c.loop-byte.byte-index c.args.text.now c.loop-byte-test.false) c.loop-byte.invariant)
