use Rattle.std.proofs.Common.{◌≡◌, ◌<◌, ◌∙◌, length, true, false, sym, ap, arith}
use Rattle.std.specs.String.{string_bytes}
use Rattle.std.proofs.lemmas.Bool.{not-true, not-false}
use Rattle.oat_words.proofs.Beginnings.{same_text, other_text, one_more, one_other}
use Rattle.oat_words.proofs.asked.begin.Goals as goal

never : false ≡ true → ⊥
never wrong = cc

pub returns-then-ne : goal.returns-then-ne
returns-then-ne c =
    let apart = other_text _ _ (not-true _ (sym c.ne.ensures ∙ c.if-ne.true)) in (
      λ wrong. absurd (never wrong),
      λ same. absurd (one_other string_bytes (λ word. word.now) c.args.words.now c.args.fixed.now c.loop-k.k c.index-words-k.result _
          c.loop-k-test.true (λ equal. apart (c.as_str.ensures.value ∙ (ap string_bytes c.index-words-k.is ∙ equal))) same),
    )

pub loop-k-preserved : goal.loop-k-preserved
loop-k-preserved c =
    let within : c.loop-k.k < length c.args.words.now = omega (arith, c.loop-k-test.true, c.requires) in
    let equal = same_text _ _ (not-false _ (sym c.ne.ensures ∙ c.if-ne.false)) in
    one_more string_bytes (λ word. word.now) c.args.words.now c.args.fixed.now c.loop-k.k c.index-words-k.result _ within
    c.loop-k-test.true c.loop-k.invariant (ap string_bytes (sym c.index-words-k.is) ∙ (sym c.as_str.ensures.value ∙ equal))
