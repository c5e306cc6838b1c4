use Rattle.std.proofs.Common.{ℕ, List, Option, sym, ◌∙◌, ap, subst}
use Rattle.std.specs.Option.{IsSome}
use Rattle.oat_a64.specs.Step.{word_at}
use Rattle.oat_image.specs.{entries_of, starts_of}
use Rattle.oat_shape.specs.{Lowest.Lowest, Lowest.EachAt, Lowest.lower, Shape.S6}
use Rattle.oat_shape.proofs.PlaceRules.{places_from}
use Rattle.oat_shape.proofs.rules.s6.Goals as goal

pub returns : goal.returns
returns c =
    let i = c.args.image.now in
    let coded = λ (xs : List ℕ) (lowest : Option ℕ) (h : Lowest (EachAt xs (λ k place. place) (λ k place. IsSome (word_at c.as_slice-code.result.now place))) lowest).
    subst (λ (ws : List ℕ). Lowest (EachAt xs (λ k place. place) (λ k place. IsSome (word_at ws place))) lowest) c.as_slice-code.ensures h in
    let all = places_from i.map (λ a. IsSome (word_at i.code a)) c.as_slice-3.result.now c.as_slice-4.result.now c.as_slice-5.result.now c.as_slice-6.result.now
    c.lowest_off_code-entry.result c.lowest_off_code-start.result c.lowest_off_code-site.result c.as_slice-3.ensures
    (c.as_slice-4.ensures.value ∙ c.in_ok-entries.ensures ∙ ap entries_of c.as_slice.ensures)
    (c.as_slice-5.ensures.value ∙ c.in_ok-starts.ensures ∙ ap starts_of c.as_slice-2.ensures)
    (c.as_slice-6.ensures.value ∙ c.in_ok-sites.ensures)
    (coded c.as_slice-4.result.now c.lowest_off_code-entry.result c.lowest_off_code-entry.ensures)
    (coded c.as_slice-5.result.now c.lowest_off_code-start.result c.lowest_off_code-start.ensures)
    (coded c.as_slice-6.result.now c.lowest_off_code-site.result c.lowest_off_code-site.ensures) in
    subst (Lowest (S6 i)) (sym (c.lower-2.ensures ∙ ap (lower c.lowest_off_code-entry.result) c.lower.ensures)) all
