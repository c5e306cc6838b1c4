use Rattle.std.proofs.Common.{ℕ, List, Option, sym, ◌∙◌, ap, subst}
use Rattle.oat_image.specs.{Row, entries_of, starts_of}
use Rattle.oat_shape.specs.{Lowest.Lowest, Lowest.EachAt, Lowest.lower, Shape.CutsNoGroup, Shape.S5}
use Rattle.oat_shape.proofs.PlaceRules.{are_apart, places_from}
use Rattle.oat_shape.proofs.rules.s5.Goals as goal

pub lowest_inside-entry-requires-clause-apart : goal.lowest_inside-entry-requires-clause-apart
lowest_inside-entry-requires-clause-apart c = are_apart c.args.image.now c.as_slice-rows.result.now c.as_slice-rows.ensures c.requires.rises

pub lowest_inside-start-requires-clause-apart : goal.lowest_inside-start-requires-clause-apart
lowest_inside-start-requires-clause-apart c = are_apart c.args.image.now c.as_slice-rows.result.now c.as_slice-rows.ensures c.requires.rises

pub lowest_inside-site-requires-clause-apart : goal.lowest_inside-site-requires-clause-apart
lowest_inside-site-requires-clause-apart c = are_apart c.args.image.now c.as_slice-rows.result.now c.as_slice-rows.ensures c.requires.rises

pub returns : goal.returns
returns c =
    let i = c.args.image.now in
    let clear = λ (xs : List ℕ) (lowest : Option ℕ) (h : Lowest (EachAt xs (λ k place. place) (λ k place. CutsNoGroup c.as_slice-rows.result.now place)) lowest).
    subst (λ (rs : List Row). Lowest (EachAt xs (λ k place. place) (λ k place. CutsNoGroup rs place)) lowest) c.as_slice-rows.ensures h in
    let all = places_from i.map (CutsNoGroup i.map.rows) c.as_slice-rows.result.now c.as_slice-3.result.now c.as_slice-4.result.now c.as_slice-5.result.now
    c.lowest_inside-entry.result c.lowest_inside-start.result c.lowest_inside-site.result c.as_slice-rows.ensures
    (c.as_slice-3.ensures.value ∙ c.in_ok-entries.ensures ∙ ap entries_of c.as_slice.ensures)
    (c.as_slice-4.ensures.value ∙ c.in_ok-starts.ensures ∙ ap starts_of c.as_slice-2.ensures)
    (c.as_slice-5.ensures.value ∙ c.in_ok-sites.ensures)
    (clear c.as_slice-3.result.now c.lowest_inside-entry.result c.lowest_inside-entry.ensures)
    (clear c.as_slice-4.result.now c.lowest_inside-start.result c.lowest_inside-start.ensures)
    (clear c.as_slice-5.result.now c.lowest_inside-site.result c.lowest_inside-site.ensures) in
    subst (Lowest (S5 i)) (sym (c.lower-2.ensures ∙ ap (lower c.lowest_inside-entry.result) c.lower.ensures)) all
