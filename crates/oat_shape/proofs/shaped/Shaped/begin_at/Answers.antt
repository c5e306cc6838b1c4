use Rattle.std.proofs.Common.{◌-◌, refl, sym, ◌∙◌, subst}
use Rattle.oat_image.specs.{declared.image.Image.Image, BeginsAt, IsOperation}
use Rattle.oat_shape.proofs.{Operations.opens, Operations.opens_nowhere, PlaceRules.are_within}
use Rattle.oat_shape.proofs.shaped.Shaped.begin_at.Goals as goal

pub overflow_sub-result : goal.overflow_sub-result
overflow_sub-result c =
    let i = c.self.inside.image in
    let within = are_within i i.map.rows refl c.self.invariant.0 in
    (opens i.map c.args.op c.in-Some.start within (sym c.start.ensures ∙ c.in-Some.is)).0

pub returns-in-Some : goal.returns-in-Some
returns-in-Some c =
    let i = c.self.inside.image in
    let within = are_within i i.map.rows refl c.self.invariant.0 in
    subst (λ (image : Image). BeginsAt image.map c.args.op (c.in-Some.start - 4)) c.self.view_is
    (opens i.map c.args.op c.in-Some.start within (sym c.start.ensures ∙ c.in-Some.is)).1

pub returns-in-None : goal.returns-in-None
returns-in-None c =
    subst (λ (image : Image). IsOperation image.map c.args.op → ⊥) c.self.view_is
    (opens_nowhere c.self.inside.image.map c.args.op (sym c.start.ensures ∙ c.in-None.is))
