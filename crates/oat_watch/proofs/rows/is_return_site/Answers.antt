use Rattle.std.proofs.Common.{◌≡◌, ◌-◌, Bool, eqb, ℕ, sym, ap, ◌∙◌, None, Some, arith}
use Rattle.std.specs.Prelude.{◌&&◌}
use Rattle.oat_attest.specs.{after, row_over}
use Rattle.oat_watch.proofs.Overs.{site-is, site-low, site-none}
use Rattle.oat_watch.proofs.rows.is_return_site.Goals as goal

pub returns-in_default : goal.returns-in_default
returns-in_default c =
    let low = c.in_default.ensures in
    sym (site-low c.args.image.now c.requires c.args.address (omega (arith, low)))

pub returns-then-is_call : goal.returns-then-is_call
returns-then-is_call c =
    let last = c.in-Some.ensures in
    let to = c.args.address in
    let row = c.in-Some-row_over.row in
    let place : c.in-Some.last ≡ to - 4 = omega (arith, last) in
    let over : row_over c.args.image.now.map.rows (to - 4) ≡ Some row = ap (row_over c.args.image.now.map.rows) (sym place) ∙ sym c.in-Some-row_over.ensures in
    sym (site-is c.args.image.now c.requires to row over ∙ (ap (λ (b : Bool). b && eqb (after row) to) (sym c.if-is_call.ensures) ∙ ap (λ (n : ℕ). eqb n to) (sym c.after.ensures)))

pub returns-else-is_call : goal.returns-else-is_call
returns-else-is_call c =
    let last = c.in-Some.ensures in
    let to = c.args.address in
    let row = c.in-Some-row_over.row in
    let place : c.in-Some.last ≡ to - 4 = omega (arith, last) in
    let over : row_over c.args.image.now.map.rows (to - 4) ≡ Some row = ap (row_over c.args.image.now.map.rows) (sym place) ∙ sym c.in-Some-row_over.ensures in
    c.if-is_call.false ∙ sym (site-is c.args.image.now c.requires to row over ∙ ap (λ (b : Bool). b && eqb (after row) to) (sym c.if-is_call.ensures))

pub returns-in-None : goal.returns-in-None
returns-in-None c =
    let last = c.in-Some.ensures in
    let to = c.args.address in
    let place : c.in-Some.last ≡ to - 4 = omega (arith, last) in
    let over : row_over c.args.image.now.map.rows (to - 4) ≡ None = ap (row_over c.args.image.now.map.rows) (sym place) ∙ (sym c.row_over.ensures ∙ c.in-None.is) in
    sym (site-none c.args.image.now c.requires to over)
