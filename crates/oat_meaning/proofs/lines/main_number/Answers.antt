use Rattle.std.proofs.Common.{◌<◌, ◌∙◌, List, ap, get_or, length, subst, sym}
use Rattle.oat_check.specs.{Func}
use Rattle.oat_meaning.proofs.MainNumber.{main_found}
use Rattle.oat_meaning.proofs.lines.main_number.Goals as goal

pub returns-then-is_main : goal.returns-then-is_main
returns-then-is_main c =
    let same = c.as_slice-func-items.ensures in
    let func = c.func-item.result in
    main_found c.args.program.now.funcs c.loop-number.number func (subst (λ (funcs : List Func). c.loop-number.number < length funcs) same c.loop-number-test.true)
    (c.func-item.is ∙ ap (λ (funcs : List Func). get_or funcs c.loop-number.number func) same) (sym c.is_main.ensures ∙ c.if-is_main.true) c.loop-number.invariant
