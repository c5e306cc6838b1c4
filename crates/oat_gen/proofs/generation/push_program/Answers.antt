use Rattle.std.proofs.Common.{◌<◌, ◌∙◌, ◌++◌, List, length, ap, subst, sym, arith}
use Rattle.std.proofs.lemmas.Result.{on_ok_weaker}
use Rattle.oat_globals.specs.{Item, Func}
use Rattle.oat_gen.proofs.{Bounds.func_among, Bounds.got, Bounds.own_labels, Laying.laid_by, Loops.both}
use Rattle.oat_gen.proofs.generation.push_program.Goals as goal

pub push_function-requires-clause-func : goal.push_function-requires-clause-func
push_function-requires-clause-func c =
    let inside = subst (λ (gs : List Func). c.main_at-main.result < length gs) (sym c.as_slice.ensures) c.main_at-main.ensures.within in
    let at = got _ c.args.program.now.funcs c.main_at-main.result c.index-as_slice-main.result c.as_slice.ensures inside c.index-as_slice-main.is in
    func_among c.args.program.now c.requires.checked c.args.places.now c.requires.places c.main_at-main.result c.index-as_slice-main.result at

pub push_function-requires-clause-labels : goal.push_function-requires-clause-labels
push_function-requires-clause-labels c =
    let inside = subst (λ (gs : List Func). c.main_at-main.result < length gs) (sym c.as_slice.ensures) c.main_at-main.ensures.within in
    let at = got _ c.args.program.now.funcs c.main_at-main.result c.index-as_slice-main.result c.as_slice.ensures inside c.index-as_slice-main.is in
    omega (arith, own_labels c.args.program.now c.requires.checked _ _ c.main_at-main.ensures.within at, c.first_label-first.ensures)

pub returns : goal.returns
returns c =
    let inside = subst (λ (gs : List Func). c.main_at-main.result < length gs) (sym c.as_slice.ensures) c.main_at-main.ensures.within in
    let at = got _ c.args.program.now.funcs c.main_at-main.result c.index-as_slice-main.result c.as_slice.ensures inside c.index-as_slice-main.is in
    let all = laid_by c.args.program.now c.args.places.now _ c.first_label-first.result _ c.requires.places c.first_label-first.ensures c.main_at-main.ensures.is c.main_at-main.ensures.within at in
    on_ok_weaker c.push_others.result (λ last. both c.args.out.now.items _ _ _ _ c.in_ok-push_function.ensures last ∙ ap (λ (is : List Item). c.args.out.now.items ++ is) all) c.push_others.ensures
