use Rattle.std.proofs.Common.{[], ◌∷◌, ◌++◌, ℕ, ap, ◌∙◌}
use Rattle.std.proofs.lemmas.Result.{on_ok_weaker}
use Rattle.oat_globals.specs.{Item, home_of, Code.number_code}
use Rattle.oat_gen.proofs.Loops.{element_written}
use Rattle.oat_gen.proofs.access.push_element.Goals as goal

pub returns : goal.returns
returns c =
    let first = c.in_ok-push_all.ensures ∙ ap (λ (x : Item). c.args.out.now.items ++ x ∷ []) c.from_home.ensures in
    let second = c.in_ok-push_number.ensures ∙ ap (λ (n : ℕ). c.push_all.new.out.items ++ number_code n) c.from.ensures in
    on_ok_weaker c.push_inst.result
    (λ last. element_written c.args.word c.args.len (home_of c.args.leaf c.args.i) _ _ _ _ _ _ first second c.in_ok-push_index_test.ensures c.in_ok-push_address.ensures last)
    c.push_inst.ensures
