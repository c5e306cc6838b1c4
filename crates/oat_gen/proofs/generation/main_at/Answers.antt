use Rattle.std.proofs.Common.{ℕ, Option, ◌<◌, length, unwrap_or, ap, sym, subst, ◌∙◌}
use Rattle.oat_symbols.proofs.Programs.{main_within}
use Rattle.oat_gen.proofs.Bounds.{main_found}
use Rattle.oat_gen.proofs.generation.main_at.Goals as goal

pub returns-clause-is : goal.returns-clause-is
returns-clause-is c =
    c.unwrap_or.ensures ∙ ap (λ (o : Option ℕ). unwrap_or o (length c.as_slice-funcs.result.now)) (c.find_main.ensures ∙ main_found c.args.program.now c.requires c.as_slice-funcs.result.now c.as_slice-funcs.ensures)

pub returns-clause-within : goal.returns-clause-within
returns-clause-within c =
    let is = c.unwrap_or.ensures ∙ ap (λ (o : Option ℕ). unwrap_or o (length c.as_slice-funcs.result.now)) (c.find_main.ensures ∙ main_found c.args.program.now c.requires c.as_slice-funcs.result.now c.as_slice-funcs.ensures) in
    subst (λ (m : ℕ). m < length c.args.program.now.funcs) (sym is) (main_within c.args.program.now c.requires)
