use Rattle.std.proofs.Common.{◌≡◌, sym, ◌∙◌, ap, subst}
use Rattle.std.specs.Prelude.{List}
use Rattle.oat_tree.specs.Syntax.{choose}
use Rattle.oat_tree.specs.Seen.{seen_expr, seen_stmts}
use Rattle.oat_grammar.specs.Machine.{choice_next}
use Rattle.oat_parse.specs.SeenPlaces.{MovesAs}
use Rattle.oat_parse.proofs.Plain.{choice_goes_on}
use Rattle.oat_parse.proofs.body.choice_next.Goals as goal

pub returns-else-is : goal.returns-else-is
returns-else-is c =
    subst (λ m. MovesAs m (λ is ss o. choice_next is ss o (seen_expr c.args.condition) (seen_stmts c.args.body.items) c.args.token)) (sym c.after.ensures)
    (choice_goes_on c.stmt_next.result c.choose-choice.result (seen_expr c.args.condition) (seen_stmts c.args.body.items) c.args.token
    (c.choose-choice.ensures ∙ ap (λ ss. choose (seen_expr c.args.condition) (seen_stmts c.args.body.items) (seen_stmts ss)) c.new.ensures.items)
    (sym c.is.ensures ∙ c.if-is.false) c.stmt_next.ensures)
