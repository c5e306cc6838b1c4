use Rattle.std.proofs.Common.{◌≡◌, ◌∷◌, false, true, None, rules, sym, ◌∙◌, subst}
use Rattle.oat_grammar.specs.Spots.{pair_token, sign_token, begins_comment}
use Rattle.oat_parse.specs.declared.words.Piece.TheVariants.{Word}
use Rattle.oat_parse.specs.Pieces.{BeginsWith}
use Rattle.oat_parse.proofs.PieceLaws.{comment_found, sign_found}
use Rattle.oat_parse.proofs.words.sign_piece.Goals as goal

pub returns-then-begins_comment-clause-first : goal.returns-then-begins_comment-clause-first
returns-then-begins_comment-clause-first c =
    comment_found c.args.first c.in-Some.second.now c.args.after.now c.in-Some.rest.now c.split_line.result.0.now c.split_line.result.1.now
    (search rules) (search rules) c.split_line.ensures.cut c.split_line.ensures.line c.split_line.ensures.end

pub returns-else-begins_comment-clause-first : goal.returns-else-begins_comment-clause-first
returns-else-begins_comment-clause-first c =
    subst (λ token. BeginsWith (c.args.first ∷ c.args.after.now) (Word token) c.args.after.now) (sym c.sign_token-else-begins_comment.ensures)
    (sign_found c.args.first c.in-Some.second.now c.args.after.now c.in-Some.rest.now (search rules) c.requires (search rules) (search rules))
