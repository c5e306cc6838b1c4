use Rattle.std.proofs.Common.{◌≡◌, rules, sym, ◌∙◌, subst}
use Rattle.oat_parse.specs.declared.words.Piece.TheVariants.{Word}
use Rattle.oat_parse.specs.Pieces.{BeginsWith}
use Rattle.oat_parse.proofs.PieceLaws.{word_found}
use Rattle.oat_parse.proofs.words.first_piece.Goals as goal

pub returns-in-OfWord-clause-first : goal.returns-in-OfWord-clause-first
returns-in-OfWord-clause-first c =
    subst (λ token. BeginsWith c.args.text.now (Word token) c.split_word.result.1.now) (sym c.word_token.ensures)
    (word_found c.args.text.now c.split_word.result.0.now c.split_word.result.1.now c.in_ok-byte.byte.now c.in_ok-byte.after.now
    (search rules) c.split_word.ensures.cut (search rules) c.split_word.ensures.word c.split_word.ensures.end)
