use Rattle.std.specs.Prelude.{◌&&◌, nat_le, length}
use Rattle.oat_map.specs.Name.{is_name}
use Rattle.oat_grammar.specs.Words.{keyword_in}
use Rattle.oat_parse.proofs.PieceLaws.{keyword_token}
use Rattle.oat_parse.proofs.words.name_token.Goals as goal

pub returns-in-Some : goal.returns-in-Some
returns-in-Some c = keyword_token c.args.word.now c.in-Some.mark (keyword_in c.args.word.now) (is_name c.args.word.now && nat_le (length c.args.word.now) 30) c.in-Some.ensures
