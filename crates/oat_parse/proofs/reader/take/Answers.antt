use Rattle.std.proofs.Common.{◌≡◌, ◌∷◌, [], Some, None, Err, sym, subst}
use Rattle.oat_grammar.specs.Spots.{spot}
use Rattle.oat_parse.specs.declared.fault.ParseKind.TheVariants.{Token}
use Rattle.oat_parse.specs.declared.fault.ParseFault.TheVariants.{At}
use Rattle.oat_parse.specs.Readers.{ReadsOn}
use Rattle.oat_parse.proofs.ReaderLaws.{token_read, no_word}
use Rattle.oat_parse.proofs.reader.take.Goals as goal

pub returns-in-Some : goal.returns-in-Some
returns-in-Some c =
    subst (λ word. ReadsOn c.args.reader (spot c.args.line word ∷ []) c.take_token.result) (sym c.in-Some.is)
    (token_read c.args.reader c.args.line c.in-Some.token c.take_token.result c.take_token.ensures)

pub returns-in-None : goal.returns-in-None
returns-in-None c =
    subst (λ word. ReadsOn c.args.reader (spot c.args.line word ∷ []) (Err (At c.args.line Token))) (sym c.in-None.is) (no_word c.args.reader c.args.line)
