use Rattle.oat_text.proofs.{ReadBack.is_only, ReadTexts.is_found}
use Rattle.oat_text.proofs.reading.read_program.Goals as goal

pub returns-clause-found : goal.returns-clause-found
returns-clause-found c = is_found c.args.text.now c.read_whole.result c.requires c.read_whole.ensures

pub returns-clause-only : goal.returns-clause-only
returns-clause-only c = λ program is. is_only c.args.text.now c.read_whole.result c.read_whole.ensures program is
