use Rattle.oat_script.proofs.Names.{is_text, read_ok}
use Rattle.oat_script.proofs.file.FileName.new.Goals as goal

pub unwrap-text-requires : goal.unwrap-text-requires
unwrap-text-requires c = read_ok c.from_utf8.result _ _ _ c.from_utf8.ensures.cases (is_text c.args.word.now c.requires)
