use Rattle.oat_build.proofs.Compiling.{built_programs_are_compiled}
use Rattle.oat_build.proofs.laws.built_programs_are_compiled.Goals as goal

pub returns : goal.returns
returns c = built_programs_are_compiled c.codes_stand.ensures c.marked_code_expands.ensures c.other_code_stays.ensures c.blocks_expand_by_line.ensures c.globals_have_their_places.ensures c.fitting_programs_are_built.ensures c.programs_have_worlds.ensures
