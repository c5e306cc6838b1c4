use Rattle.oat_build.proofs.Promising.{built_images_are_of_programs}
use Rattle.oat_build.proofs.laws.built_images_are_of_programs.Goals as goal

pub returns : goal.returns
returns c = built_images_are_of_programs c.programs_can_be_built.ensures c.fitting_programs_are_built.ensures c.programs_have_few_words.ensures c.programs_have_their_labels.ensures c.operations_open_once.ensures c.built_programs_are_compiled.ensures c.built_edges_are_named.ensures c.compiled_programs_run.ensures c.compiled_programs_mean.ensures c.compiled_windows_go_back.ensures
