use Rattle.oat_build.proofs.EdgeNames.{built_edges_are_named}
use Rattle.oat_build.proofs.laws.built_edges_are_named.Goals as goal

pub returns : goal.returns
returns c = built_edges_are_named c.marked_code_expands.ensures c.other_code_stays.ensures c.globals_have_their_places.ensures c.blocks_have_their_lines.ensures c.functions_have_their_code.ensures c.fitting_programs_are_built.ensures c.codes_are_of_the_program.ensures c.sites_are_named_by_source.ensures c.places_are_named_by_source.ensures c.call_sites_are_found.ensures c.built_programs_are_compiled.ensures
