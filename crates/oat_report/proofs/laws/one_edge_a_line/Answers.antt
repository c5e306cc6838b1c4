use Rattle.oat_report.proofs.SameLines.{one_edge_a_line, one_path_of_lines, shaped_maps_are_told, walks_take_edges}
use Rattle.oat_report.proofs.laws.one_edge_a_line.Goals as goal

pub returns-clause-one : goal.returns-clause-one
returns-clause-one c = one_edge_a_line

pub returns-clause-walked : goal.returns-clause-walked
returns-clause-walked c = walks_take_edges

pub returns-clause-shaped : goal.returns-clause-shaped
returns-clause-shaped c = shaped_maps_are_told

pub returns-clause-paths : goal.returns-clause-paths
returns-clause-paths c = one_path_of_lines
