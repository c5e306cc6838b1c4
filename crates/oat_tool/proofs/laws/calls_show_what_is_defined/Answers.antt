use Rattle.oat_tool.proofs.Following.{whole_is_put, defined_is_shown, the_defined_is_shown, front_is_put, refusals_are_quiet, read_faults_are_told}
use Rattle.oat_tool.proofs.laws.calls_show_what_is_defined.Goals as goal

pub returns : goal.returns
returns c = record {
  whole = whole_is_put;
  exact = defined_is_shown;
  given = the_defined_is_shown;
  front = front_is_put;
  quiet = refusals_are_quiet;
  read_fault = read_faults_are_told;
}
