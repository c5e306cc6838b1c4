use Rattle.oat_text.proofs.Printed.{program_printed}
use Rattle.oat_text.proofs.printing.print_program.Goals as goal

pub returns : goal.returns
returns c = rw (c.in_ok-put_funcs.ensures, c.in_ok-put_globals.ensures, c.new-out.ensures.items, c.as_slice.ensures, c.as_slice-2.ensures) (program_printed c.args.program.now)
