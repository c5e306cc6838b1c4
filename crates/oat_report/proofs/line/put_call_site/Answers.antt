use Rattle.oat_report.proofs.line.put_call_site.Goals as goal

pub returns : goal.returns
returns c = rw (c.call_of.ensures, c.as_slice.ensures) at c.put_site.ensures
