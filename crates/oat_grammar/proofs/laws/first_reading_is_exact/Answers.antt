use Rattle.oat_grammar.proofs.FirstRead.{is_read, read_back, is_unexpected}
use Rattle.oat_grammar.proofs.laws.first_reading_is_exact.Goals as goal

pub returns : goal.returns
returns c = record { read = is_read; back = read_back; unexpected = is_unexpected }
