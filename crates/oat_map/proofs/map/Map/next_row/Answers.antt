use Rattle.oat_map.proofs.RowLemmas.{next_at_position}
use Rattle.oat_map.proofs.map.Map.next_row.Goals as goal

pub returns-clause-row : goal.returns-clause-row
returns-clause-row c = rw (c.row_index.ensures, c.as_slice.ensures) (next_at_position c.args.self.now.rows c.args.t)
