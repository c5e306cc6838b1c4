use Rattle.oat_replay.proofs.replay.Replay.row_behind.Given as goal

abbrev pub ghosts-row_at_or_above : goal.ghosts-row_at_or_above
ghosts-row_at_or_above a = record { name = a.blank.name; parts = a.blank.parts }
