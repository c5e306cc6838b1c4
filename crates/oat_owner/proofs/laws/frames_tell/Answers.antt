use Rattle.oat_owner.proofs.Deciding.{challenge_frames_tell, one_delivery, one_offset}
use Rattle.oat_owner.proofs.laws.frames_tell.Goals as goal

pub returns-clause-challenges : goal.returns-clause-challenges
returns-clause-challenges c = challenge_frames_tell

pub returns-clause-answers : goal.returns-clause-answers
returns-clause-answers c = one_delivery

pub returns-clause-offsets : goal.returns-clause-offsets
returns-clause-offsets c = one_offset
