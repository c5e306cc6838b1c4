use Rattle.oat_shape.proofs.Laid.{starts}
use Rattle.oat_shown.specs.{subject_of}
use Rattle.oat_room_verify.proofs.Settling.{has_path, tells}
use Rattle.oat_room_verify.proofs.policy.rule.Goals as goal

pub said_of-requires-clause-begun : goal.said_of-requires-clause-begun
said_of-requires-clause-begun c = starts c.args.shaped.now.map c.args.session.now.op c.requires.operation

pub said_of-requires-clause-path : goal.said_of-requires-clause-path
said_of-requires-clause-path c =
    let bytes = c.requires.digits in
    has_path (subject_of c.args.shaped.now c.args.session.now) bytes.0 c.in_ok-settled.settled (c.in_ok-settled.ensures bytes.0 bytes.1)

pub returns : goal.returns
returns c = λ bytes decoded.
    let settles = c.in_ok-settled.ensures bytes decoded in
    record {
      settles = settles;
      is_said = c.in_ok-said.ensures settles.verdict.verdict (tells (subject_of c.args.shaped.now c.args.session.now) bytes c.in_ok-settled.settled settles);
    }
