use Rattle.std.proofs.Common.{subst}
use Rattle.oat_match.specs.{Image, ShapeFault, IsFault}
use Rattle.oat_build.proofs.compiler.shaped_of.Goals as goal

pub unreachable-requires : goal.unreachable-requires
unreachable-requires c =
    let broken = subst (IsFault c.args.image) c.in-Rule.is (subst (λ (i : Image). IsFault i c.in-Err.refusal.fault) c.in-Err.ensures.handed_back c.in-Err.ensures.fault) in
    (c.shape_is_decided.ensures c.args.image c.in-Rule.number c.in-Rule.at broken).0 c.requires.shaped
