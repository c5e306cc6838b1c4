use Rattle.std.proofs.Common.{refl}
use Rattle.std.proofs.lemmas.List.{take_rest}
use Rattle.oat_report.proofs.text.without_zeros.Goals as goal

pub returns : goal.returns
returns c = rw (take_rest c.args.digits.now c.unwrap_or.result, c.unwrap_or.ensures, c.zeros_in_front-zeros.ensures) refl
