use Rattle.std.proofs.Common.{refl}
use Rattle.oat_text.proofs.reading.program_from.Goals as goal

pub returns : goal.returns
returns c =
    rw (← c.outline.view_is, c.from_vec.ensures, c.from_vec-2.ensures, c.in_ok-funcs.ensures, c.into_items.ensures, c.into_items-2.ensures) refl
