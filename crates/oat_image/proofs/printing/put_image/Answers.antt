use Rattle.std.proofs.Common.{◌++◌, subst}
use Rattle.oat_lines.specs.Fields.{ended}
use Rattle.oat_image.specs.{Grammar.has_elements, Grammar.version_line, Printing.memory_text, Printing.map_text}
use Rattle.oat_image.proofs.Texts.{joined}
use Rattle.oat_image.proofs.printing.put_image.Goals as goal

pub returns : goal.returns
returns g c text held =
    let first = text ++ ended (version_line (has_elements c.args.image.now.map.rows)) in
    let memory = first ++ memory_text c.args.image.now in
    let flow = memory ++ map_text c.args.image.now in
    subst (λ whole. g.R.Receiver.holds c.put_line.new.out whole) (joined c.args.image.now text)
    (c.put_line.ensures flow (c.put_map.ensures memory (c.put_memory.ensures first (c.put_version.ensures text held))))
