use Rattle.std.proofs.Common.{sym, ◌∙◌}
use Rattle.oat_make.proofs.Made.{helper_text, put_same}
use Rattle.oat_make.proofs.program.put_helper.Goals as goal

pub returns : goal.returns
returns c = put_same c.put.result c.put.new.out.items c.args.out.now.items (c.as_bytes.ensures.value ∙ c.in_ok-lines.ensures.ok ∙ sym (helper_text c.args.j c.args.constant)) c.put.ensures
