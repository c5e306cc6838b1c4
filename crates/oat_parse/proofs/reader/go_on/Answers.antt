use Rattle.std.proofs.Common.{◌≡◌, ◌≤◌, rules, refl, sym, ◌∙◌, subst}
use Rattle.oat_grammar.specs.Nodes.{nodes_in}
use Rattle.oat_parse.specs.declared.reader.Reader.{Reader}
use Rattle.oat_parse.specs.Readers.{IsNoted}
use Rattle.oat_parse.proofs.ReaderLaws.{MovesTo, moves_to, no_mention, mention, is_operation_word}
use Rattle.oat_parse.proofs.reader.go_on.Goals as goal

pub returns-else-mention : goal.returns-else-mention
returns-else-mention c =
    no_mention c.args.reader c.args.line c.args.token _
    (moves_to c.args.reader c.args.line c.args.token c.in-Some.next _ c.requires.limits c.requires.fits
    (search rules)
    (subst (λ part. nodes_in part ≤ 255) c.part_next-part.ensures (subst (λ n. n ≤ 255) c.nodes_in.ensures c.if-nodes_in-gt255.false))
    c.in_ok-items-in-Some.ensures.place c.depth_behind-depth.ensures c.part_next-part.ensures refl
    (c.is-behind_operation.ensures ∙ is_operation_word c.args.token))
    (sym c.is_mention-mention.ensures ∙ c.if-mention.false) refl

pub returns-in_ok-noted-in-Some : goal.returns-in_ok-noted-in-Some
returns-in_ok-noted-in-Some c =
    let behind : Reader = record {
      items = c.in_ok-items-in-Some.field-0.items;
      place = c.in_ok-items-in-Some.field-0.place;
      depth = c.depth_behind-depth.result;
      part = c.part_next-part.result;
      last = c.args.line;
      lines = c.args.reader.lines;
      behind_operation = c.is-behind_operation.result;
    } in
    let noted : IsNoted behind c.in_ok-noted-in-Some.field-0 = c.in_ok-noted-in-Some.ensures in
    mention c.args.reader c.args.line c.args.token behind c.in_ok-noted-in-Some.field-0
    (moves_to c.args.reader c.args.line c.args.token c.in-Some.next behind c.requires.limits c.requires.fits
    (search rules)
    (subst (λ part. nodes_in part ≤ 255) c.part_next-part.ensures (subst (λ n. n ≤ 255) c.nodes_in.ensures c.if-nodes_in-gt255.false))
    c.in_ok-items-in-Some.ensures.place c.depth_behind-depth.ensures c.part_next-part.ensures refl
    (c.is-behind_operation.ensures ∙ is_operation_word c.args.token))
    (sym c.is_mention-mention.ensures ∙ c.if-mention.true) refl refl noted
