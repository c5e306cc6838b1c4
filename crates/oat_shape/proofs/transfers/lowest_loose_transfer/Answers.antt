use Rattle.std.proofs.Common.{ℕ, ◌+◌, ◌*◌, get_or, subst, arith}
use Rattle.std.specs.Prelude.{IsTrue, ◌↔◌}
use Rattle.std.proofs.lemmas.Option.{slice_get-get_or}
use Rattle.oat_a64.specs.Step.{code_base}
use Rattle.oat_shape.specs.Parts.{StandsInGroup}
use Rattle.oat_shape.proofs.Scans.{scan_none, scan_noted, scan_all}
use Rattle.oat_shape.proofs.transfers.lowest_loose_transfer.Goals as goal

pub loop-word-init : goal.loop-word-init
loop-word-init c = record {
  scanned = scan_none c.args.code.now (λ k word. code_base + 4 * k) (λ k word. StandsInGroup c.args.rows.now (code_base + 4 * k) word);
  place = omega arith;
}

pub loop-word-preserved : goal.loop-word-preserved
loop-word-preserved c =
    let word = get_or c.args.code.now c.loop-word.word-index 0 in
    let here = slice_get-get_or c.args.code.now c.loop-word.word-index 0 c.loop-word-test.true in
    record {
      scanned = scan_noted c.args.code.now (λ k w. code_base + 4 * k) (λ k w. StandsInGroup c.args.rows.now (code_base + 4 * k) w)
          c.loop-word.word-index word c.loop-word.lowest c.stands_in_group.result c.loop-word.at c.note-lowest.result here
          c.loop-word.invariant.place c.note-lowest.ensures
          (subst (λ (at : ℕ). IsTrue c.stands_in_group.result ↔ StandsInGroup c.args.rows.now at word) c.loop-word.invariant.place c.stands_in_group.ensures)
          c.loop-word.invariant.scanned;
      place = omega arith;
    }

pub returns : goal.returns
returns c =
    scan_all c.args.code.now (λ k word. code_base + 4 * k) (λ k word. StandsInGroup c.args.rows.now (code_base + 4 * k) word) c.loop-word.word-index
    c.loop-word.lowest c.loop-word-test.false c.loop-word.invariant.scanned
