use Rattle.std.proofs.Common.{◌+◌, ◌*◌, get_or, arith}
use Rattle.std.specs.Option.{IsSome}
use Rattle.std.proofs.lemmas.Option.{slice_get-get_or}
use Rattle.oat_a64.specs.{Fetch.inst_of, Step.code_base}
use Rattle.oat_shape.proofs.Scans.{scan_none, scan_noted, scan_all}
use Rattle.oat_shape.proofs.decoding.lowest_undecoded.Goals as goal

pub loop-word-init : goal.loop-word-init
loop-word-init c = record {
  scanned = scan_none c.args.code.now (λ k word. code_base + 4 * k) (λ k word. IsSome (inst_of word));
  place = omega arith;
}

pub loop-word-preserved : goal.loop-word-preserved
loop-word-preserved c =
    let here = slice_get-get_or c.args.code.now c.loop-word.word-index 0 c.loop-word-test.true in
    record {
      scanned = scan_noted c.args.code.now (λ k word. code_base + 4 * k) (λ k word. IsSome (inst_of word)) c.loop-word.word-index
          (get_or c.args.code.now c.loop-word.word-index 0) c.loop-word.lowest c.decodes.result c.loop-word.at c.note-lowest.result here
          c.loop-word.invariant.place c.note-lowest.ensures c.decodes.ensures c.loop-word.invariant.scanned;
      place = omega arith;
    }

pub returns : goal.returns
returns c =
    scan_all c.args.code.now (λ k word. code_base + 4 * k) (λ k word. IsSome (inst_of word)) c.loop-word.word-index c.loop-word.lowest
    c.loop-word-test.false c.loop-word.invariant.scanned
