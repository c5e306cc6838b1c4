use Rattle.std.proofs.Common.{map, length, ap, sym, ◌∙◌, refl, arith}
use Rattle.oat_check.specs.Globals.{Values}
use Rattle.oat_langrun.specs.Meaning.{cell_of, first_of, goes_on_at}
use Rattle.oat_langrun.specs.Memories.{values_of}
use Rattle.oat_langrun.specs.Running.{code_of, state_of}
use Rattle.oat_langrun.proofs.Words.{put_lengths, put_values, stores_nothing}
use Rattle.oat_langrun.proofs.interpreter.Interpreter.store.Goals as goal

pub returns : goal.returns
returns c =
    let old = c.args.self.now in
    let words = ap (values_of (first_of (code_of old))) c.put.ensures ∙ put_values (first_of (code_of old)) old.memory c.args.global c.args.i c.args.value c.requires in
    record {
      state = ap (λ (values : Values). goes_on_at (record (state_of old) { globals = values }) c.args.place) words;
      recorded = sym (stores_nothing old.kept.recorded (cell_of (code_of old) c.args.global c.args.i) c.args.value);
      left = omega arith;
      items = refl;
      routines = refl;
      words = ap (map length) c.put.ensures ∙ put_lengths old.memory c.args.global c.args.i c.args.value;
    }
