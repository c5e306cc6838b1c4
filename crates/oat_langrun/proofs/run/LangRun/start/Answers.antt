use Rattle.std.proofs.Common.{◌<◌, ◌∙◌, List, length, refl, sym, ap, subst}
use Rattle.oat_tree.specs.Seen.{seen_tree}
use Rattle.oat_langrun.specs.declared.routine.Routine.{Routine}
use Rattle.oat_langrun.specs.Meaning.{main_at}
use Rattle.oat_langrun.proofs.Starting.{first_stands, routines_few}
use Rattle.oat_langrun.proofs.run.LangRun.start.Goals as goal

pub main_number-requires : goal.main_number-requires
main_number-requires c =
    subst (λ (rs : List Routine). length rs < 4294967296) (sym (c.as_slice.ensures ∙ c.requires.listed)) (routines_few (seen_tree c.args.items.now) c.requires.lang)

pub invariant_of-result : goal.invariant_of-result
invariant_of-result c =
    first_stands _ c.args.items.now c.args.inputs.now c.args.op c.args.steps c.requires.lang
    (record {
      items_are = refl;
      routines = c.requires.listed;
      func = c.main_number.ensures ∙ ap main_at c.as_slice.ensures;
      place = refl;
      locals = refl;
      operands = refl;
      callers = c.in_ok-with_room.ensures;
      memory = c.in_ok-at_start.ensures;
      given = refl;
      end = refl;
      kept = c.in_ok-with_room-2.ensures;
    })
