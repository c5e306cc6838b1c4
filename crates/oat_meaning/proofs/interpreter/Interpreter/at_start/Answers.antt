use Rattle.std.proofs.Common.{refl, replicate}
use Rattle.oat_check.proofs.{Checking.keeps_rules, Numbers.has_funcs}
use Rattle.oat_meaning.proofs.Making.{first_stands}
use Rattle.oat_meaning.proofs.interpreter.Interpreter.at_start.Goals as goal

pub main_number-requires : goal.main_number-requires
main_number-requires c = (has_funcs c.args.program.now c.requires.checked.well_formed).few

pub at_start-requires : goal.at_start-requires
at_start-requires c = (keeps_rules c.args.program.now c.requires.checked.accepted).words

pub returns : goal.returns
returns c =
    first_stands _ c.args.program.now c.args.inputs.now c.args.op c.args.steps c.requires.checked c.requires.few
    (record {
      program = refl;
      running = λ i. record { func = c.main_number.ensures i; block = 0; line = 0; number = 0; locals = replicate 255 0 };
      callers = c.in_ok-with_room.ensures;
      globals = c.in_ok-at_start.ensures.program;
      values = c.in_ok-at_start.ensures.values;
      given = refl;
      end = refl;
      kept = c.in_ok-with_room-2.ensures;
    })
