use Rattle.std.proofs.Common.{◌≡◌, ◌+◌, ◌/◌, ◌%◌, ◌^◌, ◌++◌, pos, suc, ap, ◌∙◌, arith, List, ℕ}
use Rattle.std.specs.List.{flat_map}
use Rattle.oat_text.specs.{ended}
use Rattle.oat_make.specs.{Drill.drill_state, Drill.stirred, Text.helper_lines}
use Rattle.oat_make.proofs.Made.{so_far, so_far_more, all_made, rest_bytes}
use Rattle.oat_make.proofs.program.make_program.Goals as goal

pub loop-j-preserved : goal.loop-j-preserved
loop-j-preserved c = record {
  drawn = c.draw-in-loop-j.ensures.stirred ∙ ap stirred c.loop-j.invariant.drawn ∙ ap (λ m. stirred (drill_state c.args.number m)) (let e : suc c.loop-j.j ≡ c.loop-j.j + 1 = omega arith in e);
  made = so_far_more c.args.number c.loop-j.j c.put_helper.new.out.items (
      c.in_ok-put_helper.ensures
      ∙ ap (λ (t : List ℕ). t ++ flat_map ended (helper_lines c.loop-j.j (pos (c.draw-in-loop-j.result % 100)))) c.loop-j.invariant.made
      ∙ ap (λ (d : ℕ). so_far c.args.number c.loop-j.j ++ flat_map ended (helper_lines c.loop-j.j (pos (d % 100)))) (c.draw-in-loop-j.ensures.drawn ∙ ap (λ (s : ℕ). stirred s / 2 ^ 33) c.loop-j.invariant.drawn)
      );
}

pub returns : goal.returns
returns c =
    let low = c.loop-j-test.false in
    let high = c.loop-j.auto.j-end in
    let last : c.loop-j.j ≡ 16 = omega arith in
    all_made c.args.number c.put_work_and_main.new.out.items (
    c.in_ok-put_work_and_main.ensures ∙ ap (λ (t : List ℕ). t ++ rest_bytes) (c.loop-j.invariant.made ∙ ap (so_far c.args.number) last)
    )
