-- One instruction told in other words, and some behind others.
use Rattle.std.proofs.Common.{◌≡◌, ℕ, List, [], Some, None, ap, subst, ◌∙◌}
use Rattle.std.specs.List.{cons_option}
use Rattle.oat_asm.specs.{Inst, instruction_at, Image}
use Rattle.oat_follow.specs.{Running, found, Events.MachineEvent, Events.told_at, Reaching.RunsTo, Reaching.inst_makes}
use Rattle.oat_frames.specs.Moments.{KeepsGoing}
pub use Rattle.oat_follow.proofs.FollowLaws.{instructions_lead as goes, last_instructions_lead as stops, none_lead as still, instructions_follow as thence}

-- an instruction that goes on, where what the instruction leaves is told in other words
pub goes-as : (image : Image) (m k : Running) (i : Inst) → m.end ≡ None → instruction_at image.code m.machine.regs.pc ≡ Some i → inst_makes m i ≡ k → k.end ≡ None
    → RunsTo image 1 m k (cons_option (told_at image.map (record { inst = i; found = found [] m; left = k.machine.regs })) [])
goes-as image m k i going at is on =
    let r = goes image m i going at (ap (λ (x : Running). x.end) is ∙ on) in
    record {
      run = r.run ∙ is;
      told = r.told ∙ ap (λ (x : Running). cons_option (told_at image.map (record { inst = i; found = found [] m; left = x.machine.regs })) []) is;
    }

pub counted : (image : Image) (a b : ℕ) (m k : Running) (es : List MachineEvent) → a ≡ b → RunsTo image a m k es → RunsTo image b m k es
counted image a b m k es is r = subst (λ (n : ℕ). RunsTo image n m k es) is r

pub kept-on : (m k l : Running) → KeepsGoing m k → KeepsGoing k l → KeepsGoing m l
kept-on m k l a b = record { going = b.going; inputs = b.inputs ∙ a.inputs; outputs = b.outputs ∙ a.outputs }
