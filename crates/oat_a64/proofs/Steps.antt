-- A step, by what stands at PC.
use Rattle.std.proofs.Common.{◌≡◌, ℕ, Option, Some, None, refl, ap}
use Rattle.std.specs.Option.{option_and_then}
use Rattle.oat_a64.specs.{declared.inst.Inst.Inst, Fetch.inst_of, Step.Machine, Step.StepActs, Step.StepRests, Step.word_at, Step.act, Step.acts, Step.decodes, Step.step}

decodes_acts : (word : Option ℕ) (m : Machine) (i : Inst) → option_and_then inst_of word ≡ Some i → decodes word m ≡ act i m
decodes_acts None m i h = absurd (cc)
decodes_acts (Some word) m i h = ap (λ (o : Option Inst). acts o m) h

pub step_acts : StepActs
unfolding step
step_acts code m i h = decodes_acts (word_at code m.regs.pc) m i h

decodes_rests : (word : Option ℕ) (m : Machine) → option_and_then inst_of word ≡ None → (decodes word m).machine ≡ m
decodes_rests None m h = refl
decodes_rests (Some word) m h = ap (λ (o : Option Inst). (acts o m).machine) h

pub step_rests : StepRests
unfolding step
step_rests code m h = decodes_rests (word_at code m.regs.pc) m h
