-- One instruction, and some behind others.
use Rattle.std.proofs.Common.{◌≡◌, ◌+◌, ℕ, List, [], ◌++◌, Option, Some, None, refl, ap, ◌∙◌}
use Rattle.std.specs.List.{cons_option}
use Rattle.std.proofs.lemmas.List.Elements.{filter_map-append}
use Rattle.oat_journal.specs.{Inst, instruction_at, Image, declared.end.DeviceEnd.DeviceEnd, Run.Running, Run.Entry, Run.found, Run.entry, Run.made_entry, Run.from_entry, Run.turn, Run.turns}
use Rattle.oat_journal.specs.{Run.journal_from, TurnLaws.AddsUp, TurnLaws.MakesOne}
use Rattle.oat_journal.proofs.RunLaws.{one_turn, turns_add}
use Rattle.oat_follow.specs.{Events.MachineEvent, Events.told_at, Events.events_of, Reaching.InstructionsFollow, Reaching.InstructionsLead, Reaching.LastInstructionsLead, Reaching.RunsTo}
use Rattle.oat_follow.specs.{Reaching.inst_makes, Reaching.inst_entry, Reaching.run_on, Reaching.shown_on}

pub shown-adds : (image : Image) (a b : ℕ) (m : Running) → shown_on image (a + b) m ≡ shown_on image a m ++ shown_on image b (run_on image a m)
shown-adds image a b m =
    let adds : AddsUp image.code [] a b m = turns_add image.code [] a b m in
    ap (events_of image.map) adds.journal ∙ filter_map-append (told_at image.map) (journal_from image.code [] a m) (journal_from image.code [] b (run_on image a m))

one-entry : (code : List ℕ) (m : Running) (o : Option Entry) → entry code [] m ≡ o → journal_from code [] 1 m ≡ from_entry o []
unfolding journal_from
one-entry code m o is = ap (λ (e : Option Entry). from_entry e []) is

just-one : (code : List ℕ) (m : Running) → turns code [] 1 m ≡ turn code [] m
unfolding turns
just-one code m = refl

-- an instruction that doesn't end the run
pub goes : InstructionsLead
goes image m i going at on =
    let one : MakesOne image.code [] m i = one_turn image.code [] m i going at in
    let noted : entry image.code [] m ≡ Some (inst_entry m i) =
    one.noted (ap (λ (r : Running). r.end) one.next ∙ on) ∙ ap (λ (r : Running). Some (record { inst = i; found = found [] m; left = r.machine.regs })) one.next in
    record { run = just-one image.code m ∙ one.next; told = ap (events_of image.map) (one-entry image.code m (Some (inst_entry m i)) noted) }

-- an instruction that ends the run
pub stops : LastInstructionsLead
stops image m i why going at off =
    let one : MakesOne image.code [] m i = one_turn image.code [] m i going at in
    let ends : (turn image.code [] m).end ≡ Some why = ap (λ (r : Running). r.end) one.next ∙ off in
    let none : entry image.code [] m ≡ None =
    ap (λ (o : Option Inst). made_entry o (found [] m) (turn image.code [] m).end (turn image.code [] m)) at ∙ ap (λ (e : Option DeviceEnd). made_entry (Some i) (found [] m) e (turn image.code [] m)) ends in
    record { run = just-one image.code m ∙ one.next; told = ap (events_of image.map) (one-entry image.code m None none) }

pub still : (image : Image) (m : Running) → RunsTo image 0 m m []
unfolding turns journal_from
still image m = record { run = refl; told = refl }

pub thence : InstructionsFollow
thence image a b m k l xs ys first second =
    let adds : AddsUp image.code [] a b m = turns_add image.code [] a b m in
    record {
      run = adds.run ∙ ap (λ (r : Running). run_on image b r) first.run ∙ second.run;
      told = shown-adds image a b m ∙ ap (λ (es : List MachineEvent). es ++ shown_on image b (run_on image a m)) first.told
          ∙ ap (λ (r : Running). xs ++ shown_on image b r) first.run ∙ ap (λ (es : List MachineEvent). xs ++ es) second.told;
    }

-- the same, where what the instruction leaves is told in other words
pub goes-as : (image : Image) (m k : Running) (i : Inst) → m.end ≡ None → instruction_at image.code m.machine.regs.pc ≡ Some i → inst_makes m i ≡ k → k.end ≡ None
    → RunsTo image 1 m k (cons_option (told_at image.map (record { inst = i; found = found [] m; left = k.machine.regs })) [])
goes-as image m k i going at is on =
    let r = goes image m i going at (ap (λ (x : Running). x.end) is ∙ on) in
    record {
      run = r.run ∙ is;
      told = r.told ∙ ap (λ (x : Running). cons_option (told_at image.map (record { inst = i; found = found [] m; left = x.machine.regs })) []) is;
    }
