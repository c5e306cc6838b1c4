-- The smallest image with a jump follows its source.
use Rattle.std.proofs.Common.{◌≡◌, ◌≤◌, ℕ, pos, [], map, Option, option_map, Some, None, refl, sym, ap, ◌∙◌, arith, lit<}
use Rattle.oat_a64.proofs.FetchLemmas.{inst_from_word}
use Rattle.oat_journal.specs.{Movz, B, Svc, inst_of, Passes, Finish, SourceKeeps, one_jump, declared.end.DeviceEnd.TheVariants.Halted, Measured.start_cells, Run.Running, Run.started}
use Rattle.oat_follow.specs.{Placement.AreNamed, Placement.seen_at, Reaching.RunsTo, Reaching.inst_makes, Reaching.run_on, Reaching.shown_on, Steps.FollowsSteps, Steps.IsMatched, Steps.device_end}
use Rattle.oat_follow.specs.{Steps.step_limit, Worked.OneJumpMeans, Worked.OneJumpRunsAs, Worked.Spot, Worked.at_call, Worked.at_halt, Worked.at_jump, Worked.at_return, Worked.one_jump_placement}
use Rattle.oat_follow.specs.{Worked.one_jump_source, Worked.over}
use Rattle.oat_follow.proofs.{OnBare.runs_as, OnDevice.means, Reaching.goes, Reaching.still, Reaching.stops, Reaching.thence}

movz-is : inst_of 0xD2800029 ≡ Some (Movz 9 0 1)
movz-is = inst_from_word (Movz 9 0 1) 0xD2800029 ((lit< tt, (lit< tt, (lit< tt, tt))), refl)

begin-is : inst_of 0xD4000021 ≡ Some (Svc 1)
begin-is = inst_from_word (Svc 1) 0xD4000021 ((lit< tt, tt), refl)

jump-is : inst_of 0x14000001 ≡ Some (B (pos 1))
jump-is = inst_from_word (B (pos 1)) 0x14000001 ((lit< tt, tt), refl)

end-is : inst_of 0xD4000041 ≡ Some (Svc 2)
end-is = inst_from_word (Svc 2) 0xD4000041 ((lit< tt, tt), refl)

halt-is : inst_of 0xD4000001 ≡ Some (Svc 0)
halt-is = inst_from_word (Svc 0) 0xD4000001 ((lit< tt, tt), refl)

abbrev m0 : Running
m0 = started one_jump []

abbrev m2 : Running
m2 = inst_makes (inst_makes m0 (Movz 9 0 1)) (Svc 1)

abbrev m3 : Running
m3 = inst_makes m2 (B (pos 1))

abbrev m5 : Running
m5 = inst_makes (inst_makes m3 (Movz 9 0 1)) (Svc 2)

abbrev m6 : Running
m6 = inst_makes m5 (Svc 0)

enters : RunsTo one_jump 2 m0 m2 (map (seen_at one_jump_placement) (one_jump_source.show at_call))
enters = thence one_jump 1 1 m0 (inst_makes m0 (Movz 9 0 1)) m2 [] _ (goes one_jump m0 (Movz 9 0 1) refl movz-is refl) (goes one_jump (inst_makes m0 (Movz 9 0 1)) (Svc 1) refl begin-is refl)

jumps : RunsTo one_jump 1 m2 m3 (map (seen_at one_jump_placement) (one_jump_source.show at_jump))
jumps = goes one_jump m2 (B (pos 1)) refl jump-is refl

leaves : RunsTo one_jump 2 m3 m5 (map (seen_at one_jump_placement) (one_jump_source.show at_return))
leaves = thence one_jump 1 1 m3 (inst_makes m3 (Movz 9 0 1)) m5 [] _ (goes one_jump m3 (Movz 9 0 1) refl movz-is refl) (goes one_jump (inst_makes m3 (Movz 9 0 1)) (Svc 2) refl end-is refl)

halts : RunsTo one_jump 1 m5 m6 (map (seen_at one_jump_placement) (one_jump_source.show at_halt))
halts = stops one_jump m5 (Svc 0) Halted refl halt-is refl

abbrev moment : Spot → Running
moment at_call = m0
moment at_jump = m2
moment at_return = m3
moment at_halt = m5
moment over = m6

abbrev Related : Spot → Running → Type 0
Related s m = m ≡ moment s

named : (s : Spot) → AreNamed one_jump.map one_jump_placement one_jump_source.name (one_jump_source.show s)
named at_call = (tt, tt)
named at_jump = (refl, tt)
named at_return = (tt, tt)
named at_halt = tt
named over = tt

matched : (s : Spot) (n : ℕ) → 1 ≤ n → n ≤ step_limit → (m : Running) → m ≡ moment s → RunsTo one_jump n (moment s) (moment (one_jump_source.next s)) (map (seen_at one_jump_placement) (one_jump_source.show s)) → IsMatched one_jump_source one_jump one_jump_placement Related s m
matched s n some few m is r = record {
  count = n;
  some = some;
  few = few;
  kept = ap (λ (x : Running). run_on one_jump n x) is ∙ r.run;
  alike = ap (λ (x : Running). shown_on one_jump n x) is ∙ r.told;
  named = named s;
}

steps : (s : Spot) (m : Running) → Related s m → one_jump_source.end s ≡ None → IsMatched one_jump_source one_jump one_jump_placement Related s m
steps at_call m is going = matched at_call 2 (omega arith) (omega arith) m is enters
steps at_jump m is going = matched at_jump 1 (omega arith) (omega arith) m is jumps
steps at_return m is going = matched at_return 2 (omega arith) (omega arith) m is leaves
steps at_halt m is going = matched at_halt 1 (omega arith) (omega arith) m is halts
steps over m is going = absurd (cc)

ends : (s : Spot) → (moment s).end ≡ option_map device_end (one_jump_source.end s)
ends at_call = refl
ends at_jump = refl
ends at_return = refl
ends at_halt = refl
ends over = refl

follows : FollowsSteps one_jump_source one_jump one_jump_placement []
follows = record {
  Related = Related;
  lead = 0;
  few = omega arith;
  first = (still one_jump m0).run;
  silent = (still one_jump m0).told;
  ends = λ s m is. ap (λ (x : Running). x.end) is ∙ ends s;
  finish = λ op. record { edge = refl; name = refl };
  step = steps;
}

abbrev active_at : Spot → Option ℕ
active_at at_jump = Some 1
active_at at_return = Some 1
active_at _ = None

passes : (s : Spot) → Passes (active_at s) (start_cells one_jump) (one_jump_source.show s) (active_at (one_jump_source.next s)) (start_cells one_jump)
passes at_call = (refl, (refl, refl))
passes at_jump = (refl, refl)
passes at_return = (refl, (refl, refl))
passes at_halt = (refl, refl)
passes over = (refl, refl)

stays : (s : Spot) (why : Finish) → one_jump_source.end s ≡ Some why → one_jump_source.next s ≡ s
stays over why is = refl
stays at_call why is = absurd (cc)
stays at_jump why is = absurd (cc)
stays at_return why is = absurd (cc)
stays at_halt why is = absurd (cc)

quiet : (s : Spot) (why : Finish) → one_jump_source.end s ≡ Some why → one_jump_source.show s ≡ []
quiet over why is = refl
quiet at_halt why is = refl
quiet at_call why is = absurd (cc)
quiet at_jump why is = absurd (cc)
quiet at_return why is = absurd (cc)

keeps : SourceKeeps one_jump_source (start_cells one_jump)
keeps = record {
  Good = λ s. Unit {0};
  good = tt;
  goes = λ s good. tt;
  stays = stays;
  quiet = quiet;
  active = active_at;
  cells = λ s. start_cells one_jump;
  first_active = refl;
  first_cells = refl;
  passes = λ s good. passes s;
}

pub one_jump_runs_as : OneJumpRunsAs
one_jump_runs_as = runs_as one_jump_source one_jump one_jump_placement [] keeps follows

pub one_jump_means : OneJumpMeans
one_jump_means o at = means one_jump_source one_jump one_jump_placement o [] (sym at) one_jump_runs_as
