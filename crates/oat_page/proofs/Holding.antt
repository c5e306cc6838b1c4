-- How files that are loaded one after another are held, and where the first that isn't stops them.
use Rattle.std.proofs.Common.{suc, zero, ◌≡◌, ◌<◌, ◌+◌, ◌∙◌, ℕ, List, [], ◌∷◌, ◌++◌, length, take, drop, get_or, add-one, drop-cons, refl, sym, ap, subst, arith}
use Rattle.std.proofs.Math.Seq.{take-suc}
use Rattle.std.proofs.lemmas.List.{take-append-drop}
use Rattle.oat_first.specs.First.{fails, passes}
use Rattle.oat_world.specs.Outside.{Contents}
use Rattle.oat_page.specs.{declared.page.Halt.Halt, Outcome.Outcome, Outcome.says, Loads.Wanted, Loads.File, Loads.wanted_of, Loads.IsLoaded, Loads.LoadFails, Loads.absent, Loads.faulted, Loads.long}
use Rattle.oat_page.specs.{Loads.AreLoaded, Loads.LoadsFail, Works.HaltsWith}
use Rattle.oat_page.specs.declared.page.Halt.TheVariants as halt

pub HaltsWith-more : (P Q : Outcome → Type 0) (h : Halt) → ((o : Outcome) → P o → Q o) → HaltsWith P h → HaltsWith Q h
HaltsWith-more P Q (halt.ReadFault text) more halts = more (says 4 text.items) halts
HaltsWith-more P Q (halt.Refused text) more halts = more (says 2 text.items) halts
HaltsWith-more P Q halt.Starved more halts = tt

-- ---- what is wanted, by its place

pub length-wanted : (names : List (List ℕ)) (limits : List ℕ) → length names ≡ length limits → length (wanted_of names limits) ≡ length limits
length-wanted [] [] same = refl
length-wanted [] (limit ∷ limits) same = absurd (omega (arith, same))
length-wanted (name ∷ names) [] same = absurd (omega (arith, same))
length-wanted (name ∷ names) (limit ∷ limits) same =
    let rest : length (wanted_of names limits) ≡ length limits = length-wanted names limits (omega (arith, same)) in
    ap (λ (n : ℕ). suc n) rest

pub wanted_at : (names : List (List ℕ)) (limits : List ℕ) (k : ℕ) (n : List ℕ) (l : ℕ) → length names ≡ length limits → k < length limits
    → get_or (wanted_of names limits) k (record { name = n; limit = l }) ≡ record { name = get_or names k n; limit = get_or limits k l }
wanted_at [] [] k n l same within = absurd (omega (arith, within))
wanted_at [] (limit ∷ limits) k n l same within = absurd (omega (arith, same))
wanted_at (name ∷ names) [] k n l same within = absurd (omega (arith, same))
wanted_at (name ∷ names) (limit ∷ limits) zero n l same within = refl
wanted_at (name ∷ names) (limit ∷ limits) (suc k) n l same within =
    wanted_at names limits k n l (omega (arith, same)) (omega (arith, within))

-- ---- one more file

held_more : (contents : Contents) (before : List Wanted) (files : List File) (wanted : Wanted) (file : File)
    → AreLoaded contents before files → IsLoaded contents wanted file → AreLoaded contents (before ++ wanted ∷ []) (files ++ file ∷ [])
held_more contents [] [] wanted file held next = (next, tt)
held_more contents [] (f ∷ files) wanted file held next = absurd held
held_more contents (w ∷ before) [] wanted file held next = absurd held
held_more contents (w ∷ before) (f ∷ files) wanted file held next = (held.0, held_more contents before files wanted file held.1 next)

fails_behind : (contents : Contents) (rose : Type 0) (before : List Wanted) (files : List File) (wanted : Wanted) (more : List Wanted) (o : Outcome)
    → AreLoaded contents before files → LoadFails contents rose wanted o → LoadsFail contents rose (before ++ wanted ∷ more) o
fails_behind contents rose [] [] wanted more o held failed = fails failed
fails_behind contents rose [] (f ∷ files) wanted more o held failed = absurd held
fails_behind contents rose (w ∷ before) [] wanted more o held failed = absurd held
fails_behind contents rose (w ∷ before) (f ∷ files) wanted more o held failed =
    passes f held.0 (fails_behind contents rose before files wanted more o held.1 failed)

pub LoadFails-more : (contents : Contents) (rose more : Type 0) (wanted : Wanted) (o : Outcome) → (rose → more)
    → LoadFails contents rose wanted o → LoadFails contents more wanted o
LoadFails-more contents rose more wanted o rises (absent none is) = absent none is
LoadFails-more contents rose more wanted o rises (faulted risen is) = faulted (rises risen) is
LoadFails-more contents rose more wanted o rises (long over is) = long over is

-- ---- the same, in a list of names and limits

pub AreLoaded-next : (contents : Contents) (names : List (List ℕ)) (limits : List ℕ) (k : ℕ) (n : List ℕ) (l : ℕ) (files : List File) (file : File)
    → length names ≡ length limits → k < length limits → AreLoaded contents (take k (wanted_of names limits)) files
    → IsLoaded contents (record { name = get_or names k n; limit = get_or limits k l }) file
    → AreLoaded contents (take (k + 1) (wanted_of names limits)) (files ++ file ∷ [])
AreLoaded-next contents names limits k n l files file same within held next =
    let there : k < length (wanted_of names limits) = rw (length-wanted names limits same) within in
    rw (add-one, take-suc (wanted_of names limits) k (record { name = n; limit = l }) there, wanted_at names limits k n l same within)
    (held_more contents (take k (wanted_of names limits)) files _ file held next)

pub LoadsFail-next : (contents : Contents) (rose : Type 0) (names : List (List ℕ)) (limits : List ℕ) (k : ℕ) (n : List ℕ) (l : ℕ) (files : List File) (o : Outcome)
    → length names ≡ length limits → k < length limits → AreLoaded contents (take k (wanted_of names limits)) files
    → LoadFails contents rose (record { name = get_or names k n; limit = get_or limits k l }) o
    → LoadsFail contents rose (wanted_of names limits) o
LoadsFail-next contents rose names limits k n l files o same within held failed =
    let W = wanted_of names limits in
    let there : k < length W = rw (length-wanted names limits same) within in
    let split : W ≡ take k W ++ (record { name = get_or names k n; limit = get_or limits k l } ∷ drop (suc k) W) =
    sym (take-append-drop k W)
    ∙ ap (λ (rest : List Wanted). take k W ++ rest)
    (drop-cons W k (record { name = n; limit = l }) there ∙ ap (λ (w : Wanted). w ∷ drop (suc k) W) (wanted_at names limits k n l same within)) in
    subst (λ (ws : List Wanted). LoadsFail contents rose ws o) (sym split)
    (fails_behind contents rose (take k W) files _ (drop (suc k) W) o held failed)
