-- What the room of `drill` reads, checks and puts. The drill is a variable here, since nothing is to compute with it.
use Rattle.std.proofs.Common.{◌≡◌, ◌∙◌, ◌≤◌, ◌++◌, ◌∷◌, [], ℕ, List, Result, Ok, Err, IfOk, Some, None, true, length, slice_get, slice_index_or, codes, decimal, append_assoc, ap, ap₂, sym, subst}
use Rattle.std.proofs.Common.{arith}
use Rattle.std.specs.declared.alloc.AllocError.{AllocError}
use Rattle.sha2.specs.Sha256.{sha256}
use Rattle.hex.specs.Hex.{encode_lower}
use Rattle.oat_text.specs.Grammar.{IsProgramText}
use Rattle.oat_text.proofs.TextLaws.{one_program}
use Rattle.oat_make.specs.{Drill.drill_program, Text.drill_case}
use Rattle.oat_build.specs.{Program, most_words, has_operation}
use Rattle.oat_attestation.specs.{declared.attested.Attested.Attested, Attestation.Attests}
use Rattle.oat_shown.specs.{Case, Verdict, Edge, Map, verdict_text, Report.path_in, Report.path_text, Ended, Answer, shows}
use Rattle.oat_room_drill.specs.Drill.{AttestsDrill, Drills, IsDrillCase, ShowsDrill, drill_report}

few_of : (m : ℕ) → m ≤ 4096 → m ≤ 1048576
few_of m few = omega (arith, few)

-- a text that is short is no longer than a program's may be
pub is_short : (text drawn : List ℕ) → text ≡ drawn → length drawn ≤ 4096 → length text ≤ 1048576
is_short text drawn same few = few_of (length text) (subst (λ (t : List ℕ). length t ≤ 4096) (sym same) few)

-- what is read of a text is the program that is written there
pub is_drawn : (text drawn : List ℕ) (p q : Program) → text ≡ drawn → IsProgramText drawn q → IsProgramText text p → p ≡ q
is_drawn text drawn p q same written read = one_program drawn p q (subst (λ (t : List ℕ). IsProgramText t p) same read) written

pub is_written : (text drawn : List ℕ) (q : Program) → text ≡ drawn → IsProgramText drawn q → (program : Program) × IsProgramText text program
is_written text drawn q same written = (q, subst (λ (t : List ℕ). IsProgramText t q) (sym same) written)

-- what holds of the program and of the case that are drawn holds of those that were made
pub few_words : (p q : Program) → p ≡ q → most_words q ≤ 131072 → most_words p ≤ 131072
few_words p q same few = subst (λ (program : Program). most_words program ≤ 131072) (sym same) few

pub operation_in : (p q : Program) (a b : Case) → p ≡ q → a ≡ b → has_operation q b.session.op ≡ true → has_operation p a.session.op ≡ true
operation_in p q a b same alike is = ap₂ (λ (program : Program) (case : Case). has_operation program case.session.op) same alike ∙ is

attests_as : (p q : Program) (a b : Case) (attested : Attested) → p ≡ q → a ≡ b → Attests p a attested → Attests q b attested
attests_as p q a b attested same alike attests =
    subst (λ (program : Program). Attests program b attested) same (subst (λ (case : Case). Attests p case attested) alike attests)

pub attests_drawn : (n : ℕ) (p : Program) (case : Case) (result : Result Attested AllocError) → p ≡ drill_program n → IsDrillCase n case
    → IfOk result (λ attested. Attests p case attested) → IfOk result (λ attested. AttestsDrill n attested)
attests_drawn n p case (Ok attested) same alike attests = record { attests = attests_as p (drill_program n) case (drill_case n) attested same alike.is attests }
attests_drawn n p case (Err starved) same alike attests = tt

-- the report of the counts and of the digest that were taken
pub report_from : (n : ℕ) (flow : Map) (verdict : Verdict) (outputs counted edges : ℕ) (path : List Edge) (digest : List ℕ)
    → counted ≡ outputs → path ≡ path_in verdict → edges ≡ length path → digest ≡ sha256 (path_text flow path)
    → drill_report n counted edges digest verdict ≡ drill_report n outputs (length (path_in verdict)) (sha256 (path_text flow (path_in verdict))) verdict
report_from n flow verdict outputs counted edges path digest few same long hashed =
    ap (λ (m : ℕ). drill_report n m edges digest verdict) few
    ∙ (ap (λ (m : ℕ). drill_report n outputs m digest verdict) (long ∙ ap length same)
    ∙ ap (λ (d : List ℕ). drill_report n outputs (length (path_in verdict)) d verdict) (hashed ∙ ap (λ (edges : List Edge). sha256 (path_text flow edges)) same))

-- the first verdict, where there is one
pub is_first : (judged verdicts : List Verdict) (verdict : Verdict) → judged ≡ verdicts → Some verdict ≡ slice_get judged 0 → slice_get verdicts 0 ≡ Some verdict
is_first judged verdicts verdict same is = ap (λ (vs : List Verdict). slice_get vs 0) (sym same) ∙ sym is

pub has_first : (judged verdicts : List Verdict) (verdict : Verdict) → judged ≡ verdicts → slice_get verdicts 0 ≡ Some verdict → None ≡ slice_get judged 0 → ⊥
has_first judged verdicts verdict same first none =
    let wrong : None ≡ Some verdict = none ∙ (ap (λ (vs : List Verdict). slice_get vs 0) same ∙ first) in cc

-- the one number's drill
pub one_drill : (numbers : List ℕ) (a : Answer) → length numbers ≡ 1 → ShowsDrill (slice_index_or numbers 0 0) a → Drills numbers a
one_drill [] a count shown = absurd (omega (arith, count))
one_drill (n ∷ []) a count shown = shown
one_drill (m ∷ n ∷ numbers) a count shown = absurd (omega (arith, count))

pub shown_as : (e f : Ended) (s t u : List ℕ) → e ≡ f → s ≡ t → u ≡ [] → shows e s u ≡ shows f t []
shown_as e f s t u ended same empty = cc

-- the report as it is put together
lines_joined : (end p a q b r c s digits told : List ℕ)
    → ((((p ++ (a ++ (end ++ (q ++ (b ++ (end ++ (r ++ (c ++ (end ++ s))))))))) ++ digits) ++ end) ++ told) ++ end
    ≡ (((((p ++ a) ++ end) ++ ((q ++ b) ++ end)) ++ ((r ++ c) ++ end)) ++ ((s ++ digits) ++ end)) ++ (told ++ end)
lines_joined end p a q b r c s digits told = simp append_assoc

pub report_joined : (n outputs edges : ℕ) (digest : List ℕ) (verdict : Verdict) (counts digits told one two three four : List ℕ)
    → counts ≡ codes "drill " ++ (decimal n ++ (codes "\noutputs " ++ (decimal outputs ++ (codes "\npath " ++ (decimal edges ++ codes "\ndigest ")))))
    → digits ≡ encode_lower digest → told ≡ verdict_text None verdict
    → one ≡ counts ++ digits → two ≡ one ++ 10 ∷ [] → three ≡ two ++ told → four ≡ three ++ 10 ∷ [] → four ≡ drill_report n outputs edges digest verdict
report_joined n outputs edges digest verdict counts digits told one two three four counted hexed said first second third fourth =
    let is_one = first ∙ ap₂ (λ (xs ys : List ℕ). xs ++ ys) counted hexed in
    let is_two = second ∙ ap (λ (xs : List ℕ). xs ++ 10 ∷ []) is_one in
    let is_three = third ∙ ap₂ (λ (xs ys : List ℕ). xs ++ ys) is_two said in
    fourth ∙ (ap (λ (xs : List ℕ). xs ++ 10 ∷ []) is_three
    ∙ lines_joined (10 ∷ []) (codes "drill ") (decimal n) (codes "outputs ") (decimal outputs) (codes "path ") (decimal edges) (codes "digest ") (encode_lower digest) (verdict_text None verdict))
