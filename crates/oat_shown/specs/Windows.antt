-- The windows of a case, of which each that sealed has a verdict: their numbers, and how work on them ends (docs/FORMATS.md).
use Rattle.std.specs.{Prelude.ℕ, Prelude.Bool, Prelude.true, Prelude.false, Prelude.if◌then◌else◌, Prelude.nat_lt, Prelude.List, Prelude.[], Prelude.length, Prelude.codes, Prelude.Option}
use Rattle.std.specs.{Prelude.unwrap_or, List.list_any, Option.option_map}
use Rattle.oat_verify.specs.{declared.verdict.Verdict.Verdict, declared.verdict.Verdict.TheVariants.Accept, declared.verdict.Verdict.TheVariants.Refuse}
use Rattle.oat_page.specs.{declared.page.Ended.Ended, declared.page.Ended.TheVariants.Done, declared.page.Ended.TheVariants.Rejected, declared.page.Ended.TheVariants.Unsealed, Outcome.line}

-- the number of window s, where the case numbers its windows
abbrev pub window_number : Option ℕ → ℕ → Option ℕ
window_number calls s = option_map (λ count. s) calls

abbrev pub is_refusal : Verdict → Bool
is_refusal (Accept path) = false
is_refusal (Refuse cause) = true

abbrev pub refuses_one : List Verdict → Bool
refuses_one verdicts = list_any is_refusal verdicts

-- fewer windows sealed than the case calls for
abbrev pub are_few : Option ℕ → List Verdict → Bool
are_few calls verdicts = nat_lt (length verdicts) (unwrap_or calls 1)

abbrev pub ended_with : Option ℕ → List Verdict → Ended
ended_with calls verdicts = if are_few calls verdicts then Unsealed else (if refuses_one verdicts then Rejected else Done)

-- of an unsealed run it is said that a blob is wanting
abbrev pub want_text : Ended → List ℕ
want_text Unsealed = line (codes "no blob")
want_text _ = []
