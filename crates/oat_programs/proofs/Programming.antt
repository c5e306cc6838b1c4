-- What is refused of a program's file and of its case's has one refusal, and isn't read.
use Rattle.std.proofs.Common.{◌≡◌, ◌∙◌, Bool, true, false, Option, Some, None, Result, Ok, Err, MatchResult, sym, ap, subst, IsTrue, ◌<◌, ◌≤◌, ◌++◌, ℕ, List, decimal, codes, ap₂, []}
use Rattle.oat_check.specs.{declared.fault.CheckFault.CheckFault, declared.fault.CheckFault.TheVariants.At, Rules.first_fault}
use Rattle.oat_text.specs.{FaultText.kind_text, Grammar.IsProgramText, Bodies.program_of}
use Rattle.oat_text.proofs.TextLaws.{text_read, one_program}
use Rattle.oat_build.specs.{Program, has_operation, Case, code_limit, Built.program_words, most_words}
use Rattle.oat_page.proofs.Working.{StopsWith-more, IsDone, refused_is_not_done, RefusesWith-stops}
use Rattle.oat_inputs.specs.{fault_text, IsCaseText, IsOne, IsDecisive, Stop, Answer, refused, no_operation, as_outcome, File, StopsWith, RefusesWith}
use Rattle.oat_inputs.proofs.Refusing.{err_one, never, case_is_decisive}
use Rattle.oat_programs.specs.Programs.{rule_text, IsCheckedText, MisreadsProgram, BreaksCheck, RefusesProgram, misread, broken, IsCaseOf, RefusesCaseOf, misread_case, lacking, RefusesCode}

-- ---- where the stages stop

refuses_broken : (file : File) (p : Program) (stop : Stop) → IsProgramText file.text p → StopsWith (BreaksCheck file p) stop
    → StopsWith (RefusesProgram file) stop
refuses_broken file p stop read stops = StopsWith-more (BreaksCheck file p) (RefusesProgram file) stop (λ a refused. broken p read refused) stops

pub keeps_or_refuses : {X : Type 0} (file : File) (p : Program) (Q : X → Type 0) (answer : Result X Stop) → IsProgramText file.text p
    → MatchResult answer Q (StopsWith (BreaksCheck file p)) → MatchResult answer Q (StopsWith (RefusesProgram file))
keeps_or_refuses file p Q (Ok x) read kept = kept
keeps_or_refuses file p Q (Err stop) read stops = refuses_broken file p stop read stops

pub isnt_held : (tested held : Bool) → tested ≡ held → tested ≡ false → IsTrue held → ⊥
isnt_held tested held same lacks is = let wrong : false ≡ true = sym lacks ∙ (same ∙ is) in cc

-- ---- a program's file gives one program, or is refused in one way

abbrev told_of : File → Program → Option CheckFault → Answer
told_of file p (Some (At kind func block place)) = refused file.name (rule_text p kind func block place)
told_of file p _ = refused file.name []

one_break : (file : File) (p : Program) → IsOne Answer (BreaksCheck file p)
one_break file p a b one two = one.told ∙ (ap (told_of file p) (sym one.first ∙ two.first) ∙ sym two.told)

one_misreading : (file : File) → IsOne Answer (MisreadsProgram file)
one_misreading file a b one two =
    one.told ∙ (ap (λ fault. refused file.name (fault_text kind_text fault)) (err_one one.fault two.fault (program_of file.text) one.first two.first) ∙ sym two.told)

isnt_misread : (file : File) (p : Program) (a : Answer) → IsProgramText file.text p → MisreadsProgram file a → ⊥
isnt_misread file p a read refuses = never p refuses.fault (program_of file.text) (text_read file.text p read) refuses.first

one_refusal : (file : File) → IsOne Answer (RefusesProgram file)
one_refusal file a b (misread one) (misread two) = one_misreading file a b one two
one_refusal file a b (misread one) (broken p read two) = absurd (isnt_misread file p a read one)
one_refusal file a b (broken p read one) (misread two) = absurd (isnt_misread file p b read two)
one_refusal file a b (broken p read one) (broken q read' two) =
    one_break file p a b one (subst (λ (r : Program). BreaksCheck file r b) (one_program file.text q p read' read) two)

keeps_or_breaks : (file : File) (p : Program) (a : Answer) → first_fault p ≡ None → BreaksCheck file p a → ⊥
keeps_or_breaks file p a kept breaks = let wrong : None ≡ Some (At breaks.kind breaks.func breaks.block breaks.place) = sym kept ∙ breaks.first in cc

isnt_refused : (file : File) (p : Program) (a : Answer) → IsCheckedText file.text p → RefusesProgram file a → ⊥
isnt_refused file p a given (misread refuses) = isnt_misread file p a given.read refuses
isnt_refused file p a given (broken q read breaks) =
    keeps_or_breaks file p a given.checked.accepted (subst (λ (r : Program). BreaksCheck file r a) (one_program file.text q p read given.read) breaks)

pub program_is_decisive : (file : File) → IsDecisive Program Answer (IsCheckedText file.text) (RefusesProgram file)
program_is_decisive file = record {
  one_value = λ p q one two. one_program file.text p q one.read two.read;
  one_failure = one_refusal file;
  apart = isnt_refused file;
}

-- ---- and so does its case's

one_case : (file : File) (c d : Case) → IsCaseText file.text c → IsCaseText file.text d → c ≡ d
one_case file c d one two = (case_is_decisive file).one_value c d one two

one_case_refusal : (p : Program) (file : File) → IsOne Answer (RefusesCaseOf p file)
one_case_refusal p file a b (misread_case one) (misread_case two) = (case_is_decisive file).one_failure a b one two
one_case_refusal p file a b (misread_case one) (lacking c read lacks told) = absurd ((case_is_decisive file).apart c a read one)
one_case_refusal p file a b (lacking c read lacks told) (misread_case two) = absurd ((case_is_decisive file).apart c b read two)
one_case_refusal p file a b (lacking c read lacks told) (lacking d read' lacks' told') =
    told ∙ (ap (λ (x : Case). no_operation file.name x.session.op) (one_case file c d read read') ∙ sym told')

isnt_case_refused : (p : Program) (file : File) (c : Case) (a : Answer) → IsCaseOf p file.text c → RefusesCaseOf p file a → ⊥
isnt_case_refused p file c a given (misread_case refuses) = (case_is_decisive file).apart c a given.read refuses
isnt_case_refused p file c a given (lacking d read lacks told) =
    lacks (subst (λ (x : Case). IsTrue (has_operation p x.session.op)) (one_case file c d given.read read) given.begun)

pub case_of_is_decisive : (p : Program) (file : File) → IsDecisive Case Answer (IsCaseOf p file.text) (RefusesCaseOf p file)
case_of_is_decisive p file = record {
  one_value = λ c d one two. one_case file c d one.read two.read;
  one_failure = one_case_refusal p file;
  apart = isnt_case_refused p file;
}

-- ---- a refusal isn't work that was done

pub refused_program_is_not_done : (file : File) (a : Answer) → IsDone (as_outcome a).status → RefusesProgram file a → ⊥
refused_program_is_not_done file a is_done (misread refuses) = refused_is_not_done a _ _ refuses.told is_done
refused_program_is_not_done file a is_done (broken p read breaks) = refused_is_not_done a _ _ breaks.told is_done

pub refused_case_is_not_done : (p : Program) (file : File) (a : Answer) → IsDone (as_outcome a).status → RefusesCaseOf p file a → ⊥
refused_case_is_not_done p file a is_done (misread_case refuses) = refused_is_not_done a _ _ refuses.told is_done
refused_case_is_not_done p file a is_done (lacking c read lacks told) = refused_is_not_done a _ _ told is_done

-- ---- where the work stops, and where it goes on

-- a stop that says of how many words the code is, where these are too many
pub refuses_words : (file : File) (p : Program) (words : ℕ) (name : List ℕ) (stop : Stop) → words ≡ program_words p → code_limit < words → words ≤ most_words p
    → name ≡ file.name → RefusesWith (refused name (codes "CodeTooLarge " ++ decimal words)) (Ok stop) → StopsWith (RefusesCode file p) stop
refuses_words file p words name stop needed large few named stops =
    RefusesWith-stops (RefusesCode file p) (refused name (codes "CodeTooLarge " ++ decimal words)) stop stops (record {
      large = subst (λ (n : ℕ). code_limit < n) needed large;
      few = subst (λ (n : ℕ). n ≤ most_words p) needed few;
      told = ap₂ (λ (file words : List ℕ). refused file (codes "CodeTooLarge " ++ words)) named (ap decimal needed);
    })
