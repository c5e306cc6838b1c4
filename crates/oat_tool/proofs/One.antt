-- Loads give one list of files or fail in one way, so words and contents have one outcome where the command has one answer.
use Rattle.std.proofs.Common.{◌≡◌, ◌∙◌, ◌<◌, ℕ, List, [], ◌∷◌, length, Some, None, refl, sym, ap, subst, arith}
use Rattle.oat_first.proofs.FirstLaws.{First-one}
use Rattle.oat_words.specs.{declared.command.Command.Command, Commands.numbers_of, Commands.files_of}
use Rattle.oat_room_attest.specs.{Contents, fails, passes, IsOne, IsDecisive, Outcome, Answer, IsAnswered, as_outcome, Wanted, File, IsLoaded, LoadFails, absent, faulted, long, AreLoaded, LoadsFail}
use Rattle.oat_tool.specs.{Defined.Does, Defined.Ends, Defined.done, Defined.other, DefinedLaws.OneOutcome}
use Rattle.oat_tool.proofs.Apart.{one_command}

abbrev made : List ℕ → ℕ → List ℕ → File
made name limit text = record { name = name; limit = limit; text = text }

one_file : (f g : File) → f.name ≡ g.name → f.limit ≡ g.limit → f.text ≡ g.text → f ≡ g
one_file f g name limit text =
    ap (λ (n : List ℕ). made n f.limit f.text) name
    ∙ (ap (λ (l : ℕ). made g.name l f.text) limit ∙ ap (λ (t : List ℕ). made g.name g.limit t) text)

some_one : (x y : List ℕ) → Some x ≡ Some y → x ≡ y
some_one x y same = cc

one_held : (contents : Contents) (wanted : Wanted) → IsOne File (IsLoaded contents wanted)
one_held contents wanted f g one two =
    one_file f g (one.named ∙ sym two.named) (one.limited ∙ sym two.limited) (some_one f.text g.text (sym one.held ∙ two.held))

one_failure : (contents : Contents) (wanted : Wanted) → IsOne Outcome (LoadFails contents ⊥ wanted)
one_failure contents wanted o p (faulted none is) second = absurd none
one_failure contents wanted o p (absent none is) (faulted none' is') = absurd none'
one_failure contents wanted o p (long over is) (faulted none' is') = absurd none'
one_failure contents wanted o p (absent none is) (absent none' is') = is ∙ sym is'
one_failure contents wanted o p (absent none is) (long over is') = absurd (rw none at over)
one_failure contents wanted o p (long over is) (absent none is') = absurd (rw none at over)
one_failure contents wanted o p (long over is) (long over' is') = is ∙ sym is'

held_apart : (contents : Contents) (wanted : Wanted) (f : File) (o : Outcome) → IsLoaded contents wanted f → LoadFails contents ⊥ wanted o → ⊥
held_apart contents wanted f o held (absent none is) = let same : None ≡ Some f.text = sym none ∙ held.held in cc
held_apart contents wanted f o held (faulted none is) = none
held_apart contents wanted f o held (long over is) =
    let above : wanted.limit < length f.text = rw held.held at over in omega (arith, above, held.short)

pub load_is_decisive : (contents : Contents) (wanted : Wanted) → IsDecisive File Outcome (IsLoaded contents wanted) (LoadFails contents ⊥ wanted)
load_is_decisive contents wanted = record {
  one_value = one_held contents wanted;
  one_failure = one_failure contents wanted;
  apart = held_apart contents wanted;
}

all_one : (contents : Contents) (wanted : List Wanted) → IsOne (List File) (AreLoaded contents wanted)
all_one contents [] [] [] one two = refl
all_one contents [] [] (g ∷ gs) one two = absurd two
all_one contents [] (f ∷ fs) gs one two = absurd one
all_one contents (w ∷ ws) [] gs one two = absurd one
all_one contents (w ∷ ws) (f ∷ fs) [] one two = absurd two
all_one contents (w ∷ ws) (f ∷ fs) (g ∷ gs) one two =
    let head : f ≡ g = one_held contents w f g one.0 two.0 in
    let rest : fs ≡ gs = all_one contents ws fs gs one.1 two.1 in cc

all_failures : (contents : Contents) (wanted : List Wanted) → IsOne Outcome (LoadsFail contents ⊥ wanted)
all_failures contents [] o p one two = absurd one
all_failures contents (w ∷ ws) o p one two =
    First-one File Outcome (IsLoaded contents w) (LoadFails contents ⊥ w) (λ file. LoadsFail contents ⊥ ws) (load_is_decisive contents w)
    (λ file held. all_failures contents ws) o p one two

all_apart : (contents : Contents) (wanted : List Wanted) (files : List File) (o : Outcome) → AreLoaded contents wanted files
    → LoadsFail contents ⊥ wanted o → ⊥
all_apart contents [] files o held none = none
all_apart contents (w ∷ ws) [] o held failed = held
all_apart contents (w ∷ ws) (f ∷ fs) o held (fails failed) = held_apart contents w f o held.0 failed
all_apart contents (w ∷ ws) (f ∷ fs) o held (passes g given later) = all_apart contents ws fs o held.1 later

pub loads_are_decisive : (contents : Contents) (wanted : List Wanted)
    → IsDecisive (List File) Outcome (AreLoaded contents wanted) (LoadsFail contents ⊥ wanted)
loads_are_decisive contents wanted = record {
  one_value = all_one contents wanted;
  one_failure = all_failures contents wanted;
  apart = all_apart contents wanted;
}

-- A command that has one answer to its files ends in one way.
pub one_answered : (Q : Answer → Type 0) → IsOne Answer Q → IsOne Outcome (IsAnswered Q)
one_answered Q one o p first second = first.is ∙ (ap as_outcome (one first.answer second.answer first.given second.given) ∙ sym second.is)

one_end : (words : List (List ℕ)) (contents : Contents) (command : Command)
    → ((files : List File) → IsOne Outcome (Does command (numbers_of words command) contents ⊥ files))
    → IsOne Outcome (Ends words command contents ⊥)
one_end words contents command one =
    First-one (List File) Outcome (AreLoaded contents (files_of words command)) (LoadsFail contents ⊥ (files_of words command))
    (Does command (numbers_of words command) contents ⊥) (loads_are_decisive contents (files_of words command))
    (λ files held. one files)

pub one_outcome : OneOutcome
one_outcome words contents one o p (done given line ends) (done given' line' ends') =
    let second = subst (λ (c : Command). Ends words c contents ⊥ p) (one_command words given given' line line') ends' in
    one_end words contents given (one given line) o p ends second
one_outcome words contents one o p (done given line ends) (other none is) = absurd (none given line)
one_outcome words contents one o p (other none is) (done given line ends) = absurd (none given line)
one_outcome words contents one o p (other none is) (other none' is') = is ∙ sym is'
