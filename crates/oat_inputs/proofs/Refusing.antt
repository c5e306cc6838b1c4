-- What is refused has one refusal, and isn't read; a reader's fault is the text's first, unless it is want of memory.
use Rattle.std.proofs.Common.{◌≡◌, ◌≢◌, ◌∙◌, ℕ, List, Result, Ok, Err, sym, ap}
use Rattle.oat_first.proofs.FirstLaws.{Tests-decisive}
use Rattle.oat_lines.specs.{declared.fault.Fault.TheVariants.Memory, FaultText.fault_text}
use Rattle.oat_lines.proofs.Steps.{is_fault}
use Rattle.oat_image.specs.{declared.fault.ImageFaultKind.ImageFaultKind, FaultText.image_fault_word, Grammar.IsImageText, ImageReading.image_at}
use Rattle.oat_image.proofs.ImageTexts.{image_again}
use Rattle.oat_shape.specs.{Map, Image, Fault, Fails, Shape.IsShaped, IsOperation, IsOne, IsDecisive}
use Rattle.oat_shape.proofs.Refusals.{shape_is_decided}
use Rattle.oat_case.specs.{declared.case.Case.Case, declared.fault.CaseFaultKind.CaseFaultKind, FaultText.case_fault_word, Grammar.IsCaseText, Reading.case_of}
use Rattle.oat_case.proofs.CaseTexts.{is_read}
use Rattle.oat_page.specs.{Answer.Answer, Answer.refused, Loads.File}
use Rattle.oat_inputs.specs.{BlobText.IsBlobText, Refusals.rule_reason, Refusals.RefusesImage, Refusals.RefusesShape, Refusals.RefusesCase, Refusals.RefusesOperation, Refusals.RefusesBlob}

-- ---- a reader's fault

pub refuses_image : (file : File) (fault : Fault ImageFaultKind) (a : Answer) → fault ≢ Memory
    → Fails fault (image_at file.text) → a ≡ refused file.name (fault_text image_fault_word fault) → RefusesImage file a
refuses_image file fault a other given told =
    record { fault = fault; first = is_fault fault (image_at file.text) other given; told = told }

pub refuses_case : (file : File) (fault : Fault CaseFaultKind) (a : Answer) → fault ≢ Memory
    → Fails fault (case_of file.text) → a ≡ refused file.name (fault_text case_fault_word fault) → RefusesCase file a
refuses_case file fault a other given told =
    record { fault = fault; first = is_fault fault (case_of file.text) other given; told = told }

-- ---- one value, or one fault

pub ok_one : {X E : Type 0} (x y : X) (answer : Result X E) → answer ≡ Ok x → answer ≡ Ok y → y ≡ x
ok_one x y answer one two = let same = sym two ∙ one in cc

pub err_one : {X E : Type 0} (e f : E) (answer : Result X E) → answer ≡ Err e → answer ≡ Err f → e ≡ f
err_one e f answer one two = let same = sym one ∙ two in cc

pub never : {X E : Type 0} (x : X) (e : E) (answer : Result X E) → answer ≡ Ok x → answer ≡ Err e → ⊥
never x e answer one two = let same = sym one ∙ two in cc

read_again : (text : List ℕ) (image : Image) → IsImageText text image → image_at text ≡ Ok image
read_again text image read = ap image_at read.spelled ∙ image_again image read.well_formed

one_image : (text : List ℕ) → IsOne Image (IsImageText text)
one_image text image other one two = ok_one other image (image_at text) (read_again text other two) (read_again text image one)

pub image_is_decisive : (file : File) → IsDecisive Image Answer (IsImageText file.text) (RefusesImage file)
image_is_decisive file = record {
  one_value = one_image file.text;
  one_failure = λ a b one two.
      one.told ∙ (ap (λ fault. refused file.name (fault_text image_fault_word fault)) (err_one one.fault two.fault (image_at file.text) one.first two.first) ∙ sym two.told);
  apart = λ image a read refuses. never image refuses.fault (image_at file.text) (read_again file.text image read) refuses.first;
}

one_case : (text : List ℕ) → IsOne Case (IsCaseText text)
one_case text case other one two = ok_one other case (case_of text) (is_read text other two) (is_read text case one)

pub case_is_decisive : (file : File) → IsDecisive Case Answer (IsCaseText file.text) (RefusesCase file)
case_is_decisive file = record {
  one_value = one_case file.text;
  one_failure = λ a b one two.
      one.told ∙ (ap (λ fault. refused file.name (fault_text case_fault_word fault)) (err_one one.fault two.fault (case_of file.text) one.first two.first) ∙ sym two.told);
  apart = λ case a read refuses. never case refuses.fault (case_of file.text) (is_read file.text case read) refuses.first;
}

pub shape_is_decisive : (file : File) (image : Image) → IsDecisive (Unit {0}) Answer (λ u. IsShaped image) (RefusesShape file image)
shape_is_decisive file image =
    Tests-decisive Answer (IsShaped image) (RefusesShape file image)
    (λ a b one two.
    let same = (shape_is_decided image two.number two.at two.broken).1 one.number one.at one.broken in
    one.told ∙ (ap (λ number. refused file.name (rule_reason number one.at)) same.0
    ∙ (ap (λ at. refused file.name (rule_reason two.number at)) same.1 ∙ sym two.told)))
    (λ a shaped refuses. (shape_is_decided image refuses.number refuses.at refuses.broken).0 shaped)

pub operation_is_decisive : (file : File) (flow : Map) (op : ℕ) → IsDecisive (Unit {0}) Answer (λ u. IsOperation flow op) (RefusesOperation file flow op)
operation_is_decisive file flow op =
    Tests-decisive Answer (IsOperation flow op) (RefusesOperation file flow op) (λ a b one two. one.told ∙ sym two.told)
    (λ a begun refuses. refuses.lacks begun)

one_list : (text : List ℕ) → IsOne (List ℕ) (IsBlobText text)
one_list text bytes other one two = cc

pub blob_is_decisive : (file : File) → IsDecisive (List ℕ) Answer (IsBlobText file.text) (RefusesBlob file)
blob_is_decisive file = record {
  one_value = one_list file.text;
  one_failure = λ a b one two. one.told ∙ sym two.told;
  apart = λ bytes a read refuses. refuses.not_hex bytes read;
}
