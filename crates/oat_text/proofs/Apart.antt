-- What the lines so far declare is told apart.
use Rattle.std.proofs.Common.{◌≡◌, ℕ, Bool, true, eqb, List, [], ◌∷◌, ◌++◌, length, Ok, subst}
use Rattle.std.specs.{Prelude.bytes_eq, List.AllByRecursion, List.IsDistinct}
use Rattle.oat_lines.specs.{Lines.TextWord, Faults.at}
use Rattle.oat_lines.proofs.Steps.{bind_ok, ok_is, at_ok}
use Rattle.oat_ir.specs.Distinct.{global_name, are_one_global, are_one_local}
use Rattle.oat_text.specs.{declared.form.LineForm.LineForm, declared.head.Head.Head, declared.head.Stage.TheVariants.Outside, declared.head.Stage.TheVariants.Behind, Passes.each, Passes.over}
use Rattle.oat_text.specs.{Readings.has_number, Outline.Outline, Outline.no_head, Outline.nothing, Outline.tested, Outline.itself, Outline.local_name, Outline.declare, Outline.outline_line}
use Rattle.oat_text.proofs.{Programs.all_append, Lines.Numbered, Accepted.tested_is, Declared.distinct_added, Declared.global_taken, Declared.local_taken, Declared.block_taken, Declared.func_taken}
use Rattle.oat_text.specs.declared.form.LineForm.TheVariants as line

pub record IsApartHead (head : Head) : Type 0 where
  pub locals : IsDistinct are_one_local head.locals
  pub labels : IsDistinct bytes_eq head.labels

pub record IsApart (o : Outline) : Type 0 where
  pub globals : IsDistinct are_one_global o.globals
  pub funcs : IsDistinct bytes_eq o.funcs
  pub operations : IsDistinct eqb o.operations
  pub heads : AllByRecursion IsApartHead o.heads
  pub present : IsApartHead o.present

pub none_apart : {X : Type 0} (e : X → X → Bool) → IsDistinct e []
unfolding IsDistinct
none_apart e = tt

pub nothing_apart : IsApart nothing
nothing_apart = record {
  globals = none_apart are_one_global;
  funcs = none_apart bytes_eq;
  operations = none_apart eqb;
  heads = tt;
  present = record { locals = none_apart are_one_local; labels = none_apart bytes_eq };
}

declare_apart : (n : ℕ) (o : Outline) (form : LineForm) (words : List TextWord) (p : Outline) → has_number form words ≡ true
    → declare n o form words ≡ Ok p → IsApart o → IsApart p
unfolding declare
declare_apart n o (line.Global form) words p number e apart =
    let t = global_taken n o form words p number e in
    subst IsApart t.after (record {
      globals = distinct_added global_name o.globals t.item t.all t.new apart.globals;
      funcs = apart.funcs;
      operations = apart.operations;
      heads = apart.heads;
      present = apart.present;
    })
declare_apart n o (line.Func form) words p number e apart =
    let t = func_taken n o form words p number e in
    subst IsApart t.after (record {
      globals = apart.globals;
      funcs = distinct_added itself o.funcs t.name t.names t.new apart.funcs;
      operations = t.ids_new apart.operations;
      heads = apart.heads;
      present = record { locals = t.distinct; labels = none_apart bytes_eq };
    })
declare_apart n o line.Local words p number e apart =
    let t = local_taken n o words p number e in
    subst IsApart t.after (record {
      globals = apart.globals;
      funcs = apart.funcs;
      operations = apart.operations;
      heads = apart.heads;
      present = record {
        locals = distinct_added local_name o.present.locals t.local t.all t.new apart.present.locals;
        labels = apart.present.labels;
      };
    })
declare_apart n o line.Block words p number e apart =
    let t = block_taken n o words p number e in
    subst IsApart t.after (record {
      globals = apart.globals;
      funcs = apart.funcs;
      operations = apart.operations;
      heads = apart.heads;
      present = record {
        locals = apart.present.locals;
        labels = distinct_added itself o.present.labels t.label t.all t.new apart.present.labels;
      };
    })
declare_apart n o line.End words p number e apart =
    subst IsApart (ok_is (record o { heads = o.heads ++ o.present ∷ []; present = no_head; stage = Outside }) p e) (record {
      globals = apart.globals;
      funcs = apart.funcs;
      operations = apart.operations;
      heads = all_append IsApartHead o.heads (o.present ∷ []) apart.heads (apart.present, tt);
      present = record { locals = none_apart are_one_local; labels = none_apart bytes_eq };
    })
declare_apart n o (line.Instr form) words p number e apart = subst IsApart (ok_is o p e) apart
declare_apart n o (line.Term form) words p number e apart =
    subst IsApart (ok_is (record o { stage = Behind }) p e) (record {
      globals = apart.globals;
      funcs = apart.funcs;
      operations = apart.operations;
      heads = apart.heads;
      present = apart.present;
    })

line_apart : (n : ℕ) (o : Outline) (words : List TextWord) (p : Outline) → outline_line n o words ≡ Ok p → IsApart o → IsApart p
unfolding outline_line
line_apart n o [] p e apart = subst IsApart (ok_is o p e) apart
line_apart n o (w ∷ ws) p e apart =
    let a = bind_ok (at n (tested o.stage (eqb (length o.funcs) 0) w ws)) (λ form. declare n o form ws) p e in
    let t = tested_is o.stage (eqb (length o.funcs) 0) w ws a.0 (at_ok n (tested o.stage (eqb (length o.funcs) 0) w ws) a.0 a.1) in
    declare_apart n o a.0 ws p t.number a.2 apart

pub lines_apart : (lines : Numbered) (o p : Outline) → over outline_line o lines ≡ Ok p → IsApart o → IsApart p
unfolding each
lines_apart [] o p e apart = subst IsApart (ok_is o p e) apart
lines_apart (l ∷ ls) o p e apart =
    let a = bind_ok (outline_line l.0 o l.1) (λ next. over outline_line next ls) p e in
    lines_apart ls a.0 p a.2 (line_apart l.0 o l.1 a.0 a.1 apart)
