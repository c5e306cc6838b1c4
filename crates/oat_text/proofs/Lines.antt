-- Lines that say those of a program, and what the two passes make of one of them.
use Rattle.std.proofs.Common.{◌≡◌, ℕ, suc, ◌+◌, ◌-◌, Bool, true, false, not, cond, eqb, List, [], ◌∷◌, length, map, Ok, refl, ap, ◌∙◌}
use Rattle.std.specs.{Prelude.Some, Prelude.if◌then◌else◌, List.AllZip, List.list_all}
use Rattle.oat_lines.specs.{Lines.TextWord, Lines.words_of, Lines.is_skipped, Lines.counting, Reading.between}
use Rattle.oat_ir.specs.declared.instr.BinOp.TheVariants.{Add, Sub, Mul, And, Or, Xor, Shl, Shr, Sar, Eq, Ne, Lt, Le, Ltu, Leu, Div, Rem, Divu, Remu}
use Rattle.oat_text.specs.{declared.form.LineForm.LineForm, declared.form.WordKind.WordKind, Words.Said, Words.Keyword, Words.Says, Grammar.Line, Forms.spelled, Forms.line_form, Forms.kinds_of}
use Rattle.oat_text.specs.{Forms.optional, Readings.is_printable, Readings.is_shaped, Readings.is_in_range, Readings.all_pass, Readings.has_number, Passes.numbered, Passes.each, Passes.over}
use Rattle.oat_text.specs.{Outline.Outline, Outline.stands, Outline.fitting, Outline.tested, Outline.declare, Outline.outline_line, Bodies.Bodies, Bodies.fill, Bodies.body_line}
use Rattle.oat_text.proofs.Spoken.{AllSuit, passes}
use Rattle.oat_text.specs.declared.form.LineForm.TheVariants as line
use Rattle.oat_text.specs.declared.form.GlobalForm.TheVariants as globals
use Rattle.oat_text.specs.declared.form.FuncForm.TheVariants as funcs
use Rattle.oat_text.specs.declared.form.InstrForm.TheVariants as instrs
use Rattle.oat_text.specs.declared.form.TermForm.TheVariants as terms

-- ---- lines with their numbers

abbrev pub Numbered : Type 0
Numbered = List (ℕ × List TextWord)

-- these lines say those
abbrev pub Say : Numbered → List Line → Type 0
Say [] [] = Unit {0}
Say [] (line ∷ lines) = ⊥
Say (l ∷ ls) [] = ⊥
Say (l ∷ ls) (line ∷ lines) = AllZip Says l.1 line × Say ls lines

counted : (skipped : Bool) (n : ℕ) (words : List TextWord) (more : Numbered) (rest : List (List TextWord)) → map (λ (l : ℕ × List TextWord). l.1) more ≡ rest
    → map (λ (l : ℕ × List TextWord). l.1) (if skipped then more else ((n, words) ∷ more)) ≡ cond (not skipped) (words ∷ rest) rest
counted true n words more rest e = e
counted false n words more rest e = ap (λ (r : List (List TextWord)). words ∷ r) e

pub numbered_words : (n : ℕ) (raw : List (List ℕ)) → map (λ (l : ℕ × List TextWord). l.1) (numbered n raw) ≡ counting raw
unfolding numbered
numbered_words n [] = refl
numbered_words n (line ∷ lines) = counted (is_skipped (words_of line)) n (words_of line) (numbered (n + 1) lines) (counting lines) (numbered_words (n + 1) lines)

pub say_from_zip : (lines : Numbered) (said : List Line) → AllZip (AllZip Says) (map (λ (l : ℕ × List TextWord). l.1) lines) said → Say lines said
say_from_zip [] [] all = tt
say_from_zip [] (s ∷ ss) all = absurd all
say_from_zip (l ∷ ls) [] all = absurd all
say_from_zip (l ∷ ls) (s ∷ ss) all = (all.0, say_from_zip ls ss all.1)

pub zip_from_say : (lines : Numbered) (said : List Line) → Say lines said → AllZip (AllZip Says) (map (λ (l : ℕ × List TextWord). l.1) lines) said
zip_from_say [] [] all = tt
zip_from_say [] (s ∷ ss) all = absurd all
zip_from_say (l ∷ ls) [] all = absurd all
zip_from_say (l ∷ ls) (s ∷ ss) all = (all.0, zip_from_say ls ss all.1)

-- ---- first words

pub formed : (form : LineForm) → (line_form (spelled form) ≡ Some form) × (is_printable (spelled form) ≡ true)
formed (line.Global globals.Plain) = (refl, refl)
formed (line.Global globals.Critical) = (refl, refl)
formed (line.Global globals.Array) = (refl, refl)
formed (line.Global globals.Criticals) = (refl, refl)
formed (line.Func funcs.Plain) = (refl, refl)
formed (line.Func funcs.Operation) = (refl, refl)
formed (line.Func funcs.Main) = (refl, refl)
formed line.Local = (refl, refl)
formed line.Block = (refl, refl)
formed line.End = (refl, refl)
formed (line.Instr instrs.Const) = (refl, refl)
formed (line.Instr instrs.Copy) = (refl, refl)
formed (line.Instr (instrs.Binary Add)) = (refl, refl)
formed (line.Instr (instrs.Binary Sub)) = (refl, refl)
formed (line.Instr (instrs.Binary Mul)) = (refl, refl)
formed (line.Instr (instrs.Binary And)) = (refl, refl)
formed (line.Instr (instrs.Binary Or)) = (refl, refl)
formed (line.Instr (instrs.Binary Xor)) = (refl, refl)
formed (line.Instr (instrs.Binary Shl)) = (refl, refl)
formed (line.Instr (instrs.Binary Shr)) = (refl, refl)
formed (line.Instr (instrs.Binary Sar)) = (refl, refl)
formed (line.Instr (instrs.Binary Eq)) = (refl, refl)
formed (line.Instr (instrs.Binary Ne)) = (refl, refl)
formed (line.Instr (instrs.Binary Lt)) = (refl, refl)
formed (line.Instr (instrs.Binary Le)) = (refl, refl)
formed (line.Instr (instrs.Binary Ltu)) = (refl, refl)
formed (line.Instr (instrs.Binary Leu)) = (refl, refl)
formed (line.Instr (instrs.Binary Div)) = (refl, refl)
formed (line.Instr (instrs.Binary Rem)) = (refl, refl)
formed (line.Instr (instrs.Binary Divu)) = (refl, refl)
formed (line.Instr (instrs.Binary Remu)) = (refl, refl)
formed (line.Instr instrs.Load) = (refl, refl)
formed (line.Instr instrs.Store) = (refl, refl)
formed (line.Instr instrs.LoadX) = (refl, refl)
formed (line.Instr instrs.StoreX) = (refl, refl)
formed (line.Instr instrs.RefTo) = (refl, refl)
formed (line.Instr instrs.Call) = (refl, refl)
formed (line.Instr instrs.ICall) = (refl, refl)
formed (line.Instr instrs.Input) = (refl, refl)
formed (line.Instr instrs.Output) = (refl, refl)
formed (line.Term terms.Jump) = (refl, refl)
formed (line.Term terms.Branch) = (refl, refl)
formed (line.Term terms.Ret) = (refl, refl)
formed (line.Term terms.Halt) = (refl, refl)

-- ---- the words of a line

pub lengths : (words : List TextWord) (saids : List Said) → AllZip Says words saids → length words ≡ length saids
lengths [] [] says = refl
lengths [] (s ∷ ss) says = absurd says
lengths (w ∷ ws) [] says = absurd says
lengths (w ∷ ws) (s ∷ ss) says = ap (λ n. suc n) (lengths ws ss says.1)

tests : (kinds : List WordKind) (saids : List Said) (words : List TextWord) → AllSuit kinds saids → AllZip Says words saids
    → (all_pass is_shaped kinds words ≡ true) × (all_pass is_in_range kinds words ≡ true) × (list_all is_printable words ≡ true)
tests [] [] [] suit says = (refl, refl, refl)
tests (k ∷ ks) [] [] suit says = (refl, refl, refl)
tests kinds [] (w ∷ ws) suit says = absurd says
tests kinds (s ∷ ss) [] suit says = absurd says
tests [] (s ∷ ss) (w ∷ ws) suit says = absurd suit
tests (k ∷ ks) (s ∷ ss) (w ∷ ws) suit says =
    let one = passes k s w suit.0 says.0 in
    let more = tests ks ss ws suit.1 says.1 in
    (rw (one.shaped, more.0) refl, rw (one.numbered, more.1) refl, rw (one.prints, more.2) refl)

-- what is said behind the first word is wanted there
pub record Fits (form : LineForm) (saids : List Said) : Type 0 where
  pub suits : AllSuit (kinds_of form) saids
  pub number : between (length (kinds_of form) - optional form) (length (kinds_of form)) (length saids) ≡ true

takes : (n : ℕ) (o : Outline) (form : LineForm) (saids : List Said) (first : TextWord) (words : List TextWord) → Fits form saids
    → stands o.stage (eqb (length o.funcs) 0) form ≡ true → AllZip Says (first ∷ words) (Keyword (spelled form) ∷ saids)
    → outline_line n o (first ∷ words) ≡ declare n o form words
unfolding outline_line tested fitting
takes n o form saids first words fits place says =
    let t = tests (kinds_of form) saids words fits.suits says.1 in
    let long : has_number form words ≡ true = rw (lengths words saids says.1) fits.number in
    rw (says.0, (formed form).1, t.2, (formed form).0, t.0, place, long, t.1) refl

fills : (n : ℕ) (b : Bodies) (form : LineForm) (saids : List Said) (first : TextWord) (words : List TextWord)
    → AllZip Says (first ∷ words) (Keyword (spelled form) ∷ saids) → body_line n b (first ∷ words) ≡ fill n b form words
unfolding body_line
fills n b form saids first words says = rw (says.0, (formed form).0) refl

-- ---- both passes

-- behind some lines, both passes stand so, and the lines that are left say the rest
pub record Crosses (o p : Outline) (b c : Bodies) (lines : Numbered) (rest : List Line) : Type 0 where
  pub left : Numbered
  pub says : Say left rest
  pub outline : over outline_line o lines ≡ over outline_line p left
  pub bodies : over body_line b lines ≡ over body_line c left

pub here : (o : Outline) (b : Bodies) (lines : Numbered) (rest : List Line) → Say lines rest → Crosses o o b b lines rest
here o b lines rest says = record { left = lines; says = says; outline = refl; bodies = refl }

pub onward : {o p q : Outline} {b c d : Bodies} {lines : Numbered} {mid rest : List Line} → Crosses o p b c lines mid
    → ((left : Numbered) → Say left mid → Crosses p q c d left rest) → Crosses o q b d lines rest
onward first next =
    let second = next first.left first.says in
    record { left = second.left; says = second.says; outline = first.outline ∙ second.outline; bodies = first.bodies ∙ second.bodies }

module _ (o p : Outline) (b c : Bodies) (form : LineForm) (saids : List Said) (fits : Fits form saids)
    (place : stands o.stage (eqb (length o.funcs) 0) form ≡ true)
    (steps : (n : ℕ) (words : List TextWord) → AllZip Says words saids → (declare n o form words ≡ Ok p) × (fill n b form words ≡ Ok c)) where
  step : (n : ℕ) (words : List TextWord) (left : Numbered) (rest : List Line) → AllZip Says words (Keyword (spelled form) ∷ saids) → Say left rest
      → Crosses o p b c ((n, words) ∷ left) rest
  unfolding each
  step n [] left rest says more = absurd says
  step n (first ∷ words) left rest says more =
      let s = steps n words says.1 in
      let one : outline_line n o (first ∷ words) ≡ Ok p = takes n o form saids first words fits place says ∙ s.0 in
      let other : body_line n b (first ∷ words) ≡ Ok c = fills n b form saids first words says ∙ s.1 in
      record { left = left; says = more; outline = rw one refl; bodies = rw other refl }

  -- one line
  pub line_crossed : (lines : Numbered) (rest : List Line) → Say lines ((Keyword (spelled form) ∷ saids) ∷ rest) → Crosses o p b c lines rest
  line_crossed [] rest says = absurd says
  line_crossed (l ∷ ls) rest says = step l.0 l.1 ls rest says.0 says.1

-- ---- so many words

pub no_words : (words : List TextWord) → AllZip Says words [] → words ≡ []
no_words [] says = refl
no_words (w ∷ ws) says = absurd says

pub one_word : (s : Said) (words : List TextWord) → AllZip Says words (s ∷ []) → (w : TextWord) × (words ≡ w ∷ []) × Says w s
one_word s [] says = absurd says
one_word s (w ∷ []) says = (w, refl, says.0)
one_word s (w ∷ x ∷ ws) says = absurd says.1

pub more_words : (s : Said) (ss : List Said) (words : List TextWord) → AllZip Says words (s ∷ ss) → (w : TextWord) × (ws : List TextWord) × (words ≡ w ∷ ws) × Says w s × AllZip Says ws ss
more_words s ss [] says = absurd says
more_words s ss (w ∷ ws) says = (w, ws, refl, says.0, says.1)

pub two_words : (s t : Said) (words : List TextWord) → AllZip Says words (s ∷ t ∷ []) → (w x : TextWord) × (words ≡ w ∷ x ∷ []) × Says w s × Says x t
two_words s t [] says = absurd says
two_words s t (w ∷ []) says = absurd says.1
two_words s t (w ∷ x ∷ []) says = (w, x, refl, says.0, says.1.0)
two_words s t (w ∷ x ∷ y ∷ ws) says = absurd says.1.1

pub three_words : (s t u : Said) (words : List TextWord) → AllZip Says words (s ∷ t ∷ u ∷ [])
    → (w x y : TextWord) × (words ≡ w ∷ x ∷ y ∷ []) × Says w s × Says x t × Says y u
three_words s t u [] says = absurd says
three_words s t u (w ∷ []) says = absurd says.1
three_words s t u (w ∷ x ∷ []) says = absurd says.1.1
three_words s t u (w ∷ x ∷ y ∷ []) says = (w, x, y, refl, says.0, says.1.0, says.1.1.0)
three_words s t u (w ∷ x ∷ y ∷ z ∷ ws) says = absurd says.1.1.1
