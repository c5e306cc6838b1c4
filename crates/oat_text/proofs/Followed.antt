-- Both passes over all lines: what is read says the lines of the program.
use Rattle.std.proofs.Common.{◌≡◌, ℕ, ◌+◌, ◌≤◌, true, false, eqb, List, [], ◌∷◌, ◌++◌, length, map, Some, None, Ok, refl, sym, ap, ◌∙◌, subst, arith}
use Rattle.std.specs.{List.AllByRecursion, Option.ok_or}
use Rattle.std.proofs.lemmas.{Bool.eqb-true, List.append-nil, List.length-append, List.map-append}
use Rattle.oat_lines.specs.{Lines.TextWord, Faults.at, declared.fault.Fault.TheVariants.At, Reading.◌>>=◌}
use Rattle.oat_lines.proofs.Steps.{bind_ok, or_ok, ok_is, some_is, at_ok}
use Rattle.oat_ir.specs.{declared.program.Program.Program, declared.func.BlockIr.BlockIr}
use Rattle.oat_text.specs.{declared.fault.TextFaultKind.TheVariants.Unknown, declared.form.LineForm.LineForm, declared.head.Stage.Stage, declared.head.Stage.TheVariants.Outside}
use Rattle.oat_text.specs.{declared.head.Stage.TheVariants.Locals, declared.head.Stage.TheVariants.Inside, declared.head.Stage.TheVariants.Behind, Forms.line_form, Forms.instr_kinds, Forms.term_kinds}
use Rattle.oat_text.specs.{Passes.each, Passes.over, Readings.name_at, Outline.Outline, Outline.no_head, Outline.with_locals, Outline.with_labels, Outline.tested, Outline.declare}
use Rattle.oat_text.specs.{Outline.outline_line, Bodies.Bodies, Bodies.instr_in, Bodies.term_in, Bodies.fill, Bodies.body_line}
use Rattle.oat_text.proofs.{Lines.Numbered, Accepted.IsTested, Accepted.tested_is, Accepted.all_shaped, Accepted.counted, Accepted.none_of, Declared.global_taken, Declared.local_taken}
use Rattle.oat_text.proofs.{Declared.block_taken, Declared.func_taken, Crossing.role_operations, Ahead.IsLast, Ahead.After, Ahead.global_step, Ahead.func_step, Ahead.local_step, Ahead.first_block}
use Rattle.oat_text.proofs.{Ahead.next_block, Ahead.instr_step, Ahead.term_step, Ahead.end_step}
use Rattle.oat_text.specs.declared.form.LineForm.TheVariants as line
use Rattle.oat_text.specs.Bodies as bodies

abbrev pub labels_of : List BlockIr → List TextWord
labels_of blocks = map (λ c. c.label) blocks

-- within a block of this label
pub record IsInside (o : Outline) (b : Bodies) : Type 0 where
  pub some : 1 ≤ length o.funcs
  pub label : TextWord
  pub labelled : b.label ≡ Some label
  pub labels : o.present.labels ≡ labels_of b.blocks ++ label ∷ []

-- the blocks so far are those that the outline has labels of
abbrev pub FitsStage : Stage → Outline → Bodies → Type 0
FitsStage Outside o b = (b.blocks ≡ []) × (b.instrs ≡ [])
FitsStage Locals o b = (1 ≤ length o.funcs) × (o.present.labels ≡ []) × (b.blocks ≡ []) × (b.instrs ≡ [])
FitsStage Inside o b = IsInside o b
FitsStage Behind o b = (1 ≤ length o.funcs) × (o.present.labels ≡ labels_of b.blocks) × (b.instrs ≡ [])

-- both passes stand at one place
pub record IsJoint (O o : Outline) (b : Bodies) : Type 0 where
  pub outline : b.outline ≡ O
  pub many : length b.ended ≡ length o.heads
  pub fits : FitsStage o.stage o b

module _ (O : Outline) (B : Bodies) (P : Program) (last : IsLast O P) where
  -- where both passes stand at one place, what is left says what comes
  abbrev Next : Outline → Bodies → Numbered → Type 0
  Next p c left = IsJoint O p c → (name : TextWord) → After O B P last p.stage name p c left

  module _ (n : ℕ) (o : Outline) (b : Bodies) (w : TextWord) (words : List TextWord) (left : Numbered) (p : Outline) (c : Bodies) (name : TextWord)
      (outline : b.outline ≡ O) (many : length b.ended ≡ length o.heads) (next : Next p c left) where
    -- what comes behind a line, by what the line makes of both
    came : (q : Outline) (d : Bodies) → q ≡ p → d ≡ c → Next q d left
    came q d one other = subst (λ (e : Bodies). Next q e left) (sym other) (subst (λ (r : Outline). Next r c left) (sym one) next)

    grown : (names : List TextWord) (new : TextWord) (all : List TextWord) → names ++ new ∷ [] ≡ all → 1 ≤ length all
    grown names new all is = (let long : length all ≡ length names + 1 = ap length (sym is) ∙ length-append names (new ∷ []) in omega arith)

    by_form : (form : LineForm) (stage : Stage) → o.stage ≡ stage → FitsStage stage o b → IsTested stage (eqb (length o.funcs) 0) w words form
        → declare n o form words ≡ Ok p → fill n b form words ≡ Ok c → After O B P last stage name o b ((n, w ∷ words) ∷ left)
    unfolding declare fill bodies.instr_line bodies.term_line
    by_form (line.Global form) Outside here fits t e f =
        let taken = global_taken n o form words p t.number e in
        let q : Outline = record o { globals = taken.all } in
        let more = came q b taken.after (ok_is b c f) (record { outline = outline; many = many; fits = subst (λ (s : Stage). FitsStage s q b) (sym here) fits }) name in
        global_step O B P last n name o b w words left form p taken t.spelled (eqb-true (length o.funcs) 0 t.placed) (subst (λ (s : Stage). After O B P last s name q b left) here more)
    by_form (line.Func form) Outside here fits t e f =
        let taken = func_taken n o form words p t.number e in
        let q : Outline = record o { operations = o.operations ++ role_operations taken.role; funcs = taken.names; present = record { role = taken.role; params = length taken.locals; locals = taken.locals; labels = [] }; stage = Locals } in
        let more = came q b taken.after (ok_is b c f) (record { outline = outline; many = many; fits = (grown o.funcs taken.name taken.names taken.new.1, refl, fits.0, fits.1) }) taken.name in
        func_step O B P last n name o b w words left form p taken t.spelled more
    by_form line.Local Locals here fits t e f =
        let taken = local_taken n o words p t.number e in
        let q : Outline = record o { present = with_locals o.present taken.all } in
        let more = came q b taken.after (ok_is b c f) (record { outline = outline; many = many; fits = subst (λ (s : Stage). FitsStage s q b) (sym here) (fits.0, fits.1, fits.2, fits.3) }) name in
        local_step O B P last n name o b w words left p taken t.spelled (subst (λ (s : Stage). After O B P last s name q b left) here more)
    by_form line.Block Locals here fits t e f =
        let taken = block_taken n o words p t.number e in
        let q : Outline = record o { present = with_labels o.present taken.all; stage = Inside } in
        let d : Bodies = record b { label = name_at words 0 } in
        let same : o.present.labels ≡ labels_of b.blocks = fits.1 ∙ sym (ap labels_of fits.2) in
        let labels : taken.all ≡ labels_of b.blocks ++ taken.label ∷ [] = sym taken.new.1 ∙ ap (λ (ls : List TextWord). ls ++ taken.label ∷ []) same in
        let more = came q d taken.after (ok_is d c f) (record { outline = outline; many = many; fits = record { some = fits.0; label = taken.label; labelled = taken.read; labels = labels } }) name in
        first_block O B P last n name o b w words left p taken t.spelled fits.3 more fits.2
    by_form (line.Instr form) Inside here fits t e f =
        let a = bind_ok (at n (instr_in b form words)) (λ instr. Ok (record b { instrs = b.instrs ++ instr ∷ [] })) c f in
        let d : Bodies = record b { instrs = b.instrs ++ a.0 ∷ [] } in
        let more = came o d (ok_is o p e) (ok_is d c a.2) (record { outline = outline; many = many; fits = subst (λ (s : Stage). FitsStage s o d) (sym here) (record { some = fits.some; label = fits.label; labelled = fits.labelled; labels = fits.labels }) }) name in
        instr_step O B P last n name o b w words left form a.0 t.spelled t.number (all_shaped (instr_kinds form) words t.shaped) (at_ok n (instr_in b form words) a.0 a.1) outline many (subst (λ (s : Stage). After O B P last s name o d left) here more)
    by_form (line.Term form) Inside here fits t e f =
        let a = bind_ok (at n (term_in b form words)) (λ term. ok_or b.label (At n Unknown) >>= λ label. Ok (record b { blocks = b.blocks ++ (record { label = label; instrs = b.instrs; term = term }) ∷ []; label = None; instrs = [] })) c f in
        let l = bind_ok (ok_or b.label (At n Unknown)) (λ label. Ok (record b { blocks = b.blocks ++ (record { label = label; instrs = b.instrs; term = a.0 }) ∷ []; label = None; instrs = [] })) c a.2 in
        let labelled : b.label ≡ Some l.0 = or_ok b.label (At n Unknown) l.0 l.1 in
        let same : fits.label ≡ l.0 = some_is fits.label l.0 (sym fits.labelled ∙ labelled) in
        let block : BlockIr = record { label = l.0; instrs = b.instrs; term = a.0 } in
        let q : Outline = record o { stage = Behind } in
        let d : Bodies = record b { blocks = b.blocks ++ block ∷ []; label = None; instrs = [] } in
        let labels : o.present.labels ≡ labels_of (b.blocks ++ block ∷ []) = fits.labels ∙ ap (λ (u : TextWord). labels_of b.blocks ++ u ∷ []) same ∙ sym (map-append (λ (u : BlockIr). u.label) b.blocks (block ∷ [])) in
        let more = came q d (ok_is q p e) (ok_is d c l.2) (record { outline = outline; many = many; fits = (fits.some, labels, refl) }) name in
        term_step O B P last n name o b w words left form a.0 l.0 t.spelled t.number (all_shaped (term_kinds form) words t.shaped) (at_ok n (term_in b form words) a.0 a.1) labelled outline many more
    by_form line.Block Behind here fits t e f =
        let taken = block_taken n o words p t.number e in
        let q : Outline = record o { present = with_labels o.present taken.all; stage = Inside } in
        let d : Bodies = record b { label = name_at words 0 } in
        let labels : taken.all ≡ labels_of b.blocks ++ taken.label ∷ [] = sym taken.new.1 ∙ ap (λ (ls : List TextWord). ls ++ taken.label ∷ []) fits.1 in
        let more = came q d taken.after (ok_is d c f) (record { outline = outline; many = many; fits = record { some = fits.0; label = taken.label; labelled = taken.read; labels = labels } }) name in
        next_block O B P last n name o b w words left p taken t.spelled fits.2 more
    by_form line.End Behind here fits t e f =
        let q : Outline = record o { heads = o.heads ++ o.present ∷ []; present = no_head; stage = Outside } in
        let d : Bodies = record b { ended = b.ended ++ b.blocks ∷ []; blocks = [] } in
        let both : length d.ended ≡ length q.heads = length-append b.ended (b.blocks ∷ []) ∙ ap (λ k. k + 1) many ∙ sym (length-append o.heads (o.present ∷ [])) in
        let more = came q d (ok_is q p e) (ok_is d c f) (record { outline = outline; many = both; fits = (refl, fits.2) }) name in
        let bare = none_of words (counted 0 0 (length words) t.number).1 in
        end_step O B P last n name o b w words left t.spelled bare fits.0 fits.1 more
    by_form _ _ here fits t e f = (let no : false ≡ true = t.placed in absurd cc)

    line_ahead : FitsStage o.stage o b → outline_line n o (w ∷ words) ≡ Ok p → body_line n b (w ∷ words) ≡ Ok c
        → After O B P last o.stage name o b ((n, w ∷ words) ∷ left)
    unfolding outline_line body_line
    line_ahead fits e f =
        let a = bind_ok (at n (tested o.stage (eqb (length o.funcs) 0) w words)) (λ form. declare n o form words) p e in
        let t = tested_is o.stage (eqb (length o.funcs) 0) w words a.0 (at_ok n (tested o.stage (eqb (length o.funcs) 0) w words) a.0 a.1) in
        let k = bind_ok (ok_or (line_form w) (At n Unknown)) (λ form. fill n b form words) c f in
        let same : k.0 ≡ a.0 = some_is k.0 a.0 (sym (or_ok (line_form w) (At n Unknown) k.0 k.1) ∙ t.formed) in
        by_form a.0 o.stage refl fits t a.2 (subst (λ (form : LineForm). fill n b form words ≡ Ok c) same k.2)

  -- ---- all lines

  at_end : (o : Outline) (b : Bodies) (name : TextWord) → o ≡ O → b ≡ B → After O B P last o.stage name o b []
  at_end o b name one other =
      subst (λ (u : Outline). After O B P last u.stage name u b []) (sym one) (subst (λ (d : Bodies). After O B P last O.stage name O d []) (sym other) (subst (λ (s : Stage). After O B P last s name O B []) (sym last.outside) (record {
        globals = [];
        all = sym (append-nil O.globals);
        closed = λ some. refl;
        fits = tt;
        ahead = record {
          funcs = [];
          names_are = sym (append-nil O.funcs);
          ids_are = sym (append-nil O.operations);
          heads_are = sym (append-nil O.heads);
          ended_are = sym (append-nil B.ended);
          fits = tt;
          says = tt;
        };
      })))

  pub follow : (lines : Numbered) (o : Outline) (b : Bodies) (name : TextWord) → AllByRecursion (λ l. 1 ≤ length l.1) lines → IsJoint O o b
      → over outline_line o lines ≡ Ok O → over body_line b lines ≡ Ok B → After O B P last o.stage name o b lines
  unfolding each
  follow [] o b name some joint e f = at_end o b name (ok_is o O e) (ok_is b B f)
  follow ((n, []) ∷ left) o b name some joint e f = absurd (let one = some.0 in omega arith)
  follow ((n, w ∷ words) ∷ left) o b name some joint e f =
      let a = bind_ok (outline_line n o (w ∷ words)) (λ next. over outline_line next left) O e in
      let k = bind_ok (body_line n b (w ∷ words)) (λ next. over body_line next left) B f in
      line_ahead n o b w words left a.0 k.0 name joint.outline joint.many (λ more nm. follow left a.0 k.0 nm some.1 more a.2 k.2) joint.fits a.1 k.1
