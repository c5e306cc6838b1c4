-- How pieces that were put one after another add up to a front of a text.
use Rattle.std.proofs.Common.{◌≡◌, ◌+◌, ◌-◌, ℕ, List, [], ◌++◌, length, take, drop, Option, None, Some, Result, Ok, Err, refl, sym, ◌∙◌, ap, subst, append_assoc}
use Rattle.std.proofs.Math.Seq.{take-add}
use Rattle.std.proofs.lemmas.List.{take-append-drop, take_rest, append-nil}
use Rattle.oat_world.specs.{Outside.Adds, Outside.Puts, Outside.Rose, declared.sink.SinkFault.SinkFault}
use Rattle.oat_page.specs.Puts.{PutsAll, PutsFront}
use Rattle.oat_world.specs.declared.sink.SinkFault.TheVariants as sink

pub Adds-nothing : (old : Option (List ℕ)) → Adds old [] old
Adds-nothing None = refl
Adds-nothing (Some before) = ap (λ x. Some x) (sym (append-nil before))

pub Adds-then : (first second : List ℕ) (old mid new : Option (List ℕ))
    → Adds old first mid → Adds mid second new → Adds old (first ++ second) new
Adds-then first second None mid new one two = rw one at two
Adds-then first second (Some before) mid new one two =
    let e : new ≡ Some ((before ++ first) ++ second) = rw one at two in
    e ∙ ap (λ x. Some x) (append_assoc before first second)

-- A put takes the text further.
pub Adds-more : (text : List ℕ) (done count : ℕ) (old mid new : Option (List ℕ)) → Adds old (take done text) mid
    → Adds mid (take count (take (length text - done) (drop done text))) new → Adds old (take (done + count) text) new
Adds-more text done count old mid new so_far put =
    rw (take-add done count text) (Adds-then _ _ old mid new so_far (rw (take_rest text done) at put))

-- A put that fails leaves a front of the text.
pub Puts-fails : (text : List ℕ) (done : ℕ) (old mid new : Option (List ℕ)) (first before now : ℕ) (fault : SinkFault)
    → before ≡ first → Adds old (take done text) mid
    → Puts (drop done text) mid new before now (Err fault) → PutsAll text (record { held = old; holds = new; before = first; after = now }) (Err fault)
Puts-fails text done old mid new first before now sink.Failed same so_far puts =
    (subst (λ (n : ℕ). Rose n now) same puts.0, (take done text, (drop done text, sym (take-append-drop done text)), puts.1 ∙ so_far))
Puts-fails text done old mid new first before now sink.Memory same so_far puts =
    (puts.0 ∙ same, (take done text, (drop done text, sym (take-append-drop done text)), puts.1 ∙ so_far))

pub PutsFront-whole : (text : List ℕ) (old new : Option (List ℕ)) → Adds old text new → PutsFront text old new
PutsFront-whole text old new added = (text, ([], sym (append-nil text)), added)

pub Adds-none : (text : List ℕ) (old new : Option (List ℕ)) → text ≡ [] → Adds old text new → new ≡ old
Adds-none text old new none added =
    let nothing : Adds old [] new = subst (λ (x : List ℕ). Adds old x new) none added in
    nothing ∙ sym (Adds-nothing old)

-- ---- a text in pieces

behind_front : (whole text front piece left : List ℕ) (old mid new : Option (List ℕ)) → whole ≡ front ++ text → text ≡ piece ++ left
    → Adds old front mid → PutsFront piece mid new → PutsFront whole old new
behind_front whole text front piece left old mid new is made so_far (part, (rest, cut), added) =
    let pieces : piece ++ left ≡ part ++ (rest ++ left) = ap (λ x. x ++ left) cut ∙ append_assoc part rest left in (
      front ++ part,
      (rest ++ left, is ∙ (ap (λ x. front ++ x) (made ∙ pieces) ∙ sym (append_assoc front part (rest ++ left)))),
      Adds-then front part old mid new so_far added,
    )

-- where a piece fails, a front of the whole text was put
pub PutsAll-behind : (whole text front piece left : List ℕ) (old mid new : Option (List ℕ)) (first before now : ℕ) (fault : SinkFault)
    → whole ≡ front ++ text → text ≡ piece ++ left → Adds old front mid → before ≡ first
    → PutsAll piece (record { held = mid; holds = new; before = before; after = now }) (Err fault)
    → PutsAll whole (record { held = old; holds = new; before = first; after = now }) (Err fault)
PutsAll-behind whole text front piece left old mid new first before now sink.Failed is made so_far same puts =
    (subst (λ (n : ℕ). Rose n now) same puts.0, behind_front whole text front piece left old mid new is made so_far puts.1)
PutsAll-behind whole text front piece left old mid new first before now sink.Memory is made so_far same puts =
    (puts.0 ∙ same, behind_front whole text front piece left old mid new is made so_far puts.1)

-- one text behind another
pub PutsAll-then : (first second piece : List ℕ) (old mid new : Option (List ℕ)) (before between now : ℕ) (r : Result (Unit {0}) SinkFault)
    → piece ≡ first → Adds old piece mid → between ≡ before → PutsAll second (record { held = mid; holds = new; before = between; after = now }) r
    → PutsAll (first ++ second) (record { held = old; holds = new; before = before; after = now }) r
PutsAll-then first second piece old mid new before between now (Ok done) is added same puts =
    (puts.0 ∙ same, Adds-then first second old mid new (subst (λ (xs : List ℕ). Adds old xs mid) is added) puts.1)
PutsAll-then first second piece old mid new before between now (Err fault) is added same puts =
    PutsAll-behind (first ++ second) second first second [] old mid new before between now fault refl (sym (append-nil second)) (subst (λ (xs : List ℕ). Adds old xs mid) is added) same puts

-- nothing was put where memory was wanting
pub PutsAll-starved : (text : List ℕ) (held : Option (List ℕ)) (faults : ℕ) → PutsAll text (record { held = held; holds = held; before = faults; after = faults }) (Err sink.Memory)
PutsAll-starved text held faults = (refl, ([], (text, refl), Adds-nothing held))

-- where the first text fails, so does the whole
pub PutsAll-front : (first second piece : List ℕ) (old new : Option (List ℕ)) (before now : ℕ) (fault : SinkFault)
    → piece ≡ first → PutsAll piece (record { held = old; holds = new; before = before; after = now }) (Err fault)
    → PutsAll (first ++ second) (record { held = old; holds = new; before = before; after = now }) (Err fault)
PutsAll-front first second piece old new before now fault same puts =
    PutsAll-behind (first ++ second) (first ++ second) [] piece second old old new before before now fault refl (ap (λ xs. xs ++ second) (sym same)) (Adds-nothing old) refl puts
