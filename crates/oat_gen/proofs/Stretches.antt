-- The code of each function of a checked program is made of parts: a prologue that begins its operation, and a stretch for each block.
use Rattle.std.proofs.Common.{◌≡◌, ℕ, ◌^◌, ◌<◌, ◌≤◌, Bool, true, false, not, ◌&&◌, ◌||◌, List, [], ◌∷◌, ◌++◌, map, refl, sym, ap, ◌∙◌, subst}
use Rattle.std.specs.Prelude.{Contains}
use Rattle.std.proofs.lemmas.Bool.{and_parts, false≢true}
use Rattle.oat_parts.proofs.{Lists.first_in, Lists.later_in, Making.join}
use Rattle.oat_globals.specs.{Brk, is_transfer, is_measured, IsInRange, Item, AreItemsInRange, lines_code}
use Rattle.oat_locals.specs.{Inst, Mark}
use Rattle.oat_symbols.specs.{SymbolTable, IsFunctionLabel, CheckTest, is_set, is_met, skip, CodePart, simple, reference, check, waits, ArePaced, begun_by, IsMarkOf, IsLoose, IsMadeOfParts}
use Rattle.oat_asm.specs.declared.note.Note.TheVariants as note
use Rattle.oat_asm.specs.declared.item.Item.TheVariants as item
use Rattle.oat_parts.specs.Parts as part

-- ---- items that are parts by themselves

abbrev pub is_plain : Item → Bool
is_plain (item.Inst i) = not (is_transfer i || is_measured i)
is_plain _ = false

abbrev pub are_plain : List Item → Bool
are_plain [] = true
are_plain (x ∷ xs) = is_plain x && are_plain xs

not_so : (b : Bool) → not b ≡ true → b ≡ false
not_so true h = absurd (false≢true h)
not_so false h = refl

pub in_two : (xs ys : List Item) → AreItemsInRange (xs ++ ys) → AreItemsInRange xs × AreItemsInRange ys
in_two [] ys ranges = (tt, ranges)
in_two (x ∷ xs) ys ranges = let rest = in_two xs ys ranges.1 in ((ranges.0, rest.0), rest.1)

module _ (t : SymbolTable) where
  -- without a label
  abbrev pub Made : List ℕ → List Item → Type 0
  Made begun is = IsMadeOfParts t [] begun is

  pub nothing : Made [] []
  nothing = record { parts = []; are = refl; each = tt; paced = refl; labelled = refl; begins = refl }

  pub inst_then : (begun : List ℕ) (i : Inst) (is : List Item) → IsInRange i → IsLoose i → Made begun is → Made begun (item.Inst i ∷ is)
  inst_then begun i is range loose rest = record {
    parts = simple i ∷ rest.parts;
    are = ap (λ (js : List Item). item.Inst i ∷ js) rest.are;
    each = ((range, loose), rest.each);
    paced = (tt, rest.paced);
    labelled = rest.labelled;
    begins = rest.begins;
  }

  pub plain_now : (begun : List ℕ) (xs ys : List Item) → are_plain xs ≡ true → AreItemsInRange xs → Made begun ys → Made begun (xs ++ ys)
  plain_now begun [] ys plain ranges rest = rest
  plain_now begun (item.Inst i ∷ xs) ys plain ranges rest =
      let both = and_parts (is_plain (item.Inst i)) (are_plain xs) plain in
      inst_then begun i (xs ++ ys) ranges.0 (not_so (is_transfer i || is_measured i) both.0) (plain_now begun xs ys both.1 ranges.1 rest)
  plain_now begun (item.Label l ∷ xs) ys plain ranges rest = absurd (false≢true plain)
  plain_now begun (item.BranchTo form l ∷ xs) ys plain ranges rest = absurd (false≢true plain)
  plain_now begun (item.AddressOf r l ∷ xs) ys plain ranges rest = absurd (false≢true plain)
  plain_now begun (item.Mark m ∷ xs) ys plain ranges rest = absurd (false≢true plain)
  plain_now begun (item.Note n ∷ xs) ys plain ranges rest = absurd (false≢true plain)

  pub check_now : (begun : List ℕ) (test : CheckTest) (number : ℕ) (is : List Item) → IsInRange (skip test) → number < 2 ^ 16 → Made begun is
      → Made begun (item.Note note.Check ∷ item.Inst (skip test) ∷ item.Inst (Brk number) ∷ is)
  check_now begun test number is range low rest = record {
    parts = check test number ∷ rest.parts;
    are = ap (λ (js : List Item). item.Note note.Check ∷ item.Inst (skip test) ∷ item.Inst (Brk number) ∷ js) rest.are;
    each = ((range, low), rest.each);
    paced = (tt, rest.paced);
    labelled = rest.labelled;
    begins = rest.begins;
  }

  -- the same, where all is known to be in range
  pub plain_then : (begun : List ℕ) (xs ys : List Item) → are_plain xs ≡ true → AreItemsInRange (xs ++ ys) → (AreItemsInRange ys → Made begun ys) → Made begun (xs ++ ys)
  plain_then begun xs ys plain ranges rest = let both = in_two xs ys ranges in plain_now begun xs ys plain both.0 (rest both.1)

  pub check_then : (begun : List ℕ) (test : CheckTest) (number : ℕ) (is : List Item) → AreItemsInRange (item.Note note.Check ∷ item.Inst (skip test) ∷ item.Inst (Brk number) ∷ is)
      → (AreItemsInRange is → Made begun is) → Made begun (item.Note note.Check ∷ item.Inst (skip test) ∷ item.Inst (Brk number) ∷ is)
  check_then begun test number is ranges rest = check_now begun test number is ranges.1.0 ranges.1.1.0.0 (rest ranges.1.1.1)

  pub reference_then : (begun : List ℕ) (r l : ℕ) (is : List Item) → r ≤ 30 → IsFunctionLabel t l → Made begun is → Made begun (item.AddressOf r l ∷ is)
  reference_then begun r l is low there rest = record {
    parts = reference r l ∷ rest.parts;
    are = ap (λ (js : List Item). item.AddressOf r l ∷ js) rest.are;
    each = ((low, there), rest.each);
    paced = (tt, rest.paced);
    labelled = rest.labelled;
    begins = rest.begins;
  }

  -- a mark that nothing has to follow
  pub mark_then : (begun : List ℕ) (m : Mark) (is : List Item) → waits (part.mark m) ≡ false → IsMarkOf t m → Made begun is → Made (begun_by (part.mark m) ++ begun) (item.Mark m ∷ is)
  mark_then begun m is free known rest = record {
    parts = part.mark m ∷ rest.parts;
    are = ap (λ (js : List Item). item.Mark m ∷ js) rest.are;
    each = (known, rest.each);
    paced = (tt, subst (λ (w : Bool). ArePaced w rest.parts) (sym free) rest.paced);
    labelled = rest.labelled;
    begins = ap (λ (ns : List ℕ). begun_by (part.mark m) ++ ns) rest.begins;
  }

  -- the mark of a call, and the instruction that follows it
  pub call_then : (m : Mark) (i : Inst) (is : List Item) → begun_by (part.mark m) ≡ [] → IsMarkOf t m → IsInRange i → IsLoose i → Made [] is → Made [] (item.Mark m ∷ item.Inst i ∷ is)
  call_then m i is none known range loose rest = record {
    parts = part.mark m ∷ simple i ∷ rest.parts;
    are = ap (λ (js : List Item). item.Mark m ∷ item.Inst i ∷ js) rest.are;
    each = (known, ((range, loose), rest.each));
    paced = (tt, (tt, rest.paced));
    labelled = rest.labelled;
    begins = ap (λ (ns : List ℕ). ns ++ part.begun_in (simple i ∷ rest.parts)) none ∙ rest.begins;
  }

  -- lines one behind the other
  pub lines_made : {X : Type 0} (code : X → List Item) (xs : List X) → ((x : X) → Contains xs x → Made [] (code x)) → Made [] (lines_code (map code xs))
  lines_made code [] each = nothing
  lines_made code (x ∷ xs) each =
      join t [] [] [] [] (code x) (lines_code (map code xs)) (each x (first_in x xs)) (lines_made code xs (λ y has. each y (later_in x xs y has)))
