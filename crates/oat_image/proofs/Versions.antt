-- Rows of elements are read in the second version alone, whose texts have one.
use Rattle.std.proofs.Common.{◌≡◌, ℕ, Bool, true, false, not, ◌||◌, List, [], ◌∷◌, ◌++◌, Ok, Err, refl, ap, subst, ◌∙◌}
use Rattle.std.specs.{Prelude.bytes_eq, Prelude.if◌then◌else◌, List.AllByRecursion, List.list_all}
use Rattle.oat_lines.specs.{Faults.at, Reading.◌>>=◌, Fields.ended}
use Rattle.oat_lines.proofs.{Steps.bind_ok, Steps.ok_is, Steps.at_ok, Cutting.is_within_line}
use Rattle.oat_map.specs.declared.row.Row.{Row}
use Rattle.oat_image.specs.{declared.fault.ImageFaultKind.TheVariants.Token, Grammar.IsRow, Grammar.is_of_element, Grammar.has_elements, Grammar.version_line, Reading.Remainder, Reading.line_at}
use Rattle.oat_image.specs.{Reading.next_number, ImageReading.version_of, ImageReading.version_at}
use Rattle.oat_image.proofs.Sections.{bytes_take, line_takes, line_again}

-- ---- rows of a version

abbrev pub IsRowIn : Bool → Row → Type 0
IsRowIn second r = IsRow r × ((not (is_of_element r) || second) ≡ true)

pub are_rows : (second : Bool) (rows : List Row) → AllByRecursion (IsRowIn second) rows → AllByRecursion IsRow rows
are_rows second [] fit = tt
are_rows second (r ∷ rs) fit = (fit.0.0, are_rows second rs fit.1)

of_none : (b : Bool) → (not b || false) ≡ true → b ≡ false
of_none true e = absurd cc
of_none false e = refl

none : (rows : List Row) → AllByRecursion (IsRowIn false) rows → has_elements rows ≡ false
none [] fit = refl
none (r ∷ rs) fit = rw (of_none (is_of_element r) fit.0.1, none rs fit.1) refl

pub version_is : (second : Bool) (rows : List Row) → AllByRecursion (IsRowIn second) rows → (not second || has_elements rows) ≡ true → has_elements rows ≡ second
version_is true rows fit had = had
version_is false rows fit had = none rows fit

first_is : (b other second : Bool) → ((b || other) ≡ true → second ≡ true) → ((not b || second) ≡ true) × (other ≡ true → second ≡ true)
first_is true other second all = (all refl, λ o. all refl)
first_is false other second all = (refl, all)

rows_within : (second : Bool) (rows : List Row) → AllByRecursion IsRow rows → (has_elements rows ≡ true → second ≡ true) → AllByRecursion (IsRowIn second) rows
rows_within second [] fit all = tt
rows_within second (r ∷ rs) fit all =
    let one = first_is (is_of_element r) (has_elements rs) second all in
    ((fit.0, one.0), rows_within second rs fit.1 one.1)

-- the rows of an image are those of its version
pub rows_in : (rows : List Row) → AllByRecursion IsRow rows → AllByRecursion (IsRowIn (has_elements rows)) rows
rows_in rows fit = rows_within (has_elements rows) rows fit (λ had. had)

pub is_due : (second : Bool) → (not second || second) ≡ true
is_due true = refl
is_due false = refl

-- ---- the first line

chosen_line : (a b : Bool) (line : List ℕ) (second : Bool) → bytes_eq line (version_line false) ≡ a → bytes_eq line (version_line true) ≡ b
    → (if a then Ok false else if b then Ok true else Err Token) ≡ Ok second → line ≡ version_line second
chosen_line true b line second first other e = bytes_take line (version_line false) first ∙ ap version_line (ok_is false second e)
chosen_line false true line second first other e = bytes_take line (version_line true) other ∙ ap version_line (ok_is true second e)
chosen_line false false line second first other e = absurd cc

pub version_takes : (t : Remainder) (p : Bool × Remainder) → version_at t ≡ Ok p → t.rest ≡ ended (version_line p.0) ++ p.1.rest
unfolding version_at
version_takes t p e =
    let a = bind_ok (line_at t) (λ line. at t.line (version_of line.0) >>= λ second. Ok (second, line.1)) p e in
    let b = bind_ok (at t.line (version_of a.0.0)) (λ second. Ok (second, a.0.1)) p a.2 in
    let line : a.0.0 ≡ version_line b.0 = chosen_line (bytes_eq a.0.0 (version_line false)) (bytes_eq a.0.0 (version_line true)) a.0.0 b.0 refl refl (at_ok t.line (version_of a.0.0) b.0 b.1) in
    subst (λ (q : Bool × Remainder). t.rest ≡ ended (version_line q.0) ++ q.1.rest) (ok_is (b.0, a.0.1) p b.2)
    (line_takes t a.0 a.1 ∙ ap (λ (l : List ℕ). ended l ++ a.0.1.rest) line)

line_within : (second : Bool) → list_all is_within_line (version_line second) ≡ true
line_within true = refl
line_within false = refl

line_is : (second : Bool) → version_of (version_line second) ≡ Ok second
line_is true = refl
line_is false = refl

pub version_again : (second : Bool) (rest : List ℕ) (n : ℕ) → version_at (record { rest = ended (version_line second) ++ rest; line = n }) ≡ Ok (second, record { rest = rest; line = next_number n })
unfolding version_at
version_again second rest n = rw (line_again (version_line second) rest n (line_within second), line_is second) refl
