-- The lines of rows: what is read is spelled so, and what is spelled so is read.
use Rattle.std.proofs.Common.{◌≡◌, ℕ, ◌≤◌, ◌<◌, ◌^◌, Bool, true, List, [], ◌∷◌, ◌++◌, Some, Result, Ok, refl, sym, ap, subst, ◌∙◌, arith}
use Rattle.std.specs.{Prelude.ok_or, Prelude.decimal, Prelude.codes, List.list_all}
use Rattle.oat_lines.specs.{Reading.◌>>=◌, Hexadecimal.hexadecimal, Fields.one_field, Fields.field_and_rest, Fields.two_fields, Fields.three_fields, Fields.spaced, Fields.IsField}
use Rattle.oat_lines.proofs.{Cutting.one_takes, Cutting.field_takes, Cutting.two_take, Cutting.three_take, Cutting.one_again, Cutting.field_again, Cutting.two_again, Cutting.three_again}
use Rattle.oat_lines.proofs.{Cutting.within_field, Cutting.within_spaced, Cutting.two_within, Cutting.three_within, Cutting.is_within_line, Steps.bind_ok, Steps.ok_is, Steps.or_ok}
use Rattle.oat_map.specs.{declared.row.Row.Row, declared.row.Row.TheVariants.Jump, declared.row.Row.TheVariants.Branch, declared.row.Row.TheVariants.Call, declared.row.Row.TheVariants.ICall}
use Rattle.oat_map.specs.{declared.row.Row.TheVariants.Ret, declared.row.Row.TheVariants.Begin, declared.row.Row.TheVariants.End, declared.row.Row.TheVariants.UseCell}
use Rattle.oat_map.specs.{declared.row.Row.TheVariants.DefCell, declared.row.Row.TheVariants.UseAt, declared.row.Row.TheVariants.DefAt, declared.row.Row.TheVariants.Check}
use Rattle.oat_image.specs.{declared.keyword.RowKind.RowKind, declared.keyword.RowKind.TheVariants.Edge, declared.keyword.RowKind.TheVariants.Point, declared.keyword.RowKind.TheVariants.Element}
use Rattle.oat_image.specs.{declared.fault.ImageFaultKind.ImageFaultKind, declared.fault.ImageFaultKind.TheVariants.Token, Grammar.row_line, Grammar.IsRow, Grammar.IsLength, LineReading.number_in}
use Rattle.oat_image.specs.{LineReading.eight_digits, RowReading.is_kind_in, RowReading.kind_in, RowReading.kind_of, RowReading.sole_address, RowReading.two_addresses, RowReading.addresses_of}
use Rattle.oat_image.specs.{RowReading.three_addresses, RowReading.address_and_number, RowReading.array_of, RowReading.address_and_array, RowReading.edge_row, RowReading.point_row}
use Rattle.oat_image.specs.{RowReading.element_row, RowReading.row_with, RowReading.row_of}
use Rattle.oat_image.proofs.{Versions.IsRowIn, Sections.IsForm, Sections.decimal_field, Forms.address_takes, Forms.address_again, Forms.address_field, Forms.number_takes, Forms.number_again}
use Rattle.oat_image.proofs.{Keywords.keyword_of, Keywords.kind_again, Keywords.keyword_field, Keywords.kind_stands}
use Rattle.oat_image.specs.declared.keyword.EdgeKind.TheVariants as edges
use Rattle.oat_image.specs.declared.keyword.PointKind.TheVariants as points
use Rattle.oat_image.specs.declared.element.ElementKind.TheVariants as elements

-- ---- fields

sole_takes : (fields : List ℕ) (a : ℕ) → sole_address fields ≡ Ok a → (fields ≡ hexadecimal 8 a) × (a < 2 ^ 32)
unfolding sole_address
sole_takes fields a e =
    let w = bind_ok (ok_or (one_field fields) Token) (λ word. eight_digits word) a e in
    let n = address_takes w.0 a w.2 in
    (one_takes fields w.0 (or_ok (one_field fields) Token w.0 w.1) ∙ n.0, n.1)

sole_again : (a : ℕ) → a < 2 ^ 32 → sole_address (hexadecimal 8 a) ≡ Ok a
unfolding sole_address
sole_again a lt = rw (one_again (hexadecimal 8 a) (address_field a), address_again a lt) refl

pair_takes : (fields : List ℕ) (p : ℕ × ℕ) → two_addresses fields ≡ Ok p → (fields ≡ spaced (hexadecimal 8 p.0 ∷ hexadecimal 8 p.1 ∷ [])) × (p.0 < 2 ^ 32) × (p.1 < 2 ^ 32)
unfolding two_addresses
pair_takes fields p e =
    let w = bind_ok (ok_or (two_fields fields) Token) (λ words. eight_digits words.0 >>= λ first. eight_digits words.1 >>= λ second. Ok (first, second)) p e in
    let a = bind_ok (eight_digits w.0.0) (λ first. eight_digits w.0.1 >>= λ second. Ok (first, second)) p w.2 in
    let b = bind_ok (eight_digits w.0.1) (λ second. Ok (a.0, second)) p a.2 in
    let first = address_takes w.0.0 a.0 a.1 in
    let second = address_takes w.0.1 b.0 b.1 in
    let parts : fields ≡ spaced (hexadecimal 8 a.0 ∷ hexadecimal 8 b.0 ∷ []) =
    two_take fields w.0 (or_ok (two_fields fields) Token w.0 w.1) ∙ ap (λ (t : List ℕ). spaced (t ∷ w.0.1 ∷ [])) first.0 ∙ ap (λ (t : List ℕ). spaced (hexadecimal 8 a.0 ∷ t ∷ [])) second.0 in
    subst (λ (q : ℕ × ℕ). (fields ≡ spaced (hexadecimal 8 q.0 ∷ hexadecimal 8 q.1 ∷ [])) × (q.0 < 2 ^ 32) × (q.1 < 2 ^ 32)) (ok_is (a.0, b.0) p b.2) (parts, first.1, second.1)

pair_again : (a b : ℕ) → a < 2 ^ 32 → b < 2 ^ 32 → two_addresses (spaced (hexadecimal 8 a ∷ hexadecimal 8 b ∷ [])) ≡ Ok (a, b)
unfolding two_addresses
pair_again a b la lb = rw (two_again (hexadecimal 8 a) (hexadecimal 8 b) (address_field a) (address_field b), address_again a la, address_again b lb) refl

addresses_take : (one two three : List ℕ) (p : ℕ × ℕ × ℕ) → addresses_of one two three ≡ Ok p
    → (one ≡ hexadecimal 8 p.0) × (two ≡ hexadecimal 8 p.1) × (three ≡ hexadecimal 8 p.2) × (p.0 < 2 ^ 32) × (p.1 < 2 ^ 32) × (p.2 < 2 ^ 32)
unfolding addresses_of
addresses_take one two three p e =
    let a = bind_ok (eight_digits one) (λ first. eight_digits two >>= λ second. eight_digits three >>= λ third. Ok (first, second, third)) p e in
    let b = bind_ok (eight_digits two) (λ second. eight_digits three >>= λ third. Ok (a.0, second, third)) p a.2 in
    let d = bind_ok (eight_digits three) (λ third. Ok (a.0, b.0, third)) p b.2 in
    let first = address_takes one a.0 a.1 in
    let second = address_takes two b.0 b.1 in
    let third = address_takes three d.0 d.1 in
    subst (λ (q : ℕ × ℕ × ℕ). (one ≡ hexadecimal 8 q.0) × (two ≡ hexadecimal 8 q.1) × (three ≡ hexadecimal 8 q.2) × (q.0 < 2 ^ 32) × (q.1 < 2 ^ 32) × (q.2 < 2 ^ 32))
    (ok_is (a.0, b.0, d.0) p d.2) (first.0, second.0, third.0, first.1, second.1, third.1)

addresses_again : (a b d : ℕ) → a < 2 ^ 32 → b < 2 ^ 32 → d < 2 ^ 32 → addresses_of (hexadecimal 8 a) (hexadecimal 8 b) (hexadecimal 8 d) ≡ Ok (a, b, d)
unfolding addresses_of
addresses_again a b d la lb ld = rw (address_again a la, address_again b lb, address_again d ld) refl

triple_takes : (fields : List ℕ) (p : ℕ × ℕ × ℕ) → three_addresses fields ≡ Ok p
    → (fields ≡ spaced (hexadecimal 8 p.0 ∷ hexadecimal 8 p.1 ∷ hexadecimal 8 p.2 ∷ [])) × (p.0 < 2 ^ 32) × (p.1 < 2 ^ 32) × (p.2 < 2 ^ 32)
unfolding three_addresses
triple_takes fields p e =
    let w = bind_ok (ok_or (three_fields fields) Token) (λ words. addresses_of words.0 words.1 words.2) p e in
    let n = addresses_take w.0.0 w.0.1 w.0.2 p w.2 in (
      three_take fields w.0 (or_ok (three_fields fields) Token w.0 w.1) ∙ ap (λ (t : List ℕ). spaced (t ∷ w.0.1 ∷ w.0.2 ∷ [])) n.0
          ∙ ap (λ (t : List ℕ). spaced (hexadecimal 8 p.0 ∷ t ∷ w.0.2 ∷ [])) n.1
          ∙ ap (λ (t : List ℕ). spaced (hexadecimal 8 p.0 ∷ hexadecimal 8 p.1 ∷ t ∷ [])) n.2,
      n.3,
      n.4,
      n.5,
    )

triple_again : (a b d : ℕ) → a < 2 ^ 32 → b < 2 ^ 32 → d < 2 ^ 32 → three_addresses (spaced (hexadecimal 8 a ∷ hexadecimal 8 b ∷ hexadecimal 8 d ∷ [])) ≡ Ok (a, b, d)
unfolding three_addresses
triple_again a b d la lb ld =
    rw (three_again (hexadecimal 8 a) (hexadecimal 8 b) (hexadecimal 8 d) (address_field a) (address_field b) (address_field d), addresses_again a b d la lb ld) refl

numbered_takes : (least most : ℕ) (fields : List ℕ) (p : ℕ × ℕ) → most < 2 ^ 64 → address_and_number least most fields ≡ Ok p
    → (fields ≡ spaced (hexadecimal 8 p.0 ∷ decimal p.1 ∷ [])) × (p.0 < 2 ^ 32) × (least ≤ p.1) × (p.1 ≤ most)
unfolding address_and_number
numbered_takes least most fields p small e =
    let w = bind_ok (ok_or (two_fields fields) Token) (λ words. eight_digits words.0 >>= λ address. number_in least most words.1 >>= λ n. Ok (address, n)) p e in
    let a = bind_ok (eight_digits w.0.0) (λ address. number_in least most w.0.1 >>= λ n. Ok (address, n)) p w.2 in
    let b = bind_ok (number_in least most w.0.1) (λ n. Ok (a.0, n)) p a.2 in
    let first = address_takes w.0.0 a.0 a.1 in
    let second = number_takes least most w.0.1 b.0 small b.1 in
    let parts : fields ≡ spaced (hexadecimal 8 a.0 ∷ decimal b.0 ∷ []) =
    two_take fields w.0 (or_ok (two_fields fields) Token w.0 w.1) ∙ ap (λ (t : List ℕ). spaced (t ∷ w.0.1 ∷ [])) first.0 ∙ ap (λ (t : List ℕ). spaced (hexadecimal 8 a.0 ∷ t ∷ [])) second.0 in
    subst (λ (q : ℕ × ℕ). (fields ≡ spaced (hexadecimal 8 q.0 ∷ decimal q.1 ∷ [])) × (q.0 < 2 ^ 32) × (least ≤ q.1) × (q.1 ≤ most)) (ok_is (a.0, b.0) p b.2) (parts, first.1, second.1, second.2)

numbered_again : (least most a n : ℕ) → a < 2 ^ 32 → least ≤ n → n ≤ most → most < 2 ^ 64 → address_and_number least most (spaced (hexadecimal 8 a ∷ decimal n ∷ [])) ≡ Ok (a, n)
unfolding address_and_number
numbered_again least most a n la low high small =
    rw (two_again (hexadecimal 8 a) (decimal n) (address_field a) (decimal_field n (omega arith)), address_again a la, number_again least most n low high small) refl

array_takes : (one two three : List ℕ) (p : ℕ × ℕ × ℕ) → array_of one two three ≡ Ok p
    → (one ≡ hexadecimal 8 p.0) × (two ≡ decimal p.1) × (three ≡ decimal p.2) × (p.0 < 2 ^ 32) × (p.1 ≤ 65535) × (1 ≤ p.2) × (p.2 ≤ 4096)
unfolding array_of
array_takes one two three p e =
    let a = bind_ok (eight_digits one) (λ address. number_in 0 65535 two >>= λ cell. number_in 1 4096 three >>= λ len. Ok (address, cell, len)) p e in
    let b = bind_ok (number_in 0 65535 two) (λ cell. number_in 1 4096 three >>= λ len. Ok (a.0, cell, len)) p a.2 in
    let d = bind_ok (number_in 1 4096 three) (λ len. Ok (a.0, b.0, len)) p b.2 in
    let address = address_takes one a.0 a.1 in
    let cell = number_takes 0 65535 two b.0 (omega arith) b.1 in
    let len = number_takes 1 4096 three d.0 (omega arith) d.1 in
    subst (λ (q : ℕ × ℕ × ℕ). (one ≡ hexadecimal 8 q.0) × (two ≡ decimal q.1) × (three ≡ decimal q.2) × (q.0 < 2 ^ 32) × (q.1 ≤ 65535) × (1 ≤ q.2) × (q.2 ≤ 4096))
    (ok_is (a.0, b.0, d.0) p d.2) (address.0, cell.0, len.0, address.1, cell.2, len.1, len.2)

array_again : (a c l : ℕ) → a < 2 ^ 32 → c ≤ 65535 → IsLength l → array_of (hexadecimal 8 a) (decimal c) (decimal l) ≡ Ok (a, c, l)
unfolding array_of
array_again a c l la lc ll =
    rw (address_again a la, number_again 0 65535 c (omega arith) lc (omega arith), number_again 1 4096 l ll.0 ll.1 (omega arith)) refl

element_takes : (fields : List ℕ) (p : ℕ × ℕ × ℕ) → address_and_array fields ≡ Ok p
    → (fields ≡ spaced (hexadecimal 8 p.0 ∷ decimal p.1 ∷ decimal p.2 ∷ [])) × (p.0 < 2 ^ 32) × (p.1 ≤ 65535) × IsLength p.2
unfolding address_and_array
element_takes fields p e =
    let w = bind_ok (ok_or (three_fields fields) Token) (λ words. array_of words.0 words.1 words.2) p e in
    let n = array_takes w.0.0 w.0.1 w.0.2 p w.2 in (
      three_take fields w.0 (or_ok (three_fields fields) Token w.0 w.1) ∙ ap (λ (t : List ℕ). spaced (t ∷ w.0.1 ∷ w.0.2 ∷ [])) n.0
          ∙ ap (λ (t : List ℕ). spaced (hexadecimal 8 p.0 ∷ t ∷ w.0.2 ∷ [])) n.1
          ∙ ap (λ (t : List ℕ). spaced (hexadecimal 8 p.0 ∷ decimal p.1 ∷ t ∷ [])) n.2,
      n.3,
      n.4,
      (n.5, n.6),
    )

element_again : (a c l : ℕ) → a < 2 ^ 32 → c ≤ 65535 → IsLength l → address_and_array (spaced (hexadecimal 8 a ∷ decimal c ∷ decimal l ∷ [])) ≡ Ok (a, c, l)
unfolding address_and_array
element_again a c l la lc ll =
    rw (three_again (hexadecimal 8 a) (decimal c) (decimal l) (address_field a) (decimal_field c (omega arith)) (decimal_field l (omega (arith, ll.1))), array_again a c l la lc ll) refl

-- ---- rows

-- the line is that of the row, which is one of the version
abbrev Spells : Bool → List ℕ → List ℕ → Row → Type 0
Spells second keyword fields r = (keyword ++ 32 ∷ fields ≡ row_line r) × IsRowIn second r

made : {X : Type 0} (second : Bool) (read : Result X ImageFaultKind) (make : X → Row) (keyword fields : List ℕ) (r : Row)
    → ((x : X) → read ≡ Ok x → Spells second keyword fields (make x)) → (read >>= λ x. Ok (make x)) ≡ Ok r → Spells second keyword fields r
made second read make keyword fields r spelled e =
    let a = bind_ok read (λ x. Ok (make x)) r e in
    subst (λ (q : Row). Spells second keyword fields q) (ok_is (make a.0) r a.2) (spelled a.0 a.1)

with_takes : (second : Bool) (k : RowKind) (fields : List ℕ) (r : Row) → is_kind_in second k ≡ true → row_with k fields ≡ Ok r → Spells second (keyword_of k) fields r
unfolding edge_row point_row element_row
with_takes second (Edge edges.Jump) fields r known e = made second (two_addresses fields) (λ x. Jump x.0 x.1) (codes "jump") fields r (λ x is. (let n = pair_takes fields x is in (ap (λ (t : List ℕ). codes "jump" ++ 32 ∷ t) n.0, ((n.1, n.2), refl)))) e
with_takes second (Edge edges.Branch) fields r known e = made second (three_addresses fields) (λ x. Branch x.0 x.1 x.2) (codes "branch") fields r (λ x is. (let n = triple_takes fields x is in (ap (λ (t : List ℕ). codes "branch" ++ 32 ∷ t) n.0, ((n.1, n.2, n.3), refl)))) e
with_takes second (Edge edges.Call) fields r known e = made second (two_addresses fields) (λ x. Call x.0 x.1) (codes "call") fields r (λ x is. (let n = pair_takes fields x is in (ap (λ (t : List ℕ). codes "call" ++ 32 ∷ t) n.0, ((n.1, n.2), refl)))) e
with_takes second (Edge edges.ICall) fields r known e = made second (address_and_number 0 4 fields) (λ x. ICall x.0 x.1) (codes "icall") fields r (λ x is. (let n = numbered_takes 0 4 fields x (omega arith) is in (ap (λ (t : List ℕ). codes "icall" ++ 32 ∷ t) n.0, ((n.1, n.3), refl)))) e
with_takes second (Edge edges.Ret) fields r known e = made second (sole_address fields) (λ x. Ret x) (codes "ret") fields r (λ x is. (let n = sole_takes fields x is in (ap (λ (t : List ℕ). codes "ret" ++ 32 ∷ t) n.0, (n.1, refl)))) e
with_takes second (Point points.Begin) fields r known e = made second (address_and_number 1 65535 fields) (λ x. Begin x.0 x.1) (codes "begin") fields r (λ x is. (let n = numbered_takes 1 65535 fields x (omega arith) is in (ap (λ (t : List ℕ). codes "begin" ++ 32 ∷ t) n.0, ((n.1, (n.2, n.3)), refl)))) e
with_takes second (Point points.End) fields r known e = made second (address_and_number 1 65535 fields) (λ x. End x.0 x.1) (codes "end") fields r (λ x is. (let n = numbered_takes 1 65535 fields x (omega arith) is in (ap (λ (t : List ℕ). codes "end" ++ 32 ∷ t) n.0, ((n.1, (n.2, n.3)), refl)))) e
with_takes second (Point points.UseCell) fields r known e = made second (address_and_number 0 65535 fields) (λ x. UseCell x.0 x.1) (codes "use") fields r (λ x is. (let n = numbered_takes 0 65535 fields x (omega arith) is in (ap (λ (t : List ℕ). codes "use" ++ 32 ∷ t) n.0, ((n.1, n.3), refl)))) e
with_takes second (Point points.DefCell) fields r known e = made second (address_and_number 0 65535 fields) (λ x. DefCell x.0 x.1) (codes "def") fields r (λ x is. (let n = numbered_takes 0 65535 fields x (omega arith) is in (ap (λ (t : List ℕ). codes "def" ++ 32 ∷ t) n.0, ((n.1, n.3), refl)))) e
with_takes second (Point points.Check) fields r known e = made second (sole_address fields) (λ x. Check x) (codes "check") fields r (λ x is. (let n = sole_takes fields x is in (ap (λ (t : List ℕ). codes "check" ++ 32 ∷ t) n.0, (n.1, refl)))) e
with_takes second (Element elements.UseAt) fields r known e = made second (address_and_array fields) (λ x. UseAt x.0 x.1 x.2) (codes "useat") fields r (λ x is. (let n = element_takes fields x is in (ap (λ (t : List ℕ). codes "useat" ++ 32 ∷ t) n.0, ((n.1, n.2, n.3), known)))) e
with_takes second (Element elements.DefAt) fields r known e = made second (address_and_array fields) (λ x. DefAt x.0 x.1 x.2) (codes "defat") fields r (λ x is. (let n = element_takes fields x is in (ap (λ (t : List ℕ). codes "defat" ++ 32 ∷ t) n.0, ((n.1, n.2, n.3), known)))) e

row_takes : (second : Bool) (line : List ℕ) (r : Row) → row_of second line ≡ Ok r → (line ≡ row_line r) × IsRowIn second r
unfolding row_of
row_takes second line r e =
    let a = bind_ok (ok_or (field_and_rest line) Token) (λ parts. kind_in second parts.0 >>= λ kind. row_with kind parts.1) r e in
    let b = bind_ok (kind_in second a.0.0) (λ kind. row_with kind a.0.1) r a.2 in
    let kind = kind_stands second a.0.0 b.0 b.1 in
    let row = with_takes second b.0 a.0.1 r kind.1 b.2 in
    (field_takes line a.0 (or_ok (field_and_rest line) Token a.0 a.1) ∙ ap (λ (w : List ℕ). w ++ 32 ∷ a.0.1) kind.0 ∙ row.0, row.1)

-- the keyword sends the rest of the line to its kind
row_step : (second : Bool) (k : RowKind) (keyword fields : List ℕ) → keyword ≡ keyword_of k → is_kind_in second k ≡ true → row_of second (keyword ++ 32 ∷ fields) ≡ row_with k fields
unfolding row_of kind_in
row_step second k keyword fields is known =
    let field : IsField keyword = subst (λ (w : List ℕ). IsField w) (sym is) (keyword_field k) in
    let kind : kind_of keyword ≡ Some k = ap kind_of is ∙ kind_again k in
    rw (field_again keyword fields field, kind, known) refl

row_again : (second : Bool) (r : Row) → IsRowIn second r → row_of second (row_line r) ≡ Ok r
unfolding edge_row point_row element_row
row_again second (Jump a b) fits = row_step second (Edge edges.Jump) (codes "jump") (spaced (hexadecimal 8 a ∷ hexadecimal 8 b ∷ [])) refl refl ∙ rw (pair_again a b fits.0.0 fits.0.1) refl
row_again second (Branch a b d) fits = row_step second (Edge edges.Branch) (codes "branch") (spaced (hexadecimal 8 a ∷ hexadecimal 8 b ∷ hexadecimal 8 d ∷ [])) refl refl ∙ rw (triple_again a b d fits.0.0 fits.0.1 fits.0.2) refl
row_again second (Call a b) fits = row_step second (Edge edges.Call) (codes "call") (spaced (hexadecimal 8 a ∷ hexadecimal 8 b ∷ [])) refl refl ∙ rw (pair_again a b fits.0.0 fits.0.1) refl
row_again second (ICall a n) fits = row_step second (Edge edges.ICall) (codes "icall") (spaced (hexadecimal 8 a ∷ decimal n ∷ [])) refl refl ∙ rw (numbered_again 0 4 a n fits.0.0 (omega arith) fits.0.1 (omega arith)) refl
row_again second (Ret a) fits = row_step second (Edge edges.Ret) (codes "ret") (hexadecimal 8 a) refl refl ∙ rw (sole_again a fits.0) refl
row_again second (Begin a n) fits = row_step second (Point points.Begin) (codes "begin") (spaced (hexadecimal 8 a ∷ decimal n ∷ [])) refl refl ∙ rw (numbered_again 1 65535 a n fits.0.0 fits.0.1.0 fits.0.1.1 (omega arith)) refl
row_again second (End a n) fits = row_step second (Point points.End) (codes "end") (spaced (hexadecimal 8 a ∷ decimal n ∷ [])) refl refl ∙ rw (numbered_again 1 65535 a n fits.0.0 fits.0.1.0 fits.0.1.1 (omega arith)) refl
row_again second (UseCell a n) fits = row_step second (Point points.UseCell) (codes "use") (spaced (hexadecimal 8 a ∷ decimal n ∷ [])) refl refl ∙ rw (numbered_again 0 65535 a n fits.0.0 (omega arith) fits.0.1 (omega arith)) refl
row_again second (DefCell a n) fits = row_step second (Point points.DefCell) (codes "def") (spaced (hexadecimal 8 a ∷ decimal n ∷ [])) refl refl ∙ rw (numbered_again 0 65535 a n fits.0.0 (omega arith) fits.0.1 (omega arith)) refl
row_again second (UseAt a n l) fits = row_step second (Element elements.UseAt) (codes "useat") (spaced (hexadecimal 8 a ∷ decimal n ∷ decimal l ∷ [])) refl fits.1 ∙ rw (element_again a n l fits.0.0 fits.0.1 fits.0.2) refl
row_again second (DefAt a n l) fits = row_step second (Element elements.DefAt) (codes "defat") (spaced (hexadecimal 8 a ∷ decimal n ∷ decimal l ∷ [])) refl fits.1 ∙ rw (element_again a n l fits.0.0 fits.0.1 fits.0.2) refl
row_again second (Check a) fits = row_step second (Point points.Check) (codes "check") (hexadecimal 8 a) refl refl ∙ rw (sole_again a fits.0) refl

numbered_within : (k : RowKind) (a n : ℕ) → n < 2 ^ 64 → list_all is_within_line (keyword_of k ++ 32 ∷ spaced (hexadecimal 8 a ∷ decimal n ∷ [])) ≡ true
numbered_within k a n small = within_spaced (keyword_of k) (spaced (hexadecimal 8 a ∷ decimal n ∷ [])) (keyword_field k) (two_within (hexadecimal 8 a) (decimal n) (address_field a) (decimal_field n small))

element_within : (k : RowKind) (a c l : ℕ) → c ≤ 65535 → IsLength l → list_all is_within_line (keyword_of k ++ 32 ∷ spaced (hexadecimal 8 a ∷ decimal c ∷ decimal l ∷ [])) ≡ true
element_within k a c l small short =
    within_spaced (keyword_of k) (spaced (hexadecimal 8 a ∷ decimal c ∷ decimal l ∷ [])) (keyword_field k)
    (three_within (hexadecimal 8 a) (decimal c) (decimal l) (address_field a) (decimal_field c (omega arith)) (decimal_field l (omega (arith, short.1))))

paired_within : (k : RowKind) (a b : ℕ) → list_all is_within_line (keyword_of k ++ 32 ∷ spaced (hexadecimal 8 a ∷ hexadecimal 8 b ∷ [])) ≡ true
paired_within k a b = within_spaced (keyword_of k) (spaced (hexadecimal 8 a ∷ hexadecimal 8 b ∷ [])) (keyword_field k) (two_within (hexadecimal 8 a) (hexadecimal 8 b) (address_field a) (address_field b))

single_within : (k : RowKind) (a : ℕ) → list_all is_within_line (keyword_of k ++ 32 ∷ hexadecimal 8 a) ≡ true
single_within k a = within_spaced (keyword_of k) (hexadecimal 8 a) (keyword_field k) (within_field (hexadecimal 8 a) (address_field a))

row_whole : (r : Row) → IsRow r → list_all is_within_line (row_line r) ≡ true
row_whole (Jump a b) fits = paired_within (Edge edges.Jump) a b
row_whole (Branch a b d) fits =
    within_spaced (codes "branch") (spaced (hexadecimal 8 a ∷ hexadecimal 8 b ∷ hexadecimal 8 d ∷ [])) (keyword_field (Edge edges.Branch))
    (three_within (hexadecimal 8 a) (hexadecimal 8 b) (hexadecimal 8 d) (address_field a) (address_field b) (address_field d))
row_whole (Call a b) fits = paired_within (Edge edges.Call) a b
row_whole (ICall a n) fits = numbered_within (Edge edges.ICall) a n (omega (arith, fits.1))
row_whole (Ret a) fits = single_within (Edge edges.Ret) a
row_whole (Begin a n) fits = numbered_within (Point points.Begin) a n (omega (arith, fits.1.1))
row_whole (End a n) fits = numbered_within (Point points.End) a n (omega (arith, fits.1.1))
row_whole (UseCell a n) fits = numbered_within (Point points.UseCell) a n (omega (arith, fits.1))
row_whole (DefCell a n) fits = numbered_within (Point points.DefCell) a n (omega (arith, fits.1))
row_whole (UseAt a n l) fits = element_within (Element elements.UseAt) a n l fits.1 fits.2
row_whole (DefAt a n l) fits = element_within (Element elements.DefAt) a n l fits.1 fits.2
row_whole (Check a) fits = single_within (Point points.Check) a

pub row_form : (second : Bool) → IsForm (row_of second) row_line (IsRowIn second)
row_form second = record { takes = row_takes second; again = row_again second; whole = λ r fits. row_whole r fits.0 }
