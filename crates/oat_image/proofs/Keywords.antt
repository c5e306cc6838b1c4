-- The keywords of rows: what is read as a kind of row is its keyword, and each keyword is read as its kind.
use Rattle.std.proofs.Common.{◌≡◌, ℕ, Bool, true, false, List, Option, Some, Ok, refl, ap, subst, ◌∙◌, arith}
use Rattle.std.specs.Prelude.{if◌then◌else◌, ok_or, bytes_eq, codes}
use Rattle.oat_lines.specs.{Reading.◌>>=◌, Reading.guard, Fields.IsField}
use Rattle.oat_lines.proofs.Steps.{bind_ok, guarded_ok, ok_is, or_ok, some_is}
use Rattle.oat_image.specs.{declared.keyword.RowKind.RowKind, declared.keyword.RowKind.TheVariants.Edge, declared.keyword.RowKind.TheVariants.Point, declared.keyword.RowKind.TheVariants.Element}
use Rattle.oat_image.specs.{declared.fault.ImageFaultKind.TheVariants.Token, RowReading.is_kind_in, RowReading.kind_in, RowReading.kind_of}
use Rattle.oat_image.proofs.Sections.{bytes_take}
use Rattle.oat_image.specs.declared.keyword.EdgeKind.TheVariants as edges
use Rattle.oat_image.specs.declared.keyword.PointKind.TheVariants as points
use Rattle.oat_image.specs.declared.element.ElementKind.TheVariants as elements

abbrev pub keyword_of : RowKind → List ℕ
keyword_of (Edge edges.Jump) = codes "jump"
keyword_of (Edge edges.Branch) = codes "branch"
keyword_of (Edge edges.Call) = codes "call"
keyword_of (Edge edges.ICall) = codes "icall"
keyword_of (Edge edges.Ret) = codes "ret"
keyword_of (Point points.Begin) = codes "begin"
keyword_of (Point points.End) = codes "end"
keyword_of (Point points.UseCell) = codes "use"
keyword_of (Point points.DefCell) = codes "def"
keyword_of (Point points.Check) = codes "check"
keyword_of (Element elements.UseAt) = codes "useat"
keyword_of (Element elements.DefAt) = codes "defat"

choose : (b : Bool) (word keyword : List ℕ) (k r : RowKind) (o : Option RowKind) → bytes_eq word keyword ≡ b → keyword ≡ keyword_of k → (if b then Some k else o) ≡ Some r
    → (o ≡ Some r → word ≡ keyword_of r) → word ≡ keyword_of r
choose true word keyword k r o t is e later = bytes_take word keyword t ∙ is ∙ ap keyword_of (some_is k r e)
choose false word keyword k r o t is e later = later e

pick : (word keyword : List ℕ) (k r : RowKind) (o : Option RowKind) → keyword ≡ keyword_of k → (if bytes_eq word keyword then Some k else o) ≡ Some r
    → (o ≡ Some r → word ≡ keyword_of r) → word ≡ keyword_of r
pick word keyword k r o is e later = choose (bytes_eq word keyword) word keyword k r o refl is e later

kind_takes : (word : List ℕ) (r : RowKind) → kind_of word ≡ Some r → word ≡ keyword_of r
kind_takes word r e =
    pick word (codes "jump") (Edge edges.Jump) r _ refl e λ e.
    pick word (codes "branch") (Edge edges.Branch) r _ refl e λ e.
    pick word (codes "call") (Edge edges.Call) r _ refl e λ e.
    pick word (codes "icall") (Edge edges.ICall) r _ refl e λ e.
    pick word (codes "ret") (Edge edges.Ret) r _ refl e λ e.
    pick word (codes "begin") (Point points.Begin) r _ refl e λ e.
    pick word (codes "end") (Point points.End) r _ refl e λ e.
    pick word (codes "use") (Point points.UseCell) r _ refl e λ e.
    pick word (codes "def") (Point points.DefCell) r _ refl e λ e.
    pick word (codes "check") (Point points.Check) r _ refl e λ e.
    pick word (codes "useat") (Element elements.UseAt) r _ refl e λ e.
    pick word (codes "defat") (Element elements.DefAt) r _ refl e λ e. absurd cc

pub kind_again : (k : RowKind) → kind_of (keyword_of k) ≡ Some k
kind_again (Edge edges.Jump) = refl
kind_again (Edge edges.Branch) = refl
kind_again (Edge edges.Call) = refl
kind_again (Edge edges.ICall) = refl
kind_again (Edge edges.Ret) = refl
kind_again (Point points.Begin) = refl
kind_again (Point points.End) = refl
kind_again (Point points.UseCell) = refl
kind_again (Point points.DefCell) = refl
kind_again (Point points.Check) = refl
kind_again (Element elements.UseAt) = refl
kind_again (Element elements.DefAt) = refl

pub keyword_field : (k : RowKind) → IsField (keyword_of k)
keyword_field (Edge edges.Jump) = record { visible = refl; nonempty = omega arith }
keyword_field (Edge edges.Branch) = record { visible = refl; nonempty = omega arith }
keyword_field (Edge edges.Call) = record { visible = refl; nonempty = omega arith }
keyword_field (Edge edges.ICall) = record { visible = refl; nonempty = omega arith }
keyword_field (Edge edges.Ret) = record { visible = refl; nonempty = omega arith }
keyword_field (Point points.Begin) = record { visible = refl; nonempty = omega arith }
keyword_field (Point points.End) = record { visible = refl; nonempty = omega arith }
keyword_field (Point points.UseCell) = record { visible = refl; nonempty = omega arith }
keyword_field (Point points.DefCell) = record { visible = refl; nonempty = omega arith }
keyword_field (Point points.Check) = record { visible = refl; nonempty = omega arith }
keyword_field (Element elements.UseAt) = record { visible = refl; nonempty = omega arith }
keyword_field (Element elements.DefAt) = record { visible = refl; nonempty = omega arith }

pub kind_stands : (second : Bool) (word : List ℕ) (k : RowKind) → kind_in second word ≡ Ok k → (word ≡ keyword_of k) × (is_kind_in second k ≡ true)
unfolding kind_in
kind_stands second word k e =
    let a = bind_ok (ok_or (kind_of word) Token) (λ kind. guard (is_kind_in second kind) Token >>= λ known. Ok kind) k e in
    let b = guarded_ok (is_kind_in second a.0) Token (λ known. Ok a.0) k a.2 in
    subst (λ (q : RowKind). (word ≡ keyword_of q) × (is_kind_in second q ≡ true)) (ok_is a.0 k b.1) (kind_takes word a.0 (or_ok (kind_of word) Token a.0 a.1), b.0)
