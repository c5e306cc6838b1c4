-- The group of a mark is the group of its row.
use Rattle.std.proofs.Common.{◌≡◌, ℕ, ◌+◌, List, [], ◌∷◌, map, refl, sym, subst, arith}
use Rattle.std.specs.Prelude.{ℤ, ⊤}
use Rattle.oat_shape.specs.{Inst, Image, Groups.Stands, Groups.Branches, Groups.IsUseGroup, Groups.IsDefineGroup, Groups.IsUseAtGroup, Groups.IsDefineAtGroup}
use Rattle.oat_asm.specs.{declared.item.Item.Item, declared.mark.Mark.TheVariants.Jump, declared.mark.Mark.TheVariants.Branch, declared.mark.Mark.TheVariants.Call}
use Rattle.oat_asm.specs.{declared.mark.Mark.TheVariants.ICall, declared.mark.Mark.TheVariants.Ret, declared.mark.Mark.TheVariants.Begin, declared.mark.Mark.TheVariants.End}
use Rattle.oat_asm.specs.{declared.mark.Mark.TheVariants.UseCell, declared.mark.Mark.TheVariants.DefCell, declared.mark.Mark.TheVariants.UseAt, declared.mark.Mark.TheVariants.DefAt}
use Rattle.oat_asm.specs.{Standing.ItemsStand, Standing.GroupsAreThoseOfRows}
use Rattle.oat_asm.specs.declared.item.Item.TheVariants as item

third : (p : ℕ) → p + 4 + 4 ≡ p + 8
third p = omega arith

on : (code : List ℕ) (i : Inst) (a b : ℕ) → a ≡ b → Stands code a i → Stands code b i
on code i a b e stands = subst (λ (p : ℕ). Stands code p i) e stands

leads_on : (code : List ℕ) (form : ℤ → Inst) (to a b : ℕ) → a ≡ b → Branches code a form to → Branches code b form to
leads_on code form to a b e leads = subst (λ (p : ℕ). Branches code p form to) e leads

-- instructions one behind the other, by their distances from an address
abbrev InLine : List ℕ → ℕ → ℕ → List Inst → Type 0
InLine code p d [] = ⊤
InLine code p d (x ∷ xs) = Stands code (p + d) x × InLine code p (d + 4) xs

in_line : (i : Image) (label : ℕ → ℕ) (p d q : ℕ) (xs : List Inst) → q ≡ p + d → ItemsStand i label q (map item.Inst xs) → InLine i.code p d xs
in_line i label p d q [] at s = tt
in_line i label p d q (x ∷ xs) at s = (on i.code x q (p + d) at s.0, in_line i label p (d + 4) (q + 4) xs (omega arith) s.1)

of_line : (i : Image) (label : ℕ → ℕ) (p d q : ℕ) (xs : List Inst) → q ≡ p + d → InLine i.code p d xs → ItemsStand i label q (map item.Inst xs)
of_line i label p d q [] at s = tt
of_line i label p d q (x ∷ xs) at s = (on i.code x (p + d) q (sym at) s.0, of_line i label p (d + 4) (q + 4) xs (omega arith) s.1)

-- five instructions, as they stand in the group of a cell
abbrev Five : List ℕ → ℕ → Inst → Inst → Inst → Inst → Inst → Type 0
Five code p a b c d e = (Stands code p a × Stands code (p + 4) b) × Stands code (p + 8) c × Stands code (p + 12) d × Stands code (p + 16) e

abbrev five : Inst → Inst → Inst → Inst → Inst → List Item
five a b c d e = map item.Inst (a ∷ b ∷ c ∷ d ∷ e ∷ [])

in_five : (i : Image) (label : ℕ → ℕ) (p : ℕ) (a b c d e : Inst) → ItemsStand i label p (five a b c d e) → Five i.code p a b c d e
in_five i label p a b c d e s =
    let h = in_line i label p 4 (p + 4) (b ∷ c ∷ d ∷ e ∷ []) refl s.1 in ((s.0, h.0), h.1.0, h.1.1.0, h.1.1.1.0)

of_five : (i : Image) (label : ℕ → ℕ) (p : ℕ) (a b c d e : Inst) → Five i.code p a b c d e → ItemsStand i label p (five a b c d e)
of_five i label p a b c d e f = (f.0.0, of_line i label p 4 (p + 4) (b ∷ c ∷ d ∷ e ∷ []) refl (f.0.1, (f.1, (f.2, (f.3, tt)))))

-- four instructions that test and two that move an address, and four more, as they stand in the group of an element
abbrev Ten : List ℕ → ℕ → Inst → Inst → Inst → Inst → Inst → Inst → Inst → Inst → Inst → Inst → Type 0
Ten code p a b c d e f x y z w =
    (Stands code p a × Stands code (p + 4) b × Stands code (p + 8) c × Stands code (p + 12) d) × (Stands code (p + 16) e × Stands code (p + 16 + 4) f)
    × Stands code (p + 24) x × Stands code (p + 28) y × Stands code (p + 32) z × Stands code (p + 36) w

abbrev ten : Inst → Inst → Inst → Inst → Inst → Inst → Inst → Inst → Inst → Inst → List Item
ten a b c d e f x y z w = map item.Inst (a ∷ b ∷ c ∷ d ∷ e ∷ f ∷ x ∷ y ∷ z ∷ w ∷ [])

sixth : (p : ℕ) → p + 20 ≡ p + 16 + 4
sixth p = omega arith

in_ten : (i : Image) (label : ℕ → ℕ) (p : ℕ) (a b c d e f x y z w : Inst) → ItemsStand i label p (ten a b c d e f x y z w) → Ten i.code p a b c d e f x y z w
in_ten i label p a b c d e f x y z w s =
    let h = in_line i label p 4 (p + 4) (b ∷ c ∷ d ∷ e ∷ f ∷ x ∷ y ∷ z ∷ w ∷ []) refl s.1 in
    let (own, (sixth_is, rest)) = h.1.1.1 in
    ((s.0, h.0, h.1.0, h.1.1.0), (own, on i.code f _ _ (sixth p) sixth_is), rest.0, rest.1.0, rest.1.1.0, rest.1.1.1.0)

of_ten : (i : Image) (label : ℕ → ℕ) (p : ℕ) (a b c d e f x y z w : Inst) → Ten i.code p a b c d e f x y z w → ItemsStand i label p (ten a b c d e f x y z w)
of_ten i label p a b c d e f x y z w ((one, two, three, four), (five_is, six), seven, eight, nine, last) = (
  one,
  of_line i label p 4 (p + 4) (b ∷ c ∷ d ∷ e ∷ f ∷ x ∷ y ∷ z ∷ w ∷ []) refl
      (two, (three, (four, (five_is, (on i.code f _ _ (sym (sixth p)) six, (seven, (eight, (nine, (last, tt))))))))),
)

pub groups_of_rows : GroupsAreThoseOfRows
groups_of_rows i label p (Jump to) own = (λ s. s.0, λ g. (g, tt))
groups_of_rows i label p (Branch taken other) own = (
  λ s. (s.0, s.1.0, leads_on i.code _ _ _ _ (third p) s.1.1.0),
  λ g. (g.0, (g.1, (leads_on i.code _ _ _ _ (sym (third p)) g.2, tt))),
)
groups_of_rows i label p (Call to) own = (λ s. s.0, λ g. (g, tt))
groups_of_rows i label p (ICall params) own = (λ s. (s.0, s.1.0), λ g. (g.0, (g.1, tt)))
groups_of_rows i label p Ret own = (λ s. (s.0, s.1.0), λ g. (g.0, (g.1, tt)))
groups_of_rows i label p (Begin op) own = (λ s. (s.0, s.1.0), λ g. (g.0, (g.1, tt)))
groups_of_rows i label p (End op) own = (λ s. (s.0, s.1.0), λ g. (g.0, (g.1, tt)))
groups_of_rows i label p (UseCell cell index) own = (
  λ s. (index, own, in_five i label p _ _ _ _ _ s),
  λ g.
      let read = g.1 in
      let same : g.0 ≡ index = cc in
      of_five i label p _ _ _ _ _ (subst (IsUseGroup i.code p cell) same g.2),
)
groups_of_rows i label p (DefCell cell index) own = (
  λ s. (index, own, in_five i label p _ _ _ _ _ s),
  λ g.
      let read = g.1 in
      let same : g.0 ≡ index = cc in
      of_five i label p _ _ _ _ _ (subst (IsDefineGroup i.code p cell) same g.2),
)
groups_of_rows i label p (UseAt cell len index) own = (
  λ s. (index, own, in_ten i label p _ _ _ _ _ _ _ _ _ _ s),
  λ g.
      let read = g.1.first in
      let is = own.first in
      let same : g.0 ≡ index = cc in
      of_ten i label p _ _ _ _ _ _ _ _ _ _ (subst (IsUseAtGroup i.code p cell len) same g.2),
)
groups_of_rows i label p (DefAt cell len index) own = (
  λ s. (index, own, in_ten i label p _ _ _ _ _ _ _ _ _ _ s),
  λ g.
      let read = g.1.first in
      let is = own.first in
      let same : g.0 ≡ index = cc in
      of_ten i label p _ _ _ _ _ _ _ _ _ _ (subst (IsDefineAtGroup i.code p cell len) same g.2),
)
