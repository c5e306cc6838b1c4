-- The loops: what is written and what the rest gives is all that is to be written.
use Rattle.std.proofs.Common.{◌≡◌, ℕ, suc, ◌+◌, ◌-◌, ◌<◌, nat_lt, if◌then◌else◌, Bool, List, [], ◌∷◌, ◌++◌, sym, ap, ◌∙◌, arith, append_assoc}
use Rattle.oat_globals.specs.{AddReg, Item, home_load, home_store, local_stores, Home, home_of, Code.number_code, Code.address_code, Code.index_test, Code.element_code}
use Rattle.oat_asm.specs.declared.item.Item.TheVariants as item

-- of what is left the first is written
pub written : (out x rest whole left new : List Item) → out ++ left ≡ whole → left ≡ x ++ rest → new ≡ out ++ x → new ++ rest ≡ whole
written out x rest whole left new before more added = ap (λ s. s ++ rest) added ∙ append_assoc out x rest ∙ ap (λ s. out ++ s) (sym more) ∙ before

pub stores_on : (leaf : Bool) (params local locals : ℕ) (out new whole : List Item) → local < locals → out ++ local_stores leaf params local (locals - local) ≡ whole
    → new ≡ out ++ home_store (if nat_lt local params then local else 31) (home_of leaf local) ∷ [] → new ++ local_stores leaf params (local + 1) (locals - (local + 1)) ≡ whole
stores_on leaf params local locals out new whole low before added =
    let rest = local_stores leaf params (local + 1) (locals - (local + 1)) in
    let next : locals - local ≡ suc (locals - (local + 1)) = omega arith in
    written out (home_store (if nat_lt local params then local else 31) (home_of leaf local) ∷ []) rest whole (local_stores leaf params local (locals - local)) new before (ap (local_stores leaf params local) next) added

-- two pieces are one
pub both : (old xs ys mid new : List Item) → mid ≡ old ++ xs → new ≡ mid ++ ys → new ≡ old ++ (xs ++ ys)
both old xs ys mid new one two = two ∙ ap (λ s. s ++ ys) one ∙ append_assoc old xs ys

-- the address of an element, piece by piece
pub element_written : (word len : ℕ) (i : Home) (old a b c d e : List Item) → a ≡ old ++ home_load 12 i ∷ [] → b ≡ a ++ number_code len → c ≡ b ++ index_test → d ≡ c ++ address_code word
    → e ≡ d ++ item.Inst (AddReg 11 11 12 3) ∷ [] → e ≡ old ++ element_code word len i
element_written word len i old a b c d e first second third fourth fifth =
    let sum : List Item = item.Inst (AddReg 11 11 12 3) ∷ [] in
    let from_c : e ≡ c ++ (address_code word ++ sum) = both c (address_code word) sum d e fourth fifth in
    let from_b : e ≡ b ++ (index_test ++ (address_code word ++ sum)) = both b index_test (address_code word ++ sum) c e third from_c in
    let from_a : e ≡ a ++ (number_code len ++ (index_test ++ (address_code word ++ sum))) = both a (number_code len) (index_test ++ (address_code word ++ sum)) b e second from_b in
    both old (home_load 12 i ∷ []) (number_code len ++ (index_test ++ (address_code word ++ sum))) a e first from_a
