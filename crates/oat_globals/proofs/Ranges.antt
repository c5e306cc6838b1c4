-- Each instruction of the lines has a word.
use Rattle.std.proofs.Common.{◌≡◌, ◌+◌, ◌%◌, ◌^◌, ◌<◌, ◌≤◌, ℕ, zero, suc, pos, Bool, true, false, cond, ltb, List, [], ◌∷◌, ◌++◌, Option, Some, None, refl, arith, lit<}
use Rattle.std.proofs.lemmas.Bool.{ltb-true}
use Rattle.oat_frames.specs.{AddReg, SubsReg, BCond, Svc, Movz, Ldr, Str, LdrReg, StrReg, IsInRange, global_address, Item, element_test, AreItemsInRange, Frames.Home, Frames.home_of, Code.IsHome}
use Rattle.oat_frames.specs.{Code.home_load, Code.home_store, Code.local_stores, Code.return_code}
use Rattle.oat_frames.proofs.FrameLaws.{is-home, load-range, store-range}
use Rattle.oat_globals.specs.{Code.number_code, Code.address_code, Code.index_test, Code.element_code, Code.use_at_code, Code.define_at_code, Operations.begin_code, Operations.end_code}
use Rattle.oat_globals.specs.{Operations.HasShortNumber, Sizes.GlobalLinesAreInRange}
use Rattle.oat_asm.specs.declared.item.Item.TheVariants as item

-- ---- single instructions

-- of a number of 16 bits
movz_in : (r v : ℕ) → r < 32 → v < 2 ^ 16 → IsInRange (Movz r 0 v)
movz_in r v a b = (omega arith, (omega arith, (omega arith, tt)))

-- and others
subs_in : IsInRange (SubsReg 31 12 11)
subs_in = (lit< tt, (lit< tt, (lit< tt, tt)))

skip_in : IsInRange (BCond 3 (pos 2))
skip_in = (refl, (omega arith, tt))

read_in : IsInRange (Ldr 9 11 0)
read_in = (lit< tt, (lit< tt, (lit< tt, tt)))

write_in : IsInRange (Str 9 11 0)
write_in = (lit< tt, (lit< tt, (lit< tt, tt)))

cell_in : IsInRange (AddReg 9 9 12 0)
cell_in = (lit< tt, (lit< tt, (lit< tt, (lit< tt, tt))))

-- ---- parts of lines

number_in : (v : ℕ) (is : List Item) → v < 2 ^ 32 → AreItemsInRange is → AreItemsInRange (number_code v ++ is)
number_in v is small rest = (movz_in 11 (v % 2 ^ 16) (omega arith) (omega arith), ((omega arith, (omega arith, (omega arith, tt))), rest))

address_in : (g : ℕ) (is : List Item) → g < 65536 → AreItemsInRange is → AreItemsInRange (address_code g ++ is)
address_in g is small rest = number_in (global_address g) is (omega arith) rest

index_in : (is : List Item) → AreItemsInRange is → AreItemsInRange (index_test ++ is)
index_in is rest = (subs_in, (tt, (skip_in, ((lit< tt, tt), rest))))

test_in : (len : ℕ) (is : List Item) → len < 2 ^ 16 → AreItemsInRange is → AreItemsInRange (element_test len ++ is)
test_in len is a rest = (movz_in 11 len (lit< tt) a, (subs_in, (skip_in, ((lit< tt, tt), rest))))

element_in : (base len : ℕ) (i : Home) (is : List Item) → base < 65536 → len ≤ 65536 → IsHome i → AreItemsInRange is → AreItemsInRange (element_code base len i ++ is)
element_in base len i is a b c rest = (
  load-range 12 i (lit< tt) c,
  number_in len (index_test ++ address_code base ++ item.Inst (AddReg 11 11 12 3) ∷ is) (omega arith)
      (index_in (address_code base ++ item.Inst (AddReg 11 11 12 3) ∷ is) (address_in base (item.Inst (AddReg 11 11 12 3) ∷ is) a ((lit< tt, (lit< tt, (lit< tt, (lit< tt, tt)))), rest))),
)

-- ---- functions

source_register : (params from : ℕ) → params ≤ 4 → cond (ltb from params) from 31 < 32
source_register params from few = by (ltb from params) refl where
  by : (t : Bool) → ltb from params ≡ t → cond t from 31 < 32
  by true is = let l : from < params = ltb-true from params is in omega arith
  by false is = omega arith

stores_fit : (leaf : Bool) (params from n : ℕ) (is : List Item) → params ≤ 4 → from + n ≤ 255 → AreItemsInRange is → AreItemsInRange (local_stores leaf params from n ++ is)
stores_fit leaf params from zero is few small rest = rest
stores_fit leaf params from (suc n) is few small rest =
    (store-range (cond (ltb from params) from 31) (home_of leaf from) (source_register params from few) (is-home leaf from (omega arith)), stores_fit leaf params (from + 1) n is few (omega arith) rest)

begin_in : (op : Option ℕ) → HasShortNumber op → AreItemsInRange (begin_code op)
begin_in None short = tt
begin_in (Some op) short = (tt, (movz_in 9 op (lit< tt) (short op refl), ((lit< tt, tt), tt)))

end_in : (op : Option ℕ) (is : List Item) → HasShortNumber op → AreItemsInRange is → AreItemsInRange (end_code op ++ is)
end_in None is short rest = rest
end_in (Some op) is short rest = (tt, (movz_in 9 op (lit< tt) (short op refl), ((lit< tt, tt), rest)))

-- ---- all

pub global_lines_are_in_range : GlobalLinesAreInRange
global_lines_are_in_range = record {
  load = λ x g hx hg. address_in g (item.Inst (Ldr 9 11 0) ∷ home_store 9 x ∷ []) hg (read_in, (store-range 9 x (lit< tt) hx, tt));
  store = λ g x hg hx. address_in g (home_load 9 x ∷ item.Inst (Str 9 11 0) ∷ []) hg (load-range 9 x (lit< tt) hx, (write_in, tt));
  ref = λ x l hx. (omega arith, (store-range 9 x (lit< tt) hx, tt));
  loadx = λ x base len i hx hb hl hi. element_in base len i (item.Inst (Ldr 9 11 0) ∷ home_store 9 x ∷ []) hb hl hi (read_in, (store-range 9 x (lit< tt) hx, tt));
  storex = λ base len i x hb hl hi hx. element_in base len i (home_load 9 x ∷ item.Inst (Str 9 11 0) ∷ []) hb hl hi (load-range 9 x (lit< tt) hx, (write_in, tt));
  critical_load = λ x g cell hx hg hc. (
    tt,
    address_in g (item.Inst (Ldr 10 11 0) ∷ item.Inst (Movz 9 0 cell) ∷ item.Inst (Svc 7) ∷ home_store 10 x ∷ []) hg
        ((lit< tt, (lit< tt, (lit< tt, tt))), (movz_in 9 cell (lit< tt) hc, ((lit< tt, tt), (store-range 10 x (lit< tt) hx, tt)))),
  );
  critical_store = λ g cell x hg hc hx. (
    load-range 10 x (lit< tt) hx,
    (
      tt,
      address_in g (item.Inst (Movz 9 0 cell) ∷ item.Inst (Str 10 11 0) ∷ item.Inst (Svc 6) ∷ []) hg
          (movz_in 9 cell (lit< tt) hc, ((lit< tt, (lit< tt, (lit< tt, tt))), ((lit< tt, tt), tt))),
    ),
  );
  critical_loadx = critical_loadx;
  critical_storex = critical_storex;
  start = λ leaf params locals op few small short. ((omega arith, (omega arith, (omega arith, tt))), ((lit< tt, (lit< tt, (lit< tt, tt))), stores_fit leaf params 0 locals (begin_code op) few (omega arith) (begin_in op short)));
  leave = λ locals from op small inside short. end_in op (return_code locals from) short (
    load-range 0 from (lit< tt) inside,
    ((lit< tt, (lit< tt, (lit< tt, tt))), ((omega arith, (omega arith, (omega arith, tt))), (tt, ((lit< tt, tt), ((omega arith, tt), tt))))),
  );
} where
  critical_loadx : (x : Home) (base cell len : ℕ) (i : Home) → IsHome x → base < 65536 → cell < 2 ^ 16 → len < 2 ^ 16 → IsHome i → AreItemsInRange (use_at_code x base cell len i)
  critical_loadx x base cell len i hx hb hc hl hi =
      let uses : List Item = item.Inst (LdrReg 10 11 12) ∷ item.Inst (Movz 9 0 cell) ∷ item.Inst (AddReg 9 9 12 0) ∷ item.Inst (Svc 7) ∷ home_store 10 x ∷ [] in
      (load-range 12 i (lit< tt) hi, (tt, test_in len (address_code base ++ uses) hl (address_in base uses hb ((lit< tt, (lit< tt, (lit< tt, tt))), (movz_in 9 cell (lit< tt) hc, (cell_in, ((lit< tt, tt), (store-range 10 x (lit< tt) hx, tt))))))))

  critical_storex : (base cell len : ℕ) (i x : Home) → base < 65536 → cell < 2 ^ 16 → len < 2 ^ 16 → IsHome i → IsHome x → AreItemsInRange (define_at_code base cell len i x)
  critical_storex base cell len i x hb hc hl hi hx =
      let defines : List Item = item.Inst (Movz 9 0 cell) ∷ item.Inst (AddReg 9 9 12 0) ∷ item.Inst (StrReg 10 11 12) ∷ item.Inst (Svc 6) ∷ [] in
      (load-range 12 i (lit< tt) hi, (load-range 10 x (lit< tt) hx, (tt, test_in len (address_code base ++ defines) hl (address_in base defines hb (movz_in 9 cell (lit< tt) hc, (cell_in, ((lit< tt, (lit< tt, (lit< tt, tt))), ((lit< tt, tt), tt))))))))
