-- The worked image: its words and rows, where the code of each line stands, and its data at the start.
use Rattle.std.proofs.Common.{◌≡◌, ◌^◌, ◌<◌, ◌≤◌, inl, inr, ℕ, zero, suc, Bool, true, false, cond, eqb, leb, pos, List, [], ◌∷◌, ◌++◌, take, Some, nat_eq, if◌then◌else◌, refl, sym, subst, ◌∙◌, arith}
use Rattle.std.proofs.Common.{lit<}
use Rattle.std.specs.{List.slice_get, List.list_all, Option.option_and_then}
use Rattle.std.proofs.lemmas.Bool.{leb-true, and_parts}
use Rattle.oat_mem.proofs.Words.{words_read_back, other_words_stay}
use Rattle.oat_frames.specs.{Inst, inst_of, is_word, Row, address_of, row_over, word_in, with_word, global_address, group_end, IsOver, start_memory, Code.CodeStands, Code.call_code, Code.prologue}
use Rattle.oat_frames.specs.{Frames.World, Frames.IsWorld, Frames.slot, Frames.register, Frames.GlobalsAt}
use Rattle.oat_frames.proofs.{FrameLaws.low-code, WorkedCode.is_encodable, WorkedCode.decodes_at, WorkedCode.over, WorkedCode.beyond}
use Rattle.oat_globals.specs.{Code.load_code, Code.store_code, Code.loadx_code, Code.storex_code, Code.ref_code, Code.use_code, Code.define_code, Code.use_at_code, Code.define_at_code}
use Rattle.oat_globals.specs.{Operations.begin_code, Operations.leave_code, Worked.main_insts, Worked.work_insts, Worked.none_insts, Worked.operation_map, Worked.operation_image}
use Rattle.oat_globals.specs.{Worked.operation_world}
use Rattle.oat_frames.specs.rows as rows

-- ---- the words

abbrev insts : List Inst
insts = main_insts ++ work_insts ++ none_insts

encodable : list_all is_encodable insts ≡ true
unfolding is_word
encodable = refl

stands : (k : ℕ) → option_and_then inst_of (slice_get operation_image.code k) ≡ slice_get insts k
stands = decodes_at insts encodable

-- ---- the rows

-- row k is over its group where those before it end before it
over_at : (all : List Row) (k : ℕ) (row : Row) → slice_get all k ≡ Some row → list_all (λ r. leb (group_end r) (address_of row)) (take k all) ≡ true → IsOver all row
over_at [] k row at before p low high = absurd (cc)
over_at (r ∷ rs) zero row at before p low high =
    let e : r ≡ row = cc in
    subst (λ (q : Row). row_over (q ∷ rs) p ≡ Some row) (sym e) (rw (over row p low high) refl)
over_at (r ∷ rs) (suc k) row at before p low high =
    let parts = and_parts (leb (group_end r) (address_of row)) (list_all (λ q. leb (group_end q) (address_of row)) (take k rs)) before in
    let l : group_end r ≤ address_of row = leb-true (group_end r) (address_of row) parts.0 in
    rw (beyond r p (omega arith)) (over_at rs k row at parts.1 p low high)

over0 : IsOver operation_map.rows (rows.Check 0x10050)
over0 = over_at operation_map.rows 0 (rows.Check 0x10050) refl refl

over1 : IsOver operation_map.rows (rows.Check 0x1007C)
over1 = over_at operation_map.rows 1 (rows.Check 0x1007C) refl refl

over2 : IsOver operation_map.rows (rows.Check 0x1009C)
over2 = over_at operation_map.rows 2 (rows.Check 0x1009C) refl refl

over3 : IsOver operation_map.rows (rows.Call 0x100AC 0x100BC)
over3 = over_at operation_map.rows 3 (rows.Call 0x100AC 0x100BC) refl refl

over4 : IsOver operation_map.rows (rows.Begin 0x100C8 1)
over4 = over_at operation_map.rows 4 (rows.Begin 0x100C8 1) refl refl

over5 : IsOver operation_map.rows (rows.UseAt 0x100D4 1 2)
over5 = over_at operation_map.rows 5 (rows.UseAt 0x100D4 1 2) refl refl

over6 : IsOver operation_map.rows (rows.DefAt 0x10108 1 2)
over6 = over_at operation_map.rows 6 (rows.DefAt 0x10108 1 2) refl refl

over7 : IsOver operation_map.rows (rows.UseCell 0x10130 0)
over7 = over_at operation_map.rows 7 (rows.UseCell 0x10130 0) refl refl

over8 : IsOver operation_map.rows (rows.DefCell 0x1014C 0)
over8 = over_at operation_map.rows 8 (rows.DefCell 0x1014C 0) refl refl

over9 : IsOver operation_map.rows (rows.End 0x10160 1)
over9 = over_at operation_map.rows 9 (rows.End 0x10160 1) refl refl

over10 : IsOver operation_map.rows (rows.Ret 0x10174)
over10 = over_at operation_map.rows 10 (rows.Ret 0x10174) refl refl

-- ---- the world

abbrev pub w : World
w = operation_world

below_all : (t : Bool) (a b n : ℕ) → a < n → b < n → cond t a b < n
below_all true a b n h l = h
below_all false a b n h l = l

pub is_world : IsWorld w
is_world = record {
  low = low-code operation_image (omega arith);
  labels = λ l. below_all (eqb l 0) 0x10000 (cond (eqb l 1) 0x100BC 0x1017C) (2 ^ 32) (lit< tt) (below_all (eqb l 1) 0x100BC 0x1017C (2 ^ 32) (lit< tt) (lit< tt));
  few = λ f. let l : cond (eqb f 0) 3 (cond (eqb f 1) 1 0) < 256 = below_all (eqb f 0) 3 (cond (eqb f 1) 1 0) 256 (lit< tt) (below_all (eqb f 1) 1 0 256 (lit< tt) (lit< tt)) in omega arith;
  globals = omega arith;
}

-- ---- the code of each line

pub main_starts : CodeStands w 0x10000 (prologue false 0 3)
main_starts = (stands 0, (stands 1, (stands 2, (stands 3, (stands 4, tt)))))

pub at_ref : CodeStands w 0x10014 (ref_code (slot 3) 2)
at_ref = ((stands 5, stands 6), (stands 7, tt))

pub at_store : CodeStands w 0x10020 (store_code 0 (slot 3))
at_store = (stands 8, (stands 9, (stands 10, (stands 11, tt))))

pub at_load : CodeStands w 0x10030 (load_code (slot 3) 0)
at_load = (stands 12, (stands 13, (stands 14, (stands 15, tt))))

pub at_storex : CodeStands w 0x10040 (storex_code 2 2 (slot 2) (slot 2))
at_storex = (stands 16, (stands 17, (stands 18, (stands 19, (over0, (stands 20, (stands 21, (stands 22, (stands 23, (stands 24, (stands 25, (stands 26, tt))))))))))))

pub at_loadx : CodeStands w 0x1006C (loadx_code (slot 1) 2 2 (slot 2))
at_loadx = (stands 27, (stands 28, (stands 29, (stands 30, (over1, (stands 31, (stands 32, (stands 33, (stands 34, (stands 35, (stands 36, (stands 37, tt))))))))))))

pub at_call : CodeStands w 0x10098 (call_code (0 ∷ []) 1 0)
at_call = (stands 38, (over2, (stands 39, (stands 40, (stands 41, (stands 42, (over3, ((pos 4, stands 43, refl), (stands 44, (stands 45, tt))))))))))

pub work_starts : CodeStands w 0x100BC (prologue true 1 1)
work_starts = (stands 47, (stands 48, (stands 49, tt)))

pub work_begins : CodeStands w 0x100C8 (begin_code (Some 1))
work_begins = (over4, (stands 50, (stands 51, tt)))

pub at_use_at : CodeStands w 0x100D0 (use_at_code (register 19) 4 1 2 (register 19))
at_use_at = (stands 52, (over5, (stands 53, (stands 54, (stands 55, (stands 56, (stands 57, (stands 58, (stands 59, (stands 60, (stands 61, (stands 62, (stands 63, tt)))))))))))))

pub at_define_at : CodeStands w 0x10100 (define_at_code 4 1 2 (register 19) (register 19))
at_define_at = (stands 64, (stands 65, (over6, (stands 66, (stands 67, (stands 68, (stands 69, (stands 70, (stands 71, (stands 72, (stands 73, (stands 74, (stands 75, tt)))))))))))))

pub at_use : CodeStands w 0x10130 (use_code (register 19) 1 0)
at_use = (over7, (stands 76, (stands 77, (stands 78, (stands 79, (stands 80, (stands 81, tt)))))))

pub at_define : CodeStands w 0x10148 (define_code 1 0 (register 19))
at_define = (stands 82, (over8, (stands 83, (stands 84, (stands 85, (stands 86, (stands 87, tt)))))))

pub at_leave : CodeStands w 0x10160 (leave_code 1 (register 19) (Some 1))
at_leave = (over9, (stands 88, (stands 89, (stands 90, (stands 91, (stands 92, (over10, (stands 93, (stands 94, tt)))))))))

-- ---- the words of global data at the start

abbrev pub first : ℕ → ℕ
first i = if nat_eq i 1 then 5 else (if nat_eq i 4 then 1 else 0)

abbrev one_word : ℕ → ℕ
one_word = with_word (λ b. 0) (global_address 1) 5

abbrev memory : ℕ → ℕ
memory = start_memory operation_image.words

nothing : (a : ℕ) → word_in (λ b. 0) a ≡ 0
unfolding word_in
nothing a = refl

pub first_words : GlobalsAt w memory first
first_words zero h = record {
  known = inl refl;
  is = other_words_stay one_word (global_address 4) 1 (global_address 0) (inr (omega arith)) ∙ other_words_stay (λ b. 0) (global_address 1) 5 (global_address 0) (inr (omega arith)) ∙ nothing (global_address 0);
}
first_words (suc zero) h = record { known = lit< tt; is = other_words_stay one_word (global_address 4) 1 (global_address 1) (inr (omega arith)) ∙ words_read_back (λ b. 0) (global_address 1) 5 (lit< tt) }
first_words (suc (suc zero)) h = record {
  known = lit< tt;
  is = other_words_stay one_word (global_address 4) 1 (global_address 2) (inr (omega arith)) ∙ other_words_stay (λ b. 0) (global_address 1) 5 (global_address 2) (inl (omega arith)) ∙ nothing (global_address 2);
}
first_words (suc (suc (suc zero))) h = record {
  known = lit< tt;
  is = other_words_stay one_word (global_address 4) 1 (global_address 3) (inr (omega arith)) ∙ other_words_stay (λ b. 0) (global_address 1) 5 (global_address 3) (inl (omega arith)) ∙ nothing (global_address 3);
}
first_words (suc (suc (suc (suc zero)))) h = record { known = lit< tt; is = words_read_back one_word (global_address 4) 1 (lit< tt) }
first_words (suc (suc (suc (suc (suc zero))))) h = record {
  known = lit< tt;
  is = other_words_stay one_word (global_address 4) 1 (global_address 5) (inl (omega arith)) ∙ other_words_stay (λ b. 0) (global_address 1) 5 (global_address 5) (inl (omega arith)) ∙ nothing (global_address 5);
}
first_words (suc (suc (suc (suc (suc (suc i)))))) h = absurd (omega arith)
