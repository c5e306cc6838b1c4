-- The words of each line, by computing; those of a prologue by induction.
use Rattle.std.proofs.Common.{◌≡◌, ◌+◌, ℕ, Bool, zero, suc, nat_lt, if◌then◌else◌, [], ◌∷◌, ◌++◌, Option, Some, None, refl, ap, ◌∙◌, arith}
use Rattle.oat_asm.proofs.StandingItems.{words_of_two}
use Rattle.oat_frames.specs.{SubImm, Str, words_needed, Code.home_store, Code.local_stores, Code.prologue, Frames.Home, Frames.home_of, Frames.frame_size}
use Rattle.oat_globals.specs.{Operations.begin_code, Operations.leave_code, Operations.role_words, Sizes.WordsOfGlobalLines}
use Rattle.oat_asm.specs.declared.item.Item.TheVariants as item

store_words : (leaf : Bool) (params from n : ℕ) → words_needed (local_stores leaf params from n) ≡ n
store_words leaf params from zero = refl
store_words leaf params from (suc n) =
    words_of_two (home_store (if nat_lt from params then from else 31) (home_of leaf from) ∷ []) (local_stores leaf params (from + 1) n)
    ∙ ap (λ (k : ℕ). 1 + k) (store_words leaf params (from + 1) n) ∙ one_more n where
      one_more : (n : ℕ) → 1 + n ≡ suc n
      one_more n = omega arith

pub prologue_words : (leaf : Bool) (params locals : ℕ) → words_needed (prologue leaf params locals) ≡ 2 + locals
prologue_words leaf params locals =
    words_of_two (item.Inst (SubImm 31 31 (frame_size locals)) ∷ item.Inst (Str 30 31 0) ∷ []) (local_stores leaf params 0 locals)
    ∙ ap (λ (k : ℕ). 2 + k) (store_words leaf params 0 locals)

begin_words : (op : Option ℕ) → words_needed (begin_code op) ≡ role_words op
begin_words None = refl
begin_words (Some op) = refl

start_words : (leaf : Bool) (params locals : ℕ) (op : Option ℕ) → words_needed (prologue leaf params locals ++ begin_code op) ≡ 2 + locals + role_words op
start_words leaf params locals op =
    words_of_two (prologue leaf params locals) (begin_code op) ∙ ap (λ (k : ℕ). k + words_needed (begin_code op)) (prologue_words leaf params locals) ∙ ap (λ (k : ℕ). 2 + locals + k) (begin_words op)

leave_words : (locals : ℕ) (from : Home) (op : Option ℕ) → words_needed (leave_code locals from op) ≡ 5 + role_words op
leave_words locals from None = refl
leave_words locals from (Some op) = refl

pub words_of_global_lines : WordsOfGlobalLines
words_of_global_lines = record {
  load = λ x g. refl;
  store = λ g x. refl;
  ref = λ x l. refl;
  loadx = λ x base len i. refl;
  storex = λ base len i x. refl;
  critical_load = λ x g cell. refl;
  critical_store = λ g cell x. refl;
  critical_loadx = λ x base cell len i. refl;
  critical_storex = λ base cell len i x. refl;
  start = start_words;
  leave = leave_words;
}
