-- What stands before the branch of a call, and how many words it has.
use Rattle.std.proofs.Common.{◌≡◌, ◌+◌, ℕ, suc, List, [], ◌∷◌, ◌++◌, length, refl, ap, ◌∙◌, arith}
use Rattle.std.specs.Prelude.{pos}
use Rattle.oat_asm.proofs.StandingItems.{words_of_two}
use Rattle.oat_globals.specs.{AddImm, BCond, Blr, Brk, Cbnz, Ldr, SubsImm, Svc, Bl, Item, words_needed, argument_loads, behind_call, call_code, icall_code}
use Rattle.oat_asm.specs.declared.item.Item.TheVariants as item
use Rattle.oat_asm.specs.declared.note.Note.TheVariants as note

-- the depth test and the count
abbrev pub depth_test : List Item
depth_test = item.Inst (SubsImm 31 28 256) ∷ item.Note note.Check ∷ item.Inst (BCond 3 (pos 2)) ∷ item.Inst (Brk 4) ∷ item.Inst (AddImm 28 28 1) ∷ []

-- the test of a reference
abbrev pub null_test : ℕ → List Item
null_test from = item.Inst (Ldr 9 31 (from + 1)) ∷ item.Note note.Check ∷ item.Inst (Cbnz 9 (pos 2)) ∷ item.Inst (Brk 3) ∷ []

-- behind them the arguments: a call is these items and then its group
abbrev pub before_call : List ℕ → List Item
before_call args = depth_test ++ argument_loads 0 args

abbrev pub before_icall : ℕ → List ℕ → List Item
before_icall from args = null_test from ++ before_call args

load_words : (r : ℕ) (args : List ℕ) → words_needed (argument_loads r args) ≡ length args
load_words r [] = refl
load_words r (k ∷ ks) =
    words_of_two (item.Inst (Ldr r 31 (k + 1)) ∷ []) (argument_loads (r + 1) ks) ∙ ap (λ (n : ℕ). 1 + n) (load_words (r + 1) ks) ∙ one_more (length ks) where
      one_more : (n : ℕ) → 1 + n ≡ suc n
      one_more n = omega arith

pub words_before_call : (args : List ℕ) → words_needed (before_call args) ≡ 4 + length args
words_before_call args = words_of_two depth_test (argument_loads 0 args) ∙ ap (λ (n : ℕ). 4 + n) (load_words 0 args)

pub words_before_icall : (from : ℕ) (args : List ℕ) → words_needed (before_icall from args) ≡ 3 + (4 + length args)
words_before_icall from args = words_of_two (null_test from) (before_call args) ∙ ap (λ (n : ℕ). 3 + n) (words_before_call args)

pub call_words : (args : List ℕ) (callee result : ℕ) → words_needed (call_code args callee result) ≡ 4 + length args + 3
call_words args callee result =
    words_of_two (before_call args) (item.Note (note.Call callee) ∷ item.BranchTo Bl callee ∷ behind_call result) ∙ ap (λ (n : ℕ). n + 3) (words_before_call args)

pub icall_words : (args : List ℕ) (from result : ℕ) → words_needed (icall_code args from result) ≡ 3 + (4 + length args) + 4
icall_words args from result =
    words_of_two (before_icall from args) (item.Note (note.ICall (length args)) ∷ item.Inst (Svc 4) ∷ item.Inst (Blr 9) ∷ behind_call result)
    ∙ ap (λ (n : ℕ). n + 4) (words_before_icall from args)
