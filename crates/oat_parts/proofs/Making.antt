-- Items that are made of parts, by construction.
use Rattle.std.proofs.Common.{◌≡◌, ℕ, ◌+◌, ◌≤◌, List, [], ◌∷◌, ◌++◌, length, refl, sym, ap, ◌∙◌, subst, Bool, true, false, arith}
use Rattle.std.specs.{List.AllByRecursion, Option.option_to_list}
use Rattle.std.proofs.lemmas.List.Concat.{flat_map-append}
use Rattle.oat_asm.specs.{declared.item.Item.Item, Items.item_words, Items.words_needed, Expansion.expanded, Expansion.expansion}
use Rattle.oat_asm.proofs.Giving.{words-append, words-flat}
use Rattle.oat_parts.specs.{Symbols.FunctionSymbol, Symbols.SymbolTable, Symbols.up_from, Symbols.own_labels, Symbols.labels_from, Symbols.operations_in, Parts.CodePart, Parts.label, Parts.items_of}
use Rattle.oat_parts.specs.{Parts.all_items, Parts.expanded_part, Parts.waits, Parts.MayFollow, Parts.IsCodePart, Parts.ArePaced, Parts.labels_in_part, Parts.labels_in, Parts.begun_by, Parts.begun_in}
use Rattle.oat_parts.specs.{Parts.IsMadeOfParts, Making.PartsJoin, Making.PartsBehindLabel, Making.FunctionCode, Making.blocks_code, Making.code_from, Making.IsStretch, Making.IsFunctionCode}
use Rattle.oat_parts.specs.{Making.AreCodes, Making.CodesAreInParts, Making.words_become, Making.WordsAdd, Making.blocks_words, Making.CodesHaveTheirWords}
use Rattle.oat_parts.proofs.{Lists.all_join, Views.all_words, Views.expanded_parts, Spacing.Sort, Spacing.labels, Spacing.worded, Spacing.sort}
use Rattle.oat_asm.specs.declared.item.Item.TheVariants as item

paced_join : (waiting : Bool) (xs ys : List CodePart) → ArePaced waiting xs → ArePaced false ys → ArePaced waiting (xs ++ ys)
paced_join waiting [] ys first second = subst (λ (w : Bool). ArePaced w ys) (sym first) second
paced_join waiting (x ∷ xs) ys first second = (first.0, paced_join (waits x) xs ys first.1 second)

pub join : PartsJoin
join t ls more begun also xs ys first second = record {
  parts = first.parts ++ second.parts;
  are = ap (λ (is : List Item). is ++ ys) first.are ∙ ap (λ (is : List Item). all_items first.parts ++ is) second.are ∙ sym (flat_map-append items_of first.parts second.parts);
  each = all_join (IsCodePart t) first.parts second.parts first.each second.each;
  paced = paced_join false first.parts second.parts first.paced second.paced;
  labelled = flat_map-append labels_in_part first.parts second.parts ∙ ap (λ (ns : List ℕ). ns ++ labels_in second.parts) first.labelled ∙ ap (λ (ns : List ℕ). ls ++ ns) second.labelled;
  begins = flat_map-append begun_by first.parts second.parts ∙ ap (λ (ns : List ℕ). ns ++ begun_in second.parts) first.begins ∙ ap (λ (ns : List ℕ). begun ++ ns) second.begins;
}

listed : (l : ℕ) (ls : List ℕ) → l ∷ ls ≡ [] → ⊥
listed l ls e = absurd cc

may_wait : (p : CodePart) (ps : List CodePart) → Sort p → labels_in (p ∷ ps) ≡ [] → MayFollow true p
may_wait p ps (labels l e) none = absurd (listed l (labels_in ps) (sym (ap (λ q. labels_in_part q ++ labels_in ps) e) ∙ none))
may_wait p ps (worded e some) none = follows p e where
  follows : (q : CodePart) → labels_in_part q ≡ [] → MayFollow true q
  follows (label l) e = absurd (listed l [] e)
  follows _ e = tt

-- parts without a label that have a word are what a label waits for
wait : (ps : List CodePart) → ArePaced false ps → labels_in ps ≡ [] → 1 ≤ all_words ps → ArePaced true ps
wait [] paced none some = absurd (omega arith)
wait (p ∷ ps) paced none some = (may_wait p ps (sort p) none, paced.1)

pub behind_label : PartsBehindLabel
behind_label t begun l items made some =
    let total = ap (λ (is : List Item). words_needed (expansion is)) made.are ∙ ap (λ (is : List Item). words_needed is) (expanded_parts made.parts) ∙ words-flat item_words expanded_part made.parts in
    record {
      parts = label l ∷ made.parts;
      are = ap (λ (is : List Item). item.Label l ∷ is) made.are;
      each = (tt, made.each);
      paced = (refl, wait made.parts made.paced made.labelled (omega arith));
      labelled = ap (λ (ns : List ℕ). l ∷ ns) made.labelled;
      begins = made.begins;
    }

none_made : (t : SymbolTable) → IsMadeOfParts t [] [] []
none_made t = record { parts = []; are = refl; each = tt; paced = refl; labelled = refl; begins = refl }

blocks_made : (t : SymbolTable) (n : ℕ) (bs : List (List Item)) → AllByRecursion (IsStretch t []) bs → IsMadeOfParts t (up_from n (length bs)) [] (blocks_code n bs)
blocks_made t n [] each = none_made t
blocks_made t n (b ∷ bs) each =
    join t (n ∷ []) (up_from (n + 1) (length bs)) [] [] (item.Label n ∷ b) (blocks_code (n + 1) bs)
    (behind_label t [] n b each.0.made each.0.word) (blocks_made t (n + 1) bs each.1)

from : (t : SymbolTable) (es : List FunctionSymbol) (cs : List FunctionCode) → AreCodes t es cs → IsMadeOfParts t (labels_from es) (operations_in es) (code_from es cs)
from t [] [] codes = none_made t
from t [] (c ∷ cs) codes = absurd codes
from t (e ∷ es) [] codes = absurd codes
from t (e ∷ es) (c ∷ cs) codes =
    let code : IsFunctionCode t e c = codes.0 in
    let count : length c.blocks ≡ length e.blocks = code.count in
    let blocks = subst (λ (k : ℕ). IsMadeOfParts t (up_from e.first k) [] (blocks_code e.first c.blocks)) count (blocks_made t e.first c.blocks code.blocks) in
    join t (e.label ∷ []) (own_labels e ++ labels_from es) (option_to_list e.operation) (operations_in es) (item.Label e.label ∷ c.prologue) (blocks_code e.first c.blocks ++ code_from es cs)
    (behind_label t (option_to_list e.operation) e.label c.prologue code.prologue.made code.prologue.word)
    (join t (own_labels e) (labels_from es) [] (operations_in es) (blocks_code e.first c.blocks) (code_from es cs) blocks (from t es cs codes.1))

pub codes_are_in_parts : CodesAreInParts
codes_are_in_parts t cs codes = from t t.functions cs codes

-- ---- words

pub words_add : WordsAdd
words_add xs ys =
    ap words_needed (flat_map-append expanded xs ys) ∙ words-append item_words (expansion xs) (expansion ys)

labelled_words : (l : ℕ) (xs ys : List Item) → words_become ((item.Label l ∷ xs) ++ ys) ≡ words_become xs + words_become ys
labelled_words l xs ys = nothing (words_become (xs ++ ys)) ∙ words_add xs ys where
  nothing : (n : ℕ) → 0 + n ≡ n
  nothing n = omega arith

blocks_have : (n : ℕ) (bs : List (List Item)) → words_become (blocks_code n bs) ≡ blocks_words bs
blocks_have n [] = refl
blocks_have n (b ∷ bs) = labelled_words n b (blocks_code (n + 1) bs) ∙ ap (λ (k : ℕ). words_become b + k) (blocks_have (n + 1) bs)

pub codes_have : CodesHaveTheirWords
codes_have t [] [] codes = refl
codes_have t [] (c ∷ cs) codes = absurd codes
codes_have t (e ∷ es) [] codes = absurd codes
codes_have t (e ∷ es) (c ∷ cs) codes =
    let front = labelled_words e.label c.prologue (blocks_code e.first c.blocks ++ code_from es cs) in
    let both = words_add (blocks_code e.first c.blocks) (code_from es cs) in
    let blocks = blocks_have e.first c.blocks in
    let rest = codes_have t es cs codes.1 in
    omega arith
