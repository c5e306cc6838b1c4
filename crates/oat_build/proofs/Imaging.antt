-- The image that is built of its parts, and what holds of each thing of a list that was gone through.
use Rattle.std.proofs.Common.{◌≡◌, ◌+◌, ◌<◌, ◌≤◌, ℕ, List, [], ◌∷◌, ◌++◌, length, get_or, take, map, refl, sym, ap, subst, ◌∙◌, inl, inr}
use Rattle.std.specs.Prelude.{Contains, ◌⊎◌}
use Rattle.std.proofs.Math.Path.{fun_ext}
use Rattle.std.proofs.lemmas.{List.take_all, List.Elements.Contains-append_cases}
use Rattle.oat_parts.proofs.Lists.{cons_cases, not_in_none}
use Rattle.oat_match.specs.{code_base, Map, Function, Block, Row, Image, InitWord, Item, Assembled, NoteAt, expansion, layout, row_of, label_address, SymbolTable, functions_of, blocks_of}
use Rattle.oat_match.specs.{built_address, built_image}
use Rattle.oat_build.proofs.SymbolLists.{take_next}

-- ---- each thing of a list

pub all_more : {X : Type 0} (P : X → Type 0) (xs : List X) (i : ℕ) (x : X) → i < length xs → x ≡ get_or xs i x → ((y : X) → Contains (take i xs) y → P y) → P x → (y : X) → Contains (take (i + 1) xs) y → P y
all_more P xs i x less is before here y has = elim (Contains-append_cases (take i xs) (x ∷ []) y (subst (λ ys. Contains ys y) (take_next xs i x less is) has)) [
  | inl front ↦ before y front
  | inr last ↦ elim (cons_cases x [] y last) [ inl same ↦ subst P same here | inr none ↦ absurd (not_in_none y none) ]
]

pub all_through : {X : Type 0} (P : X → Type 0) (xs : List X) (i : ℕ) → length xs ≤ i → ((y : X) → Contains (take i xs) y → P y) → (y : X) → Contains xs y → P y
all_through P xs i past each y has = each y (subst (λ ys. Contains ys y) (sym (take_all i xs past)) has)

-- ---- the image

abbrev an_image : List ℕ → List InitWord → List ℕ → List Function → List Block → List Row → Image
an_image code words cells functions blocks rows = record { code = code; words = words; cells = cells; map = record { functions = functions; blocks = blocks; rows = rows } }

abbrev rows_of : (ℕ → ℕ) → List NoteAt → List Row
rows_of address notes = map (λ (entry : NoteAt). row_of address entry.at entry.note) notes

pub whole_image : (t : SymbolTable) (marked items : List Item) (assembled : Assembled) (address : ℕ → ℕ) (words : List InitWord) (cells : List ℕ) (functions : List Function) (blocks : List Block) (rows : List Row)
    → items ≡ expansion marked → assembled ≡ layout items code_base → ((label : ℕ) → address label ≡ label_address items label)
    → words ≡ t.words → cells ≡ t.cells → functions ≡ functions_of address t.functions → blocks ≡ blocks_of address t.functions → rows ≡ rows_of address assembled.notes
    → an_image assembled.code words cells functions blocks rows ≡ built_image t marked
whole_image t marked items assembled address words cells functions blocks rows is laid placed w c f b r =
    let a : address ≡ built_address marked = fun_ext placed ∙ ap label_address is in
    let l : assembled ≡ layout (expansion marked) code_base = laid ∙ ap (λ (xs : List Item). layout xs code_base) is in
    ap (λ (xs : List InitWord). an_image assembled.code xs cells functions blocks rows) w
    ∙ ap (λ (xs : List ℕ). an_image assembled.code t.words xs functions blocks rows) c
    ∙ ap (λ (xs : List Function). an_image assembled.code t.words t.cells xs blocks rows) f
    ∙ ap (λ (xs : List Block). an_image assembled.code t.words t.cells (functions_of address t.functions) xs rows) b
    ∙ ap (λ (xs : List Row). an_image assembled.code t.words t.cells (functions_of address t.functions) (blocks_of address t.functions) xs) r
    ∙ ap (λ (g : ℕ → ℕ). an_image assembled.code t.words t.cells (functions_of g t.functions) (blocks_of g t.functions) (rows_of g assembled.notes)) a
    ∙ ap (λ (xs : Assembled). an_image xs.code t.words t.cells (functions_of (built_address marked) t.functions) (blocks_of (built_address marked) t.functions) (rows_of (built_address marked) xs.notes)) l
