-- Loads in the order of the words: each file is held within its limit, or the first that isn't decides (docs/FORMATS.md).
use Rattle.std.specs.Prelude.{◌≡◌, ◌<◌, ◌≤◌, ℕ, List, ◌∷◌, length, Some, None, IsSomeAnd, Option, []}
use Rattle.oat_first.specs.First.{First}
use Rattle.oat_world.specs.Outside.{Contents}
use Rattle.oat_page.specs.{Outcome.Outcome, Texts.read_fault, Texts.too_long}

-- a file that a command asks for
pub record Wanted : Type 0 where
  pub name : List ℕ
  pub limit : ℕ

-- a file of a command: the word that names it, the most bytes that it may have, and its text
pub record File : Type 0 where
  pub name : List ℕ
  pub limit : ℕ
  pub text : List ℕ

-- the names with their limits, in order
abbrev pub wanted_of : List (List ℕ) → List ℕ → List Wanted
wanted_of [] limits = []
wanted_of (name ∷ names) [] = []
wanted_of (name ∷ names) (limit ∷ limits) = record { name = name; limit = limit } ∷ wanted_of names limits

-- The file is held, with no more than its limit.
pub record IsLoaded (contents : Contents) (wanted : Wanted) (file : File) : Type 0 where
  pub named : file.name ≡ wanted.name
  pub limited : file.limit ≡ wanted.limit
  pub held : contents wanted.name ≡ Some file.text
  pub short : length file.text ≤ wanted.limit

-- The file isn't loaded: it isn't held, a read failed and the count rose, or it is too long.
pub data LoadFails (contents : Contents) (rose : Type 0) (wanted : Wanted) (o : Outcome) : Type 0 where
  absent : contents wanted.name ≡ None → o ≡ read_fault wanted.name → LoadFails contents rose wanted o
  faulted : rose → o ≡ read_fault wanted.name → LoadFails contents rose wanted o
  long : IsSomeAnd (contents wanted.name) (λ bytes. wanted.limit < length bytes) → o ≡ too_long wanted.name wanted.limit
      → LoadFails contents rose wanted o

abbrev pub AreLoaded : Contents → List Wanted → List File → Type 0
AreLoaded contents [] [] = Unit {0}
AreLoaded contents [] (file ∷ files) = ⊥
AreLoaded contents (wanted ∷ more) [] = ⊥
AreLoaded contents (wanted ∷ more) (file ∷ files) = IsLoaded contents wanted file × AreLoaded contents more files

-- The first of these files that isn't loaded decides.
abbrev pub LoadsFail : Contents → (rose : Type 0) → List Wanted → Outcome → Type 0
LoadsFail contents rose [] o = ⊥
LoadsFail contents rose (wanted ∷ more) o =
    First File Outcome (IsLoaded contents wanted) (LoadFails contents rose wanted) (λ file. LoadsFail contents rose more) o

-- what a call did to the files: what they tell, and the count of faults before and after
pub record Read : Type 0 where
  pub told : Option Contents
  pub before : ℕ
  pub after : ℕ

abbrev pub read_of : {F : Type 0} → (F → Option Contents) → (F → ℕ) → F → F → Read
read_of told faults old new = record { told = told old; before = faults old; after = faults new }
