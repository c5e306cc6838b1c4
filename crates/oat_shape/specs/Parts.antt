-- What each test of the shape rules looks at (docs/FORMATS.md, "Shape"): groups that lie one behind the other, operations
-- that begin and end, and blocks that lie in functions. Together they say what the rules say.
use Rattle.std.specs.{Prelude.◌≡◌, Prelude.◌+◌, Prelude.◌^◌, Prelude.◌<◌, Prelude.◌≤◌, Prelude.◌⊎◌, Prelude.◌||◌, Prelude.ℕ, Prelude.true, Prelude.false, Prelude.List, Prelude.slice_get, Prelude.Some}
use Rattle.std.specs.{Prelude.IsTrue, Prelude.Contains, Prelude.nat_le, List.position_or_len, BTreeSet.BTreeSet, BTreeSet.contains, Ordering.nat_cmp}
use Rattle.oat_a64.specs.{declared.inst.Inst.Inst, Fetch.inst_of, Kinds.is_measured, Kinds.is_transfer}
use Rattle.oat_image.specs.{Function, Block, Row, Begin, End, address_of, after, declared.image.Image.Image}
use Rattle.oat_shape.specs.{MapRules.S7, MapRules.S8, Shape.Covers, Shape.Everywhere, Shape.S5, Shape.S6}

-- ---- rows and their groups

-- the k-th row stands at or behind the end of the group of the row before it
abbrev pub IsBehind : List Row → ℕ → Row → Type 0
IsBehind rows k row = (j : ℕ) (before : Row) → j + 1 ≡ k → slice_get rows j ≡ Some before → after before ≤ address_of row

-- groups lie one behind the other
abbrev pub AreApart : List Row → Type 0
AreApart rows = (k : ℕ) (row : Row) → slice_get rows k ≡ Some row → IsBehind rows k row

-- addresses have 32 bits
abbrev pub AreWithin : List Row → Type 0
AreWithin rows = (row : Row) → Contains rows row → address_of row < 2 ^ 32

-- the end of the last group that begins below a place, or 0
pub record EndsBelow (rows : List Row) (place end : ℕ) : Type 0 where
  pub bounds : (row : Row) → Contains rows row → address_of row < place → after row ≤ end
  pub reached : (end ≡ 0) ⊎ ((row : Row) × Contains rows row × (address_of row < place) × (after row ≡ end))

abbrev pub IsCovered : List Row → ℕ → Type 0
IsCovered rows place = (row : Row) × Contains rows row × Covers row place

-- a word's instruction at a place needs no group, or stands in one
abbrev pub StandsInGroup : List Row → ℕ → ℕ → Type 0
StandsInGroup rows place word =
    (inst : Inst) → inst_of word ≡ Some inst → IsTrue (is_transfer inst || is_measured inst) → IsCovered rows place

-- ---- cells

abbrev pub AreIndices : List ℕ → Type 0
AreIndices cells = (index : ℕ) → Contains cells index → index ≤ 65535

-- ---- operations

-- two rows begin one operation
pub record BeginAlike (first second : Row) : Type 0 where
  pub at : ℕ
  pub other : ℕ
  pub op : ℕ
  pub one : first ≡ Begin at op
  pub again : second ≡ Begin other op

-- the k-th row begins no operation that a row before it begins
abbrev pub BeginsFirst : List Row → ℕ → Row → Type 0
BeginsFirst rows k row = (j : ℕ) (before : Row) → j < k → slice_get rows j ≡ Some before → BeginAlike before row → ⊥

-- if a row ends an operation, some row begins it
abbrev pub EndIsBegun : List Row → Row → Type 0
EndIsBegun rows row = (at op : ℕ) → row ≡ End at op → (b : ℕ) × Contains rows (Begin b op)

-- a row doesn't begin one of these operations
abbrev pub IsFresh : BTreeSet ℕ → Row → Type 0
IsFresh operations (Begin at op) = contains nat_cmp operations op ≡ false
IsFresh operations _ = Unit {0}

-- if a row ends an operation, it is one of these
abbrev pub EndIsIn : BTreeSet ℕ → Row → Type 0
EndIsIn operations (End at op) = contains nat_cmp operations op ≡ true
EndIsIn operations _ = Unit {0}

-- ---- names

-- two functions have one name
abbrev pub HaveOneName : Function → Function → Type 0
HaveOneName f g = f.name ≡ g.name

-- how many of the places, which rise, are below this one; of the entries, the last of them is that of its function
abbrev pub count_below : List ℕ → ℕ → ℕ
count_below places place = position_or_len (λ other. nat_le place other) places

-- two blocks of one function have one label
pub record HaveOneLabel (entries : List ℕ) (b c : Block) : Type 0 where
  pub function : count_below entries b.start ≡ count_below entries c.start
  pub label : b.label ≡ c.label

-- the k-th item clashes with none before it
abbrev pub IsFirst : {X : Type 0} → (X → X → Type 0) → List X → ℕ → X → Type 0
IsFirst {X} Clash items k x = (j : ℕ) (before : X) → j < k → slice_get items j ≡ Some before → Clash before x → ⊥

-- a place lies above an entry and at none
pub record LiesInFunction (entries : List ℕ) (place : ℕ) : Type 0 where
  pub above : (entry : ℕ) × Contains entries entry × (entry < place)
  pub apart : Contains entries place → ⊥

-- ---- the later rules

-- the rules from S5 on hold
pub record KeepsLaterRules (i : Image) : Type 0 where
  pub apart : Everywhere (S5 i)
  pub coded : Everywhere (S6 i)
  pub paired : Everywhere (S7 i.map)
  pub named : Everywhere (S8 i.map)
