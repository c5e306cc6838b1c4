-- How many words the code of each line on global data has, of a function's start and of its return, and that the fields of their instructions fit.
use Rattle.std.specs.Prelude.{◌≡◌, ◌+◌, ◌^◌, ◌<◌, ◌≤◌, ℕ, Bool, Option}
use Rattle.oat_frames.specs.{words_needed, AreItemsInRange, Frames.Home, Code.IsHome}
use Rattle.oat_globals.specs.{Code.load_code, Code.store_code, Code.ref_code, Code.loadx_code, Code.storex_code, Code.use_code, Code.define_code, Code.use_at_code, Code.define_at_code}
use Rattle.oat_globals.specs.{Operations.start_code, Operations.leave_code, Operations.role_words, Operations.HasShortNumber}

pub record WordsOfGlobalLines : Type 0 where
  pub load : (x : Home) (g : ℕ) → words_needed (load_code x g) ≡ 4
  pub store : (g : ℕ) (x : Home) → words_needed (store_code g x) ≡ 4
  pub ref : (x : Home) (l : ℕ) → words_needed (ref_code x l) ≡ 3
  pub loadx : (x : Home) (base len : ℕ) (i : Home) → words_needed (loadx_code x base len i) ≡ 11
  pub storex : (base len : ℕ) (i x : Home) → words_needed (storex_code base len i x) ≡ 11
  pub critical_load : (x : Home) (g cell : ℕ) → words_needed (use_code x g cell) ≡ 6
  pub critical_store : (g cell : ℕ) (x : Home) → words_needed (define_code g cell x) ≡ 6
  pub critical_loadx : (x : Home) (base cell len : ℕ) (i : Home) → words_needed (use_at_code x base cell len i) ≡ 12
  pub critical_storex : (base cell len : ℕ) (i x : Home) → words_needed (define_at_code base cell len i x) ≡ 12
  pub start : (leaf : Bool) (params locals : ℕ) (op : Option ℕ) → words_needed (start_code leaf params locals op) ≡ 2 + locals + role_words op
  pub leave : (locals : ℕ) (from : Home) (op : Option ℕ) → words_needed (leave_code locals from op) ≡ 5 + role_words op

-- of a function with at most 255 locals and four parameters; words of global data and cells have numbers of 16 bits
pub record GlobalLinesAreInRange : Type 0 where
  pub load : (x : Home) (g : ℕ) → IsHome x → g < 65536 → AreItemsInRange (load_code x g)
  pub store : (g : ℕ) (x : Home) → g < 65536 → IsHome x → AreItemsInRange (store_code g x)
  pub ref : (x : Home) (l : ℕ) → IsHome x → AreItemsInRange (ref_code x l)
  pub loadx : (x : Home) (base len : ℕ) (i : Home) → IsHome x → base < 65536 → len ≤ 65536 → IsHome i → AreItemsInRange (loadx_code x base len i)
  pub storex : (base len : ℕ) (i x : Home) → base < 65536 → len ≤ 65536 → IsHome i → IsHome x → AreItemsInRange (storex_code base len i x)
  pub critical_load : (x : Home) (g cell : ℕ) → IsHome x → g < 65536 → cell < 2 ^ 16 → AreItemsInRange (use_code x g cell)
  pub critical_store : (g cell : ℕ) (x : Home) → g < 65536 → cell < 2 ^ 16 → IsHome x → AreItemsInRange (define_code g cell x)
  pub critical_loadx : (x : Home) (base cell len : ℕ) (i : Home) → IsHome x → base < 65536 → cell < 2 ^ 16 → len < 2 ^ 16 → IsHome i → AreItemsInRange (use_at_code x base cell len i)
  pub critical_storex : (base cell len : ℕ) (i x : Home) → base < 65536 → cell < 2 ^ 16 → len < 2 ^ 16 → IsHome i → IsHome x → AreItemsInRange (define_at_code base cell len i x)
  pub start : (leaf : Bool) (params locals : ℕ) (op : Option ℕ) → params ≤ 4 → locals ≤ 255 → HasShortNumber op → AreItemsInRange (start_code leaf params locals op)
  pub leave : (locals : ℕ) (from : Home) (op : Option ℕ) → locals ≤ 255 → IsHome from → HasShortNumber op → AreItemsInRange (leave_code locals from op)
