-- Functions and blocks listed one by one, and `main` first.
use Rattle.std.proofs.Common.{◌≡◌, ◌+◌, ◌-◌, ◌<◌, ◌≤◌, ℕ, zero, suc, List, [], ◌∷◌, ◌++◌, length, get_or, take, drop, map, refl, sym, ap, ◌∙◌, arith, append_assoc, length-append, length-drop}
use Rattle.std.proofs.Common.{length-take-le}
use Rattle.std.specs.List.{flat_map}
use Rattle.std.proofs.lemmas.{List.map-append, List.take_all, List.take_more, Grind.flat_map-append}
use Rattle.oat_match.specs.{Function, Block, Program, Func, BlockIr, FunctionSymbol, function_at, functions_of, blocks_from, blocks_of, block_names, symbol_for, symbols_from, symbols_of, all_symbols}
use Rattle.oat_match.specs.{main_at, with_first}

-- ---- one more

pub take_next : {X : Type 0} (xs : List X) (i : ℕ) (x : X) → i < length xs → x ≡ get_or xs i x → take (i + 1) xs ≡ take i xs ++ x ∷ []
take_next xs i x less is = take_more xs i x less ∙ ap (λ y. take i xs ++ y ∷ []) (sym is)

names_many : (blocks : List BlockIr) → length (map (λ (block : BlockIr). block.label) blocks) ≡ length blocks
names_many [] = refl
names_many (b ∷ bs) = ap suc (names_many bs)

empty_behind : {X : Type 0} (xs : List X) → xs ++ [] ≡ xs
empty_behind [] = refl
empty_behind (x ∷ xs) = ap (λ ys. x ∷ ys) (empty_behind xs)

pub count_more : (funcs : List Func) (i : ℕ) (func : Func) → i < length funcs → func ≡ get_or funcs i func
    → length (flat_map block_names (take (i + 1) funcs)) ≡ length (flat_map block_names (take i funcs)) + length func.blocks
count_more funcs i func less is =
    ap (λ (gs : List Func). length (flat_map block_names gs)) (take_next funcs i func less is)
    ∙ ap length (flat_map-append block_names (take i funcs) (func ∷ []))
    ∙ length-append (flat_map block_names (take i funcs)) (block_names func ++ [])
    ∙ ap (λ (names : List (List ℕ)). length (flat_map block_names (take i funcs)) + length names) (empty_behind (block_names func))
    ∙ ap (λ (n : ℕ). length (flat_map block_names (take i funcs)) + n) (names_many func.blocks)

pub count_least : (funcs : List Func) (i : ℕ) → length (flat_map block_names (take i funcs)) ≤ length (flat_map block_names funcs)
count_least [] zero = omega arith
count_least [] (suc i) = omega arith
count_least (g ∷ gs) zero = omega arith
count_least (g ∷ gs) (suc i) =
    let one = length-append (block_names g) (flat_map block_names (take i gs)) in
    let all = length-append (block_names g) (flat_map block_names gs) in
    omega (arith, one, all, count_least gs i)

blocks_join : (address : ℕ → ℕ) (n : ℕ) (xs : List (List ℕ)) (name : List ℕ) → blocks_from address n (xs ++ name ∷ []) ≡ blocks_from address n xs ++ record { start = address (n + length xs); label = name } ∷ []
blocks_join address n [] name = ap (λ (k : ℕ). record { start = address k; label = name } ∷ []) (omega arith)
blocks_join address n (x ∷ xs) name =
    let behind : n + 1 + length xs ≡ n + suc (length xs) = omega arith in
    ap (λ (bs : List Block). record { start = address n; label = x } ∷ bs) (blocks_join address (n + 1) xs name ∙ ap (λ (k : ℕ). blocks_from address (n + 1) xs ++ record { start = address k; label = name } ∷ []) behind)

pub blocks_more : (address : ℕ → ℕ) (n i : ℕ) (blocks : List BlockIr) (block : BlockIr) → i < length blocks → block ≡ get_or blocks i block
    → blocks_from address n (map (λ (b : BlockIr). b.label) (take (i + 1) blocks)) ≡ blocks_from address n (map (λ (b : BlockIr). b.label) (take i blocks)) ++ record { start = address (n + i); label = block.label } ∷ []
blocks_more address n i blocks block less is =
    let name = λ (b : BlockIr). b.label in
    let many : length (map name (take i blocks)) ≡ i = names_many (take i blocks) ∙ length-take-le i blocks (omega arith) in
    ap (λ (bs : List BlockIr). blocks_from address n (map name bs)) (take_next blocks i block less is)
    ∙ ap (blocks_from address n) (map-append name (take i blocks) (block ∷ []))
    ∙ blocks_join address n (map name (take i blocks)) block.label
    ∙ ap (λ (k : ℕ). blocks_from address n (map name (take i blocks)) ++ record { start = address (n + k); label = block.label } ∷ []) many

symbols_join : (p : Program) (f n : ℕ) (xs : List Func) (func : Func) → symbols_from p f n (xs ++ func ∷ []) ≡ symbols_from p f n xs ++ symbol_for p (f + length xs) (n + length (flat_map block_names xs)) func ∷ []
symbols_join p f n [] func =
    let a : f ≡ f + 0 = omega arith in
    let b : n ≡ n + 0 = omega arith in
    ap (λ (k : ℕ). symbol_for p k n func ∷ []) a ∙ ap (λ (k : ℕ). symbol_for p (f + 0) k func ∷ []) b
symbols_join p f n (x ∷ xs) func =
    let count = length-append (block_names x) (flat_map block_names xs) in
    let a : f + 1 + length xs ≡ f + suc (length xs) = omega arith in
    let b : n + length (block_names x) + length (flat_map block_names xs) ≡ n + length (flat_map block_names (x ∷ xs)) = omega arith in
    let rest = symbols_from p (f + 1) (n + length (block_names x)) xs in
    ap (λ (es : List FunctionSymbol). symbol_for p f n x ∷ es)
    (symbols_join p (f + 1) (n + length (block_names x)) xs func
    ∙ ap (λ (k : ℕ). rest ++ symbol_for p k (n + length (block_names x) + length (flat_map block_names xs)) func ∷ []) a
    ∙ ap (λ (k : ℕ). rest ++ symbol_for p (f + suc (length xs)) k func ∷ []) b)

pub symbols_more : (p : Program) (f n i : ℕ) (funcs : List Func) (func : Func) → i < length funcs → func ≡ get_or funcs i func
    → symbols_from p f n (take (i + 1) funcs) ≡ symbols_from p f n (take i funcs) ++ symbol_for p (f + i) (n + length (flat_map block_names (take i funcs))) func ∷ []
symbols_more p f n i funcs func less is =
    let many : length (take i funcs) ≡ i = length-take-le i funcs (omega arith) in
    ap (symbols_from p f n) (take_next funcs i func less is) ∙ symbols_join p f n (take i funcs) func
    ∙ ap (λ (k : ℕ). symbols_from p f n (take i funcs) ++ symbol_for p (f + k) (n + length (flat_map block_names (take i funcs))) func ∷ []) many

-- the functions and blocks of one symbol more
pub functions_more : (address : ℕ → ℕ) (p : Program) (f n i number label : ℕ) (funcs : List Func) (func : Func) (start old new : List Function) → i < length funcs → func ≡ get_or funcs i func
    → number ≡ f + i → label ≡ n + length (flat_map block_names (take i funcs)) → old ≡ start ++ functions_of address (symbols_from p f n (take i funcs)) → new ≡ old ++ function_at address (symbol_for p number label func) ∷ []
    → new ≡ start ++ functions_of address (symbols_from p f n (take (i + 1) funcs))
functions_more address p f n i number label funcs func start old new less is numbered labelled before pushed =
    let here = symbols_from p f n (take i funcs) in
    let e = symbol_for p (f + i) (n + length (flat_map block_names (take i funcs))) func in
    pushed ∙ ap (λ (xs : List Function). xs ++ function_at address (symbol_for p number label func) ∷ []) before
    ∙ ap (λ (k : ℕ). (start ++ functions_of address here) ++ function_at address (symbol_for p k label func) ∷ []) numbered
    ∙ ap (λ (k : ℕ). (start ++ functions_of address here) ++ function_at address (symbol_for p (f + i) k func) ∷ []) labelled
    ∙ append_assoc start (functions_of address here) (function_at address e ∷ [])
    ∙ ap (λ (xs : List Function). start ++ xs) (sym (map-append (function_at address) here (e ∷ [])))
    ∙ ap (λ (es : List FunctionSymbol). start ++ functions_of address es) (sym (symbols_more p f n i funcs func less is))

abbrev own_blocks : (ℕ → ℕ) → FunctionSymbol → List Block
own_blocks address e = blocks_from address e.first e.blocks

pub all_blocks_more : (address : ℕ → ℕ) (p : Program) (f n i label : ℕ) (funcs : List Func) (func : Func) (start old new : List Block) → i < length funcs → func ≡ get_or funcs i func
    → label ≡ n + length (flat_map block_names (take i funcs)) → old ≡ start ++ blocks_of address (symbols_from p f n (take i funcs)) → new ≡ old ++ blocks_from address label (block_names func)
    → new ≡ start ++ blocks_of address (symbols_from p f n (take (i + 1) funcs))
all_blocks_more address p f n i label funcs func start old new less is labelled before pushed =
    let here = symbols_from p f n (take i funcs) in
    let e = symbol_for p (f + i) (n + length (flat_map block_names (take i funcs))) func in
    pushed ∙ ap (λ (xs : List Block). xs ++ blocks_from address label (block_names func)) before
    ∙ ap (λ (k : ℕ). (start ++ blocks_of address here) ++ blocks_from address k (block_names func)) labelled
    ∙ append_assoc start (blocks_of address here) (own_blocks address e)
    ∙ ap (λ (xs : List Block). start ++ (blocks_of address here ++ xs)) (sym (empty_behind (own_blocks address e)))
    ∙ ap (λ (xs : List Block). start ++ xs) (sym (flat_map-append (own_blocks address) here (e ∷ [])))
    ∙ ap (λ (es : List FunctionSymbol). start ++ blocks_of address es) (sym (symbols_more p f n i funcs func less is))

-- ---- main first

symbols_front : (p : Program) (f n m : ℕ) (funcs : List Func) → take m (symbols_from p f n funcs) ≡ symbols_from p f n (take m funcs)
symbols_front p f n zero funcs = refl
symbols_front p f n (suc m) [] = refl
symbols_front p f n (suc m) (g ∷ gs) = ap (λ (es : List FunctionSymbol). symbol_for p f n g ∷ es) (symbols_front p (f + 1) (n + length (block_names g)) m gs)

symbols_back : (p : Program) (f n m : ℕ) (funcs : List Func) → m ≤ length funcs → drop m (symbols_from p f n funcs) ≡ symbols_from p (f + m) (n + length (flat_map block_names (take m funcs))) (drop m funcs)
symbols_back p f n zero funcs within =
    let a : f ≡ f + 0 = omega arith in
    let b : n ≡ n + 0 = omega arith in
    ap (λ (k : ℕ). symbols_from p k n funcs) a ∙ ap (λ (k : ℕ). symbols_from p (f + 0) k funcs) b
symbols_back p f n (suc m) [] within = absurd (omega arith)
symbols_back p f n (suc m) (g ∷ gs) within =
    let count = length-append (block_names g) (flat_map block_names (take m gs)) in
    let a : f + 1 + m ≡ f + suc m = omega arith in
    let b : n + length (block_names g) + length (flat_map block_names (take m gs)) ≡ n + length (flat_map block_names (take (suc m) (g ∷ gs))) = omega arith in
    symbols_back p (f + 1) (n + length (block_names g)) m gs (omega arith)
    ∙ ap (λ (k : ℕ). symbols_from p k (n + length (block_names g) + length (flat_map block_names (take m gs))) (drop m gs)) a
    ∙ ap (λ (k : ℕ). symbols_from p (f + suc m) k (drop m gs)) b

-- ---- the whole table

same_block : (b : Block) (start : ℕ) (label : List ℕ) → b.start ≡ start → b.label ≡ label → b ≡ record { start = start; label = label }
same_block b start label s l = ap (λ (n : ℕ). record { start = n; label = b.label }) s ∙ ap (λ (name : List ℕ). record { start = start; label = name }) l

pub blocks_step : (address : ℕ → ℕ) (n i label : ℕ) (blocks : List BlockIr) (block : BlockIr) (pushed : Block) (start old new : List Block) → i < length blocks → block ≡ get_or blocks i block
    → pushed.start ≡ address label → pushed.label ≡ block.label → label ≡ n + i → old ≡ start ++ blocks_from address n (map (λ (b : BlockIr). b.label) (take i blocks)) → new ≡ old ++ pushed ∷ []
    → new ≡ start ++ blocks_from address n (map (λ (b : BlockIr). b.label) (take (i + 1) blocks))
blocks_step address n i label blocks block pushed start old new less is at named numbered before more =
    let here = blocks_from address n (map (λ (b : BlockIr). b.label) (take i blocks)) in
    let one : pushed ≡ record { start = address (n + i); label = block.label } = same_block pushed (address (n + i)) block.label (at ∙ ap address numbered) named in
    more ∙ ap (λ (bs : List Block). bs ++ pushed ∷ []) before ∙ ap (λ (b : Block). (start ++ here) ++ b ∷ []) one
    ∙ append_assoc start here (record { start = address (n + i); label = block.label } ∷ [])
    ∙ ap (λ (bs : List Block). start ++ bs) (sym (blocks_more address n i blocks block less is))

-- main alone, the functions before it, and those behind it
pub in_three : (p : Program) (m : ℕ) → m < length p.funcs → with_first m (all_symbols p)
    ≡ symbols_from p m (length p.funcs + length (flat_map block_names (take m p.funcs))) (take (m + 1 - m) (drop m p.funcs))
    ++ (symbols_from p 0 (length p.funcs) (take (m - 0) (drop 0 p.funcs)) ++ symbols_from p (m + 1) (length p.funcs + length (flat_map block_names (take (m + 1) p.funcs))) (take (length p.funcs - (m + 1)) (drop (m + 1) p.funcs)))
in_three p m less =
    let n = length p.funcs in
    let es = all_symbols p in
    let one : m + 1 - m ≡ 1 = omega arith in
    let none : m - 0 ≡ m = omega arith in
    let first : 0 + m ≡ m = omega arith in
    let next : 0 + (m + 1) ≡ m + 1 = omega arith in
    let back : take (n - (m + 1)) (drop (m + 1) p.funcs) ≡ drop (m + 1) p.funcs = take_all (n - (m + 1)) (drop (m + 1) p.funcs) (let l = length-drop (m + 1) p.funcs in omega arith) in
    let main : take 1 (drop m es) ≡ symbols_from p m (n + length (flat_map block_names (take m p.funcs))) (take (m + 1 - m) (drop m p.funcs)) =
    ap (take 1) (symbols_back p 0 n m p.funcs (omega arith)) ∙ symbols_front p (0 + m) (n + length (flat_map block_names (take m p.funcs))) 1 (drop m p.funcs)
    ∙ ap (λ (k : ℕ). symbols_from p k (n + length (flat_map block_names (take m p.funcs))) (take 1 (drop m p.funcs))) first
    ∙ ap (λ (k : ℕ). symbols_from p m (n + length (flat_map block_names (take m p.funcs))) (take k (drop m p.funcs))) (sym one) in
    let before : take m es ≡ symbols_from p 0 n (take (m - 0) (drop 0 p.funcs)) = symbols_front p 0 n m p.funcs ∙ ap (λ (k : ℕ). symbols_from p 0 n (take k p.funcs)) (sym none) in
    let behind : drop (m + 1) es ≡ symbols_from p (m + 1) (n + length (flat_map block_names (take (m + 1) p.funcs))) (take (n - (m + 1)) (drop (m + 1) p.funcs)) =
    symbols_back p 0 n (m + 1) p.funcs (omega arith)
    ∙ ap (λ (k : ℕ). symbols_from p k (n + length (flat_map block_names (take (m + 1) p.funcs))) (drop (m + 1) p.funcs)) next
    ∙ ap (symbols_from p (m + 1) (n + length (flat_map block_names (take (m + 1) p.funcs)))) (sym back) in
    ap (λ (xs : List FunctionSymbol). xs ++ (take m es ++ drop (m + 1) es)) main
    ∙ ap (λ (xs : List FunctionSymbol). symbols_from p m (n + length (flat_map block_names (take m p.funcs))) (take (m + 1 - m) (drop m p.funcs)) ++ (xs ++ drop (m + 1) es)) before
    ∙ ap (λ (xs : List FunctionSymbol). symbols_from p m (n + length (flat_map block_names (take m p.funcs))) (take (m + 1 - m) (drop m p.funcs)) ++ (symbols_from p 0 n (take (m - 0) (drop 0 p.funcs)) ++ xs)) behind

-- what is listed of three lists of symbols, one behind the other
listed_in_three : {X : Type 0} (list : List FunctionSymbol → List X) → ((xs ys : List FunctionSymbol) → list (xs ++ ys) ≡ list xs ++ list ys) → (xs ys zs : List FunctionSymbol) (one two three : List X)
    → one ≡ list xs → two ≡ one ++ list ys → three ≡ two ++ list zs → three ≡ list (xs ++ (ys ++ zs))
listed_in_three list join xs ys zs one two three first second third =
    third ∙ ap (λ all. all ++ list zs) (second ∙ ap (λ all. all ++ list ys) first) ∙ append_assoc (list xs) (list ys) (list zs) ∙ sym (join xs (ys ++ zs) ∙ ap (λ all. list xs ++ all) (join ys zs))

pub functions_join : (address : ℕ → ℕ) (xs ys : List FunctionSymbol) → functions_of address (xs ++ ys) ≡ functions_of address xs ++ functions_of address ys
functions_join address xs ys = map-append (function_at address) xs ys

pub all_blocks_join : (address : ℕ → ℕ) (xs ys : List FunctionSymbol) → blocks_of address (xs ++ ys) ≡ blocks_of address xs ++ blocks_of address ys
all_blocks_join address xs ys = flat_map-append (own_blocks address) xs ys

module _ {X : Type 0} (list : List FunctionSymbol → List X) (join : (xs ys : List FunctionSymbol) → list (xs ++ ys) ≡ list xs ++ list ys) where
  pub listed_whole : (p : Program) (m n label behind : ℕ) (start one two three : List X) → m ≡ main_at p → m < length p.funcs → n ≡ length p.funcs
      → label ≡ n + length (flat_map block_names (take m p.funcs)) → behind ≡ n + length (flat_map block_names (take (m + 1) p.funcs)) → start ≡ []
      → one ≡ start ++ list (symbols_from p m label (take (m + 1 - m) (drop m p.funcs))) → two ≡ one ++ list (symbols_from p 0 n (take (m - 0) (drop 0 p.funcs)))
      → three ≡ two ++ list (symbols_from p (m + 1) behind (take (n - (m + 1)) (drop (m + 1) p.funcs))) → three ≡ list (symbols_of p).functions
  listed_whole p m n label behind start one two three main within many labelled next none first second third =
      let xs = symbols_from p m (length p.funcs + length (flat_map block_names (take m p.funcs))) (take (m + 1 - m) (drop m p.funcs)) in
      let ys = symbols_from p 0 (length p.funcs) (take (m - 0) (drop 0 p.funcs)) in
      let zs = symbols_from p (m + 1) (length p.funcs + length (flat_map block_names (take (m + 1) p.funcs))) (take (length p.funcs - (m + 1)) (drop (m + 1) p.funcs)) in
      let is_label : label ≡ length p.funcs + length (flat_map block_names (take m p.funcs)) = omega arith in
      let is_next : behind ≡ length p.funcs + length (flat_map block_names (take (m + 1) p.funcs)) = omega arith in
      let a : one ≡ list xs = first ∙ ap (λ all. all ++ list (symbols_from p m label (take (m + 1 - m) (drop m p.funcs)))) none ∙ ap (λ (k : ℕ). list (symbols_from p m k (take (m + 1 - m) (drop m p.funcs)))) is_label in
      let b : two ≡ one ++ list ys = second ∙ ap (λ (k : ℕ). one ++ list (symbols_from p 0 k (take (m - 0) (drop 0 p.funcs)))) many in
      let c : three ≡ two ++ list zs =
      third ∙ ap (λ (k : ℕ). two ++ list (symbols_from p (m + 1) k (take (n - (m + 1)) (drop (m + 1) p.funcs)))) is_next
      ∙ ap (λ (k : ℕ). two ++ list (symbols_from p (m + 1) (length p.funcs + length (flat_map block_names (take (m + 1) p.funcs))) (take (k - (m + 1)) (drop (m + 1) p.funcs)))) many in
      listed_in_three list join xs ys zs one two three a b c ∙ ap list (sym (in_three p m within)) ∙ ap (λ (k : ℕ). list (with_first k (all_symbols p))) main

-- ---- numbers of blocks in parts of the functions

pub count_back : (funcs : List Func) (m : ℕ) → length (flat_map block_names (drop m funcs)) ≤ length (flat_map block_names funcs)
count_back funcs zero = omega arith
count_back [] (suc m) = omega arith
count_back (g ∷ gs) (suc m) = let all = length-append (block_names g) (flat_map block_names gs) in omega (arith, all, count_back gs m)
