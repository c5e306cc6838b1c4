-- How many words each line has, and that the fields of its instructions fit.
use Rattle.std.proofs.Common.{◌≡◌, refl, ◌+◌, ◌^◌, ◌<◌, ◌≤◌, ℕ, ℤ, List, [], ◌∷◌, ◌++◌, arith, lit<}
use Rattle.oat_asm.proofs.StandingItems.{words_of_two}
use Rattle.oat_check.proofs.Bounds.{number_small}
use Rattle.oat_frames.specs.{Item, words_needed, AreItemsInRange, BinOp, Add, Sub, Mul, And, Or, Xor, Shl, Shr, Sar, Eq, Ne, Lt, Le, Ltu, Leu, Div, Rem, Divu, Remu, number, Frames.Home, Frames.slot}
use Rattle.oat_frames.specs.{Frames.register, Code.IsHome, Code.home_store}
use Rattle.oat_frames.proofs.FrameLaws.{load-range, store-range}
use Rattle.oat_locals.specs.{Code.operand_in, Code.operand_load, Code.operand_store, Code.operation_code, Code.const_code, Code.binary_code, Code.binary_words, Sizes.WordsOfLines}
use Rattle.oat_locals.specs.{Sizes.LinesAreInRange}

range-append : (is js : List Item) → AreItemsInRange is → AreItemsInRange js → AreItemsInRange (is ++ js)
range-append [] js h l = l
range-append (i ∷ is) js h l = (h.0, range-append is js h.1 l)

operation-range : (op : BinOp) (d a b : ℕ) → d < 32 → a < 32 → b < 32 → AreItemsInRange (operation_code op d a b)
operation-range Add d a b p q r = ((p, (q, (r, (lit< tt, tt)))), tt)
operation-range Sub d a b p q r = ((p, (q, (r, tt))), tt)
operation-range Mul d a b p q r = ((p, (q, (r, (lit< tt, tt)))), tt)
operation-range And d a b p q r = ((p, (q, (r, tt))), tt)
operation-range Or d a b p q r = ((p, (q, (r, tt))), tt)
operation-range Xor d a b p q r = ((p, (q, (r, tt))), tt)
operation-range Shl d a b p q r = ((p, (q, (r, tt))), tt)
operation-range Shr d a b p q r = ((p, (q, (r, tt))), tt)
operation-range Sar d a b p q r = ((p, (q, (r, tt))), tt)
operation-range Eq d a b p q r = ((lit< tt, (q, (r, tt))), ((p, (lit< tt, (lit< tt, (refl, tt)))), tt))
operation-range Ne d a b p q r = ((lit< tt, (q, (r, tt))), ((p, (lit< tt, (lit< tt, (refl, tt)))), tt))
operation-range Lt d a b p q r = ((lit< tt, (q, (r, tt))), ((p, (lit< tt, (lit< tt, (refl, tt)))), tt))
operation-range Le d a b p q r = ((lit< tt, (q, (r, tt))), ((p, (lit< tt, (lit< tt, (refl, tt)))), tt))
operation-range Ltu d a b p q r = ((lit< tt, (q, (r, tt))), ((p, (lit< tt, (lit< tt, (refl, tt)))), tt))
operation-range Leu d a b p q r = ((lit< tt, (q, (r, tt))), ((p, (lit< tt, (lit< tt, (refl, tt)))), tt))
operation-range Div d a b p q r = (tt, ((r, (lit< tt, tt)), ((lit< tt, tt), ((p, (q, (r, tt))), tt))))
operation-range Rem d a b p q r = (tt, ((r, (lit< tt, tt)), ((lit< tt, tt), ((lit< tt, (q, (r, tt))), ((p, (lit< tt, (r, (q, tt)))), tt)))))
operation-range Divu d a b p q r = (tt, ((r, (lit< tt, tt)), ((lit< tt, tt), ((p, (q, (r, tt))), tt))))
operation-range Remu d a b p q r = (tt, ((r, (lit< tt, tt)), ((lit< tt, tt), ((lit< tt, (q, (r, tt))), ((p, (lit< tt, (r, (q, tt)))), tt)))))

-- what an operand adds
load-then : (r : ℕ) (home : Home) (is : List Item) → r < 32 → IsHome home → AreItemsInRange is → AreItemsInRange (operand_load r home ++ is)
load-then r (slot k) is low fits rest = (load-range r (slot k) low fits, rest)
load-then r (register q) is low fits rest = rest

store-last : (r : ℕ) (home : Home) → r < 32 → IsHome home → AreItemsInRange (operand_store r home)
store-last r (slot k) low fits = (store-range r (slot k) low fits, tt)
store-last r (register q) low fits = tt

operand-low : (r : ℕ) (home : Home) → r < 32 → IsHome home → operand_in r home < 32
operand-low r (slot k) low fits = low
operand-low r (register q) low fits = omega arith

binary-range : (op : BinOp) (x y z : Home) → IsHome x → IsHome y → IsHome z → AreItemsInRange (binary_code op x y z)
binary-range op x y z h k l =
    load-then 9 y _ (lit< tt) k (load-then 10 z _ (lit< tt) l
    (range-append (operation_code op (operand_in 9 x) (operand_in 9 y) (operand_in 10 z)) (operand_store 9 x)
    (operation-range op (operand_in 9 x) (operand_in 9 y) (operand_in 10 z) (operand-low 9 x (lit< tt) h) (operand-low 9 y (lit< tt) k) (operand-low 10 z (lit< tt) l)) (store-last 9 x (lit< tt) h)))

const-range : (x : Home) (value : ℤ) → IsHome x → AreItemsInRange (const_code x value)
const-range x value h =
    let n : ℕ = number value in
    let small : n < 2 ^ 64 = number_small value in (
      (lit< tt, (lit< tt, (omega arith, tt))),
      (
        (lit< tt, (lit< tt, (omega arith, tt))),
        ((lit< tt, (lit< tt, (omega arith, tt))), ((lit< tt, (lit< tt, (omega arith, tt))), (store-range 9 x (lit< tt) h, tt))),
      ),
    )

pub lines-are-in-range : LinesAreInRange
lines-are-in-range = record {
  binary = binary-range;
  const = const-range;
  copy = λ x y h l. (load-range 9 y (lit< tt) l, (store-range 9 x (lit< tt) h, tt));
  input = λ x h. ((lit< tt, tt), (store-range 0 x (lit< tt) h, tt));
  output = λ x h. (load-range 0 x (lit< tt) h, ((lit< tt, tt), tt));
  jump = λ to. (tt, (tt, tt));
  branch = λ x first second h. (load-range 9 x (lit< tt) h, (tt, ((lit< tt, tt), (lit< tt, (tt, tt)))));
  halt = ((lit< tt, tt), tt);
}

-- an operand that has no register of its own takes a word
load-words : (r : ℕ) (home : Home) → words_needed (operand_load r home) ≤ 1
load-words r (slot k) = omega arith
load-words r (register q) = omega arith

store-words : (r : ℕ) (home : Home) → words_needed (operand_store r home) ≤ 1
store-words r (slot k) = omega arith
store-words r (register q) = omega arith

operation-words : (op : BinOp) (d a b : ℕ) → words_needed (operation_code op d a b) + 3 ≡ binary_words op
operation-words Add d a b = refl
operation-words Sub d a b = refl
operation-words Mul d a b = refl
operation-words And d a b = refl
operation-words Or d a b = refl
operation-words Xor d a b = refl
operation-words Shl d a b = refl
operation-words Shr d a b = refl
operation-words Sar d a b = refl
operation-words Eq d a b = refl
operation-words Ne d a b = refl
operation-words Lt d a b = refl
operation-words Le d a b = refl
operation-words Ltu d a b = refl
operation-words Leu d a b = refl
operation-words Div d a b = refl
operation-words Rem d a b = refl
operation-words Divu d a b = refl
operation-words Remu d a b = refl

words-of : (op : BinOp) (x y z : Home) → words_needed (binary_code op x y z) ≤ binary_words op
words-of op x y z =
    let code : List Item = operation_code op (operand_in 9 x) (operand_in 9 y) (operand_in 10 z) in
    let one = words_of_two (operand_load 9 y) (operand_load 10 z ++ (code ++ operand_store 9 x)) in
    let two = words_of_two (operand_load 10 z) (code ++ operand_store 9 x) in
    let three = words_of_two code (operand_store 9 x) in
    let first = load-words 9 y in
    let second = load-words 10 z in
    let last = store-words 9 x in
    let own = operation-words op (operand_in 9 x) (operand_in 9 y) (operand_in 10 z) in
    omega (arith, one, two, three, first, second, last, own)

few-words : (op : BinOp) → binary_words op ≤ 7
few-words Add = omega arith
few-words Sub = omega arith
few-words Mul = omega arith
few-words And = omega arith
few-words Or = omega arith
few-words Xor = omega arith
few-words Shl = omega arith
few-words Shr = omega arith
few-words Sar = omega arith
few-words Eq = omega arith
few-words Ne = omega arith
few-words Lt = omega arith
few-words Le = omega arith
few-words Ltu = omega arith
few-words Leu = omega arith
few-words Div = omega arith
few-words Rem = omega arith
few-words Divu = omega arith
few-words Remu = omega arith

pub words-of-lines : WordsOfLines
words-of-lines = record {
  binary = words-of;
  few = few-words;
  const = λ x value. refl;
  copy = λ x y. refl;
  input = λ x. refl;
  output = λ x. refl;
  jump = λ to. refl;
  branch = λ x first second. refl;
  halt = refl;
}
