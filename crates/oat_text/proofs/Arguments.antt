-- Reading the arguments of a call one after the other.
use Rattle.std.proofs.Common.{◌≡◌, ℕ, suc, ◌+◌, ◌-◌, ◌<◌, ◌≤◌, List, [], ◌∷◌, ◌++◌, length, take, set, Result, Ok, Err, refl, sym, ap, ◌∙◌, append_assoc, arith}
use Rattle.std.proofs.lemmas.List.{take_more_set, append-nil, length-set, length-take}
use Rattle.oat_lines.specs.{Reading.◌>>=◌, Lines.TextWord}
use Rattle.oat_text.specs.{declared.fault.TextFaultKind.TextFaultKind, declared.fault.TextFaultKind.TheVariants.Unknown, Bodies.Scope, Bodies.argument, Bodies.arguments}

abbrev Read : Type 0
Read = Result (List ℕ) TextFaultKind

-- what is read, behind these
abbrev pub behind : List ℕ → Read → Read
behind front read = read >>= λ xs. Ok (front ++ xs)

-- what is left to read gives what the words give
pub record Reads (s : Scope) (locals : List ℕ) (len : ℕ) (rest words : List TextWord) : Type 0 where
  pub so_far : behind (take len locals) (arguments s (4 - len) rest) ≡ arguments s 4 words
  pub few : len ≤ 4
  pub room : length locals ≡ 4

behind_one : (front : List ℕ) (x : ℕ) (r : Read) → behind front (r >>= λ xs. Ok (x ∷ xs)) ≡ behind (front ++ x ∷ []) r
behind_one front x (Ok xs) = ap Ok (sym (append_assoc front (x ∷ []) xs))
behind_one front x (Err e) = refl

module _ (s : Scope) (locals : List ℕ) (len : ℕ) (rest words : List TextWord) (reads : Reads s locals len rest words) where
  pub next_argument : (word : TextWord) (after : List TextWord) (x : ℕ) → rest ≡ word ∷ after → argument s word ≡ Ok x → len < 4
      → Reads s (set locals len x) (len + 1) after words
  unfolding arguments
  next_argument word after x cut is room =
      let within : len < length locals = (let all = reads.room in omega arith) in
      let more : take (len + 1) (set locals len x) ≡ take len locals ++ x ∷ [] = take_more_set locals len x within in
      let one : 4 - len ≡ suc (4 - (len + 1)) = omega arith in
      let step : arguments s (suc (4 - (len + 1))) (word ∷ after) ≡ (arguments s (4 - (len + 1)) after >>= λ xs. Ok (x ∷ xs)) = rw is refl in
      let so_far = rw (cut, one) at reads.so_far in
      record {
        so_far = rw more (sym (behind_one (take len locals) x (arguments s (4 - (len + 1)) after)) ∙ ap (behind (take len locals)) (sym step) ∙ so_far);
        few = omega arith;
        room = length-set locals len x ∙ reads.room;
      }

  pub too_many : (word : TextWord) (after : List TextWord) → rest ≡ word ∷ after → len ≡ 4 → Err Unknown ≡ arguments s 4 words
  unfolding arguments
  too_many word after cut full = rw (cut, full) at reads.so_far

  pub not_known : (word : TextWord) (after : List TextWord) (kind : TextFaultKind) → rest ≡ word ∷ after → argument s word ≡ Err kind → len < 4
      → Err kind ≡ arguments s 4 words
  unfolding arguments
  not_known word after kind cut is room =
      let one : 4 - len ≡ suc (4 - (len + 1)) = omega arith in
      let so_far = rw (cut, one) at reads.so_far in
      let step : behind (take len locals) (arguments s (suc (4 - (len + 1))) (word ∷ after)) ≡ Err kind = rw is refl in
      sym step ∙ so_far

  pub all_read : rest ≡ [] → Ok (take len locals) ≡ arguments s 4 words
  unfolding arguments
  all_read none = rw (none, append-nil) at reads.so_far

pub few_taken : (locals : List ℕ) (len : ℕ) → length locals ≡ 4 → length (take len locals) ≤ 4
few_taken locals len four = omega (arith, length-take len locals)
