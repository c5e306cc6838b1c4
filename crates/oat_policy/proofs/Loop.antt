-- Reading a policy word by word and line by line, as loops do.
use Rattle.std.proofs.Common.{◌≡◌, ℕ, ◌+◌, ◌≤◌, ◌<◌, eqb, List, [], ◌∷◌, ◌++◌, length, Option, Some, None, Result, Ok, Err, refl, sym, ap, ◌∙◌, inl, inr, append_assoc, arith}
use Rattle.std.specs.{Prelude.option_map, List.slice_split, List.onto_first}
use Rattle.std.proofs.lemmas.{Bool.cases_Bool, List.append-nil}
use Rattle.oat_lines.proofs.{Cutting.map_some, Cutting.cut_takes, Steps.fails_as, Steps.some_is}
use Rattle.oat_report.specs.{cut, TextWord, lines_of, words_of, ◌>>=◌, Fault, Fails}
use Rattle.oat_policy.specs.{declared.policy.PolicyRule.PolicyRule, declared.fault.PolicyFaultKind.PolicyFaultKind, Reading.is_colon, Reading.parts_of, Reading.pattern_at, Reading.patterns_at}
use Rattle.oat_policy.specs.{Reading.line_of, Reading.policy_from, Reading.policy_of}

-- ---- the parts of a word

map_none : {A B : Type 0} (f : A → B) (o : Option A) → option_map f o ≡ None → o ≡ None
map_none f None e = refl
map_none f (Some x) e = absurd cc

pub one_part : (word : List ℕ) → cut 58 word ≡ None → parts_of word ≡ word ∷ []
unfolding cut parts_of
one_part [] e = refl
one_part (b ∷ bs) e =
    elim (cases_Bool (eqb b 58)) [
      | inl passes ↦ absurd (let bad : Path (Option (List ℕ × List ℕ)) (Some ([], bs)) None = rw passes at e in cc)
      | inr fails ↦
          let none : option_map (λ (p : List ℕ × List ℕ). (b ∷ p.0, p.1)) (cut 58 bs) ≡ None = rw fails at e in
          rw fails (ap (onto_first b) (one_part bs (map_none (λ (p : List ℕ × List ℕ). (b ∷ p.0, p.1)) (cut 58 bs) none)))
    ]

pub next_part : (word : List ℕ) (p : List ℕ × List ℕ) → cut 58 word ≡ Some p → parts_of word ≡ p.0 ∷ parts_of p.1
unfolding cut parts_of
next_part [] p e = absurd cc
next_part (b ∷ bs) p e =
    elim (cases_Bool (eqb b 58)) [
      | inl passes ↦
          let first : Path (Option (List ℕ × List ℕ)) (Some ([], bs)) (Some p) = rw passes at e in
          rw passes (ap (λ (q : List ℕ × List ℕ). q.0 ∷ slice_split is_colon q.1) (some_is ([], bs) p first))
      | inr fails ↦
          let later : option_map (λ (q : List ℕ × List ℕ). (b ∷ q.0, q.1)) (cut 58 bs) ≡ Some p = rw fails at e in
          let a = map_some (cut 58 bs) (λ (q : List ℕ × List ℕ). (b ∷ q.0, q.1)) p later in
          rw fails (ap (onto_first b) (next_part bs a.0 a.1) ∙ ap (λ (q : List ℕ × List ℕ). q.0 ∷ slice_split is_colon q.1) a.2)
    ]

cut_shorter : (front rest : List ℕ) → length rest < length (front ++ 58 ∷ rest)
cut_shorter [] rest = omega arith
cut_shorter (b ∷ front) rest = let later = cut_shorter front rest in omega (arith, later)

pub shorter : (word : List ℕ) (p : List ℕ × List ℕ) → cut 58 word ≡ Some p → length p.1 < length word
shorter word p e = rw (cut_takes 58 word p e) (cut_shorter p.0 p.1)

pub part_taken : (parts : List TextWord) (word rest part after : List ℕ) → cut 58 rest ≡ Some (part, after) → parts ++ parts_of rest ≡ parts_of word
    → (parts ++ part ∷ []) ++ parts_of after ≡ parts_of word
part_taken parts word rest part after cuts so_far =
    append_assoc parts (part ∷ []) (parts_of after) ∙ sym (ap (λ (ps : List TextWord). parts ++ ps) (next_part rest (part, after) cuts)) ∙ so_far

pub last_part : (parts : List TextWord) (word rest : List ℕ) → cut 58 rest ≡ None → parts ++ parts_of rest ≡ parts_of word → parts ++ rest ∷ [] ≡ parts_of word
last_part parts word rest none so_far = sym (ap (λ (ps : List TextWord). parts ++ ps) (one_part rest none)) ∙ so_far

-- ---- the patterns of a line

abbrev Patterns : Type 0
Patterns = List (List TextWord)

abbrev pub Read : Type 0 → Type 0
Read X = Result X (Fault PolicyFaultKind)

-- patterns, and what is read behind them
abbrev pub onto : Patterns → Read Patterns → Read Patterns
onto patterns read = read >>= λ more. Ok (patterns ++ more)

onto_one : (patterns : Patterns) (pattern : List TextWord) (read : Read Patterns) → onto patterns (read >>= λ more. Ok (pattern ∷ more)) ≡ onto (patterns ++ pattern ∷ []) read
onto_one patterns pattern (Ok more) = ap (λ (ps : Patterns). Ok ps) (sym (append_assoc patterns (pattern ∷ []) more))
onto_one patterns pattern (Err e) = refl

pub none_yet : (read : Read Patterns) → onto [] read ≡ read
none_yet (Ok more) = refl
none_yet (Err e) = refl

pub pattern_taken : (n : ℕ) (patterns : Patterns) (pattern : List TextWord) (words : List TextWord) (word : TextWord) (more : List TextWord) (total : Read Patterns)
    → words ≡ word ∷ more → pattern_at n word ≡ Ok pattern → onto patterns (patterns_at n words) ≡ total → onto (patterns ++ pattern ∷ []) (patterns_at n more) ≡ total
unfolding patterns_at
pattern_taken n patterns pattern words word more total split took so_far =
    let one : patterns_at n words ≡ (patterns_at n more >>= λ ps. Ok (pattern ∷ ps)) = rw (split, took) refl in
    sym (onto_one patterns pattern (patterns_at n more)) ∙ sym (ap (onto patterns) one) ∙ so_far

bad_pattern : (n : ℕ) (patterns : Patterns) (words : List TextWord) (word : TextWord) (more : List TextWord) (total : Read Patterns) (f : Fault PolicyFaultKind)
    → words ≡ word ∷ more → pattern_at n word ≡ Err f → onto patterns (patterns_at n words) ≡ total → total ≡ Err f
unfolding patterns_at
bad_pattern n patterns words word more total f split bad so_far =
    let one : patterns_at n words ≡ Err f = rw (split, bad) refl in
    sym so_far ∙ ap (onto patterns) one

pub pattern_fails : (e : Fault PolicyFaultKind) (n : ℕ) (patterns : Patterns) (words : List TextWord) (word : TextWord) (more : List TextWord) (total : Read Patterns)
    → words ≡ word ∷ more → Fails e (pattern_at n word) → onto patterns (patterns_at n words) ≡ total → Fails e total
pattern_fails e n patterns words word more total split bad so_far =
    fails_as e (pattern_at n word) total (λ f is. bad_pattern n patterns words word more total f split is so_far) bad

pub all_taken : (n : ℕ) (patterns : Patterns) (words : List TextWord) (total : Read Patterns) → words ≡ [] → onto patterns (patterns_at n words) ≡ total → total ≡ Ok patterns
unfolding patterns_at
all_taken n patterns words total none so_far =
    let one : patterns_at n words ≡ Ok [] = rw none refl in
    sym so_far ∙ ap (onto patterns) one ∙ ap (λ (ps : Patterns). Ok ps) (append-nil patterns)

-- ---- the lines of a text

-- what is left to read gives what the text gives
pub record Reads (text rest : List ℕ) (number : ℕ) (rules : List PolicyRule) : Type 0 where
  pub so_far : policy_from number rules (lines_of rest) ≡ policy_of text
  pub fits : number + length rest ≤ 65537

pub next_line : (n : ℕ) (g h : List PolicyRule) (rest line after : List ℕ) (total : Read (List PolicyRule)) → lines_of rest ≡ line ∷ lines_of after
    → line_of n g (words_of line) ≡ Ok h → policy_from n g (lines_of rest) ≡ total → policy_from (n + 1) h (lines_of after) ≡ total
unfolding policy_from
next_line n g h rest line after total cuts took so_far =
    let one : policy_from n g (lines_of rest) ≡ policy_from (n + 1) h (lines_of after) = rw (cuts, took) refl in
    sym one ∙ so_far

faulty : (n : ℕ) (g : List PolicyRule) (rest line after : List ℕ) (total : Read (List PolicyRule)) (f : Fault PolicyFaultKind) → lines_of rest ≡ line ∷ lines_of after
    → line_of n g (words_of line) ≡ Err f → policy_from n g (lines_of rest) ≡ total → total ≡ Err f
unfolding policy_from
faulty n g rest line after total f cuts bad so_far =
    let one : policy_from n g (lines_of rest) ≡ Err f = rw (cuts, bad) refl in
    sym so_far ∙ one

pub stops : (e : Fault PolicyFaultKind) (n : ℕ) (g : List PolicyRule) (rest line after : List ℕ) (total : Read (List PolicyRule)) → lines_of rest ≡ line ∷ lines_of after
    → Fails e (line_of n g (words_of line)) → policy_from n g (lines_of rest) ≡ total → Fails e total
stops e n g rest line after total cuts bad so_far =
    fails_as e (line_of n g (words_of line)) total (λ f is. faulty n g rest line after total f cuts is so_far) bad

pub is_done : (n : ℕ) (g : List PolicyRule) (rest : List ℕ) (total : Read (List PolicyRule)) → length rest ≡ 0 → policy_from n g (lines_of rest) ≡ total → total ≡ Ok g
unfolding policy_from lines_of
is_done n g [] total none so_far = sym so_far
is_done n g (b ∷ bs) total none so_far = absurd (omega arith)
