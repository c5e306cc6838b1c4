-- A statement that completes what the lines above have given is taken from its line.
use Rattle.std.proofs.Common.{◌≡◌, ℕ, ◌-◌, ◌^◌, ◌<◌, ◌≤◌, true, leb, ltb, List, [], ◌∷◌, length, Some, Ok, ℤ, refl, ◌∙◌, append_assoc, arith}
use Rattle.std.specs.{Prelude.is_none, Prelude.codes, List.filter_map}
use Rattle.std.proofs.lemmas.Bool.{and_parts, leb-true, ltb-true, eq-eqb}
use Rattle.hex.specs.Hex.{decode_of}
use Rattle.oat_mem.specs.DataMemory.{fits}
use Rattle.oat_lines.specs.{Lines.TextWord, Decimal.numeral_of, Integer.integer_of, Integer.is_i64, Reading.between}
use Rattle.oat_lines.proofs.Integers.{integer_again}
use Rattle.oat_case.specs.{Limits.key_fits, Limits.operation_fits, Limits.steps_fit, Limits.calls_fit, Limits.write_fits, Grammar.Statement, Grammar.KeyIs, Grammar.NonceIs, Grammar.OperationIs}
use Rattle.oat_case.specs.{Grammar.StepsAre, Grammar.CallsAre, Grammar.InputIs, Grammar.WriteIs, Grammar.SaysStatement, Grammar.address_numeral, Grammar.key_in, Grammar.nonce_in, Grammar.operation_in}
use Rattle.oat_case.specs.{Grammar.steps_in, Grammar.calls_in, Grammar.input_in, Grammar.write_in, Reading.Gathered, Reading.bytes_at, Reading.numeral_at, Reading.key_line, Reading.nonce_line}
use Rattle.oat_case.specs.{Reading.operation_line, Reading.steps_line, Reading.calls_line, Reading.input_line, Reading.write_of, Reading.add_write, Reading.write_line, Reading.statement_line}
use Rattle.oat_case.specs.{declared.case.Write.Write, declared.case.Case.Case}
use Rattle.oat_case.proofs.{OneLine.number_again, OneLine.one_again, OneLine.once_back, Statements.Gathers, Statements.any, Statements.nonce_fits, Statements.with_key, Statements.with_nonce}
use Rattle.oat_case.proofs.{Statements.with_operation, Statements.with_steps, Statements.with_calls, Statements.with_input, Statements.with_write}

-- the line is taken, and completes what the lines above have given
pub record Goes (n : ℕ) (g : Gathered) (keyword : TextWord) (words : List TextWord) (statements : List Statement) (c : Case) : Type 0 where
  pub after : Gathered
  pub taken : statement_line n g keyword words ≡ Ok after
  pub begun : after.begun ≡ g.begun
  pub gathers : Gathers after statements c

at_words : (n : ℕ) (g : Gathered) (keyword name : TextWord) (words more : List TextWord) (ss : List Statement) (c : Case) → keyword ∷ words ≡ name ∷ more → Goes n g name more ss c → Goes n g keyword words ss c
at_words n g keyword name words more ss c same goes =
    let first : keyword ≡ name = cc in
    let others : words ≡ more = cc in
    rw (first, others) goes

bytes_again : (n : ℕ) (digits : TextWord) (bytes : List ℕ) → decode_of digits ≡ Ok bytes → bytes_at n digits ≡ Ok bytes
bytes_again n digits bytes e = rw e refl

key_goes : (n : ℕ) (g : Gathered) (digits : TextWord) (key : List ℕ) (ss : List Statement) (c : Case) → decode_of digits ≡ Ok key → Gathers g (KeyIs key ∷ ss) c → Goes n g (codes "key") (digits ∷ []) ss c
unfolding statement_line key_line
key_goes n g digits key ss c spelled k =
    let b = once_back key_fits g.key key (filter_map key_in ss) (Some c.session.key) k.key in
    record {
      after = with_key g key;
      taken = one_again n (bytes_at n) (is_none g.key) key_fits (with_key g) digits key (bytes_again n digits key spelled) b.0 b.1;
      begun = refl;
      gathers = record { key = b.2; nonce = k.nonce; operation = k.operation; steps = k.steps; calls = k.calls; inputs = k.inputs; writes = k.writes; limits = k.limits; order = k.order };
    }

nonce_goes : (n : ℕ) (g : Gathered) (digits : TextWord) (nonce : List ℕ) (ss : List Statement) (c : Case) → decode_of digits ≡ Ok nonce → length nonce ≡ 16 → Gathers g (NonceIs nonce ∷ ss) c → Goes n g (codes "nonce") (digits ∷ []) ss c
unfolding statement_line nonce_line
nonce_goes n g digits nonce ss c spelled sixteen k =
    let b = once_back any g.nonce nonce (filter_map nonce_in ss) (Some c.session.nonce) k.nonce in
    record {
      after = with_nonce g nonce;
      taken = one_again n (bytes_at n) (is_none g.nonce) nonce_fits (with_nonce g) digits nonce (bytes_again n digits nonce spelled) b.0 (eq-eqb _ _ sixteen);
      begun = refl;
      gathers = record { key = k.key; nonce = b.2; operation = k.operation; steps = k.steps; calls = k.calls; inputs = k.inputs; writes = k.writes; limits = k.limits; order = k.order };
    }

operation_goes : (n : ℕ) (g : Gathered) (digits : TextWord) (id : ℕ) (ss : List Statement) (c : Case) → numeral_of digits ≡ Some id → Gathers g (OperationIs id ∷ ss) c → Goes n g (codes "operation") (digits ∷ []) ss c
unfolding statement_line operation_line
operation_goes n g digits id ss c spelled k =
    let b = once_back operation_fits g.operation id (filter_map operation_in ss) (Some c.session.op) k.operation in
    let low : id ≤ 65535 = leb-true _ _ (and_parts (leb 1 id) (leb id 65535) b.1).1 in
    record {
      after = with_operation g id;
      taken = one_again n (numeral_at n) (is_none g.operation) operation_fits (with_operation g) digits id (number_again n digits id spelled (omega arith)) b.0 b.1;
      begun = refl;
      gathers = record { key = k.key; nonce = k.nonce; operation = b.2; steps = k.steps; calls = k.calls; inputs = k.inputs; writes = k.writes; limits = k.limits; order = k.order };
    }

steps_goes : (n : ℕ) (g : Gathered) (digits : TextWord) (steps : ℕ) (ss : List Statement) (c : Case) → numeral_of digits ≡ Some steps → Gathers g (StepsAre steps ∷ ss) c → Goes n g (codes "steps") (digits ∷ []) ss c
unfolding statement_line steps_line
steps_goes n g digits steps ss c spelled k =
    let b = once_back steps_fit g.steps steps (filter_map steps_in ss) (Some c.steps) k.steps in
    let low : steps ≤ 4194304 = leb-true _ _ (and_parts (leb 1 steps) (leb steps 4194304) b.1).1 in
    record {
      after = with_steps g steps;
      taken = one_again n (numeral_at n) (is_none g.steps) steps_fit (with_steps g) digits steps (number_again n digits steps spelled (omega arith)) b.0 b.1;
      begun = refl;
      gathers = record { key = k.key; nonce = k.nonce; operation = k.operation; steps = b.2; calls = k.calls; inputs = k.inputs; writes = k.writes; limits = k.limits; order = k.order };
    }

calls_goes : (n : ℕ) (g : Gathered) (digits : TextWord) (calls : ℕ) (ss : List Statement) (c : Case) → numeral_of digits ≡ Some calls → Gathers g (CallsAre calls ∷ ss) c → Goes n g (codes "calls") (digits ∷ []) ss c
unfolding statement_line calls_line
calls_goes n g digits calls ss c spelled k =
    let b = once_back calls_fit g.calls calls (filter_map calls_in ss) c.session.calls k.calls in
    let low : calls ≤ 1024 = leb-true _ _ (and_parts (leb 1 calls) (leb calls 1024) b.1).1 in
    record {
      after = with_calls g calls;
      taken = one_again n (numeral_at n) (is_none g.calls) calls_fit (with_calls g) digits calls (number_again n digits calls spelled (omega arith)) b.0 b.1;
      begun = refl;
      gathers = record { key = k.key; nonce = k.nonce; operation = k.operation; steps = k.steps; calls = b.2; inputs = k.inputs; writes = k.writes; limits = k.limits; order = k.order };
    }

input_goes : (n : ℕ) (g : Gathered) (digits : TextWord) (value : ℤ) (ss : List Statement) (c : Case) → integer_of digits ≡ Some value → is_i64 value ≡ true → Gathers g (InputIs value ∷ ss) c → Goes n g (codes "input") (digits ∷ []) ss c
unfolding statement_line input_line
input_goes n g digits value ss c spelled fits k =
    record {
      after = with_input g value;
      taken = rw (integer_again digits value spelled fits) refl;
      begun = refl;
      gathers = record { key = k.key; nonce = k.nonce; operation = k.operation; steps = k.steps; calls = k.calls; inputs = append_assoc g.inputs (value ∷ []) (filter_map input_in ss) ∙ k.inputs; writes = k.writes; limits = k.limits; order = k.order };
    }

write_made : (n : ℕ) (number place digits : TextWord) (w : Write) → numeral_of number ≡ Some w.before → address_numeral place ≡ Some w.address → decode_of digits ≡ Ok w.bytes → w.before < 2 ^ 64 - 1
    → write_of n (number, place, digits) ≡ Ok w
unfolding write_of
write_made n number place digits w before address bytes low = rw (number_again n number w.before before low, address, bytes) refl

write_goes : (n : ℕ) (g : Gathered) (number place digits : TextWord) (w : Write) (ss : List Statement) (c : Case) → numeral_of number ≡ Some w.before → address_numeral place ≡ Some w.address → decode_of digits ≡ Ok w.bytes
    → Gathers g (WriteIs w ∷ ss) c → Goes n g (codes "write") (number ∷ place ∷ digits ∷ []) ss c
unfolding statement_line write_line add_write
write_goes n g number place digits w ss c before address bytes k =
    let limited : write_fits w ≡ true = k.limits.0.0 in
    let inside : fits w.address (length w.bytes) ≡ true = k.limits.0.1 in
    let later : leb g.least w.before ≡ true = k.order.0 in
    let early : w.before < 4194304 = ltb-true _ _ (and_parts (ltb w.before 4194304) (between 1 4096 (length w.bytes)) limited).0 in
    record {
      after = with_write g w;
      taken = rw (write_made n number place digits w before address bytes (omega arith), limited, inside, later) refl;
      begun = refl;
      gathers = record { key = k.key; nonce = k.nonce; operation = k.operation; steps = k.steps; calls = k.calls; inputs = k.inputs; writes = append_assoc g.writes (w ∷ []) (filter_map write_in ss) ∙ k.writes; limits = k.limits.1; order = k.order.1 };
    }

pub statement_goes : (n : ℕ) (g : Gathered) (keyword : TextWord) (words : List TextWord) (s : Statement) (ss : List Statement) (c : Case) → SaysStatement (keyword ∷ words) s → Gathers g (s ∷ ss) c → Goes n g keyword words ss c
statement_goes n g keyword words (KeyIs key) ss c says k = at_words n g keyword (codes "key") words (says.0 ∷ []) ss c says.1 (key_goes n g says.0 key ss c says.2 k)
statement_goes n g keyword words (NonceIs nonce) ss c says k = at_words n g keyword (codes "nonce") words (says.0 ∷ []) ss c says.1 (nonce_goes n g says.0 nonce ss c says.2 says.3 k)
statement_goes n g keyword words (OperationIs id) ss c says k = at_words n g keyword (codes "operation") words (says.0 ∷ []) ss c says.1 (operation_goes n g says.0 id ss c says.2 k)
statement_goes n g keyword words (StepsAre steps) ss c says k = at_words n g keyword (codes "steps") words (says.0 ∷ []) ss c says.1 (steps_goes n g says.0 steps ss c says.2 k)
statement_goes n g keyword words (CallsAre calls) ss c says k = at_words n g keyword (codes "calls") words (says.0 ∷ []) ss c says.1 (calls_goes n g says.0 calls ss c says.2 k)
statement_goes n g keyword words (InputIs value) ss c says k = at_words n g keyword (codes "input") words (says.0 ∷ []) ss c says.1 (input_goes n g says.0 value ss c says.2 says.3 k)
statement_goes n g keyword words (WriteIs w) ss c says k =
    at_words n g keyword (codes "write") words (says.0 ∷ says.1 ∷ says.2 ∷ []) ss c says.3 (write_goes n g says.0 says.1 says.2 w ss c says.4 says.5 says.6 k)
