-- What the tables of an owner find, of its devices and its challenges.
use Rattle.std.proofs.Common.{◌≡◌, ℕ, zero, suc, ◌+◌, ◌<◌, Bool, true, false, not, ◌&&◌, List, [], ◌∷◌, ◌++◌, length, take, drop, get_or, slice_get, set, Option, Some, None, refl, sym, ap, subst, ◌∙◌}
use Rattle.std.proofs.Common.{arith}
use Rattle.std.specs.{Prelude.position, Prelude.nat_eq, Prelude.◌==◌, Prelude.if◌then◌else◌, List.list_any, List.IsDistinct, Str.bytes_eq}
use Rattle.std.proofs.Math.{ListN.length-set, Seq.map-set_same}
use Rattle.std.proofs.lemmas.{Bool.and_parts, Bool.eq-eqb, Bool.eqb-true, Bool.ne_eqb, Slice.Eq.bytes_eq-Decides, List.map-append, List.length-append, List.take_more, List.drop_more}
use Rattle.std.proofs.lemmas.{Option.slice_get_within, Option.slice_get_read}
use Rattle.oat_owner.specs.{declared.challenge.Challenge.Challenge, declared.device.Known.Known, Ledger.device_of, Ledger.number_with, Ledger.number_to, Ledger.spent_at, Ledger.ids_of}
use Rattle.oat_owner.specs.{Ledger.repeated_behind, Ledger.challenge_limit, Tables.AreNonces}
use Rattle.oat_owner.proofs.Searching.{place, place_is, place_mapped, place_within, nowhere, find_place, find_nowhere, none_both, first_both, missed_both}

nonce_of : Challenge → List ℕ
nonce_of c = c.nonce

-- ---- challenges

module _ (keys : List (List ℕ)) (items : List Challenge) (are : AreNonces keys items) where
  -- the place of a nonce among the keys, counted along the challenges
  along : (nonce : List ℕ) → position (bytes_eq nonce) keys ≡ place (λ (c : Challenge). bytes_eq nonce c.nonce) items
  along nonce = place_is (bytes_eq nonce) keys ∙ ap (place (bytes_eq nonce)) are.same ∙ place_mapped (bytes_eq nonce) (λ (c : Challenge). c.nonce) items

  pub is_number : (nonce : List ℕ) → position (bytes_eq nonce) keys ≡ number_with items nonce
  is_number nonce = along nonce ∙ sym (place_is (λ (c : Challenge). bytes_eq nonce c.nonce) items)

  pub is_at : (nonce : List ℕ) (i : ℕ) (x : Challenge) → Some i ≡ position (bytes_eq nonce) keys → x ≡ get_or items i x → slice_get items i ≡ Some x
  is_at nonce i x found read =
      let w = place_within (λ (c : Challenge). bytes_eq nonce c.nonce) items i (sym (along nonce) ∙ sym found) in
      slice_get_read items (length items) i x refl (slice_get_within items i w.0 w.1) read

  module _ (device : ℕ) where
    -- the second test of a challenge to this device
    is_to : Challenge → Bool
    is_to c = c.device == device

    pub none_to : (nonce : List ℕ) → None ≡ position (bytes_eq nonce) keys → None ≡ number_to items device nonce
    none_to nonce none =
        sym (place_is (λ (c : Challenge). bytes_eq nonce c.nonce && (c.device == device)) items
        ∙ none_both (λ (c : Challenge). bytes_eq nonce c.nonce) (λ (c : Challenge). c.device == device) items (sym (along nonce) ∙ sym none))

    pub found_to : (nonce : List ℕ) (i : ℕ) (x : Challenge) → Some i ≡ position (bytes_eq nonce) keys → x ≡ get_or items i x → x.device ≡ device → Some i ≡ number_to items device nonce
    found_to nonce i x found read same =
        sym (place_is (λ (c : Challenge). bytes_eq nonce c.nonce && (c.device == device)) items
        ∙ first_both (λ (c : Challenge). bytes_eq nonce c.nonce) (λ (c : Challenge). c.device == device) items i x (sym (along nonce) ∙ sym found) (is_at nonce i x found read) (eq-eqb x.device device same))

    pub other_to : (nonce : List ℕ) (i : ℕ) (x : Challenge) → Some i ≡ position (bytes_eq nonce) keys → x ≡ get_or items i x → (x.device ≡ device → ⊥) → None ≡ number_to items device nonce
    other_to nonce i x found read other =
        sym (place_is (λ (c : Challenge). bytes_eq nonce c.nonce && (c.device == device)) items
        ∙ missed_both (λ (c : Challenge). c.nonce) (λ (c : Challenge). c.device == device) items nonce i x (subst (IsDistinct bytes_eq) are.same are.distinct)
        (sym (along nonce) ∙ sym found) (is_at nonce i x found read) (ne_eqb x.device device other))

  -- one more, with a new nonce
  pub one_more : (c : Challenge) (more : List (List ℕ)) → number_with items c.nonce ≡ None → length items < challenge_limit
      → more ≡ (if list_any (bytes_eq c.nonce) keys then keys else keys ++ c.nonce ∷ []) → IsDistinct bytes_eq more → AreNonces more (items ++ c ∷ [])
  one_more c more new room put distinct =
      let none : list_any (bytes_eq c.nonce) keys ≡ false = nowhere (bytes_eq c.nonce) keys (sym (place_is (bytes_eq c.nonce) keys) ∙ is_number c.nonce ∙ new) in
      let appended : more ≡ keys ++ c.nonce ∷ [] = put ∙ rw none refl in
      let many = length-append items (c ∷ []) in
      record {
        same = appended ∙ ap (λ (ks : List (List ℕ)). ks ++ c.nonce ∷ []) are.same ∙ sym (map-append (λ (x : Challenge). x.nonce) items (c ∷ []));
        distinct = distinct;
        few = omega (arith, many);
      }

  -- one that is changed but for its nonce
  pub one_changed : (i : ℕ) (c d : Challenge) → c.nonce ≡ (get_or items i d).nonce → AreNonces keys (set items i c)
  one_changed i c d same = record {
    same = are.same ∙ sym (map-set_same (λ (x : Challenge). x.nonce) items i c d same);
    distinct = are.distinct;
    few = rw (length-set items i c) are.few;
  }

pub spent_is_set : (items : List Challenge) (n : ℕ) (c : Challenge) → n < length items → c ≡ get_or items n c → set items n (record c { spent = true }) ≡ spent_at n items
spent_is_set [] n c within read = absurd (omega arith)
spent_is_set (x ∷ items) zero c within read = ap (λ (y : Challenge). record y { spent = true } ∷ items) read
spent_is_set (x ∷ items) (suc n) c within read = ap (λ (ys : List Challenge). x ∷ ys) (spent_is_set items n c (omega arith) read)

-- the challenge that is found is to this device, and has the nonce
pub asked_is : (items : List Challenge) (device : ℕ) (nonce : List ℕ) (n : ℕ) (c : Challenge) → number_to items device nonce ≡ Some n → slice_get items n ≡ Some c
    → (nonce ≡ c.nonce) × (c.device ≡ device)
asked_is items device nonce n c found at =
    let test = λ (x : Challenge). bytes_eq nonce x.nonce && (x.device == device) in
    let w = place_within test items n (sym (place_is test items) ∙ found) in
    let both : Path (Option Challenge) (Some w.0) (Some c) = sym w.1 ∙ at in
    let same : w.0 ≡ c = cc in
    let passed : (bytes_eq nonce c.nonce && (c.device == device)) ≡ true = subst (λ (x : Challenge). test x ≡ true) same w.2 in
    let parts = and_parts (bytes_eq nonce c.nonce) (c.device == device) passed in
    ((bytes_eq-Decides nonce c.nonce).0 parts.0, eqb-true c.device device parts.1)

-- ---- devices

pub was_there : (added there : Bool) → added ≡ not there → added ≡ false → there ≡ true
was_there added true is kept = refl
was_there added false is kept = absurd cc

pub was_new : (added there : Bool) → added ≡ not there → added ≡ true → there ≡ false
was_new added true is put = absurd cc
was_new added false is put = refl

module _ (keys : List ℕ) (known : List Known) (same : keys ≡ ids_of known) where
  at_id : (id : ℕ) → position (nat_eq id) keys ≡ place (λ (k : Known). nat_eq id k.id) known
  at_id id = place_is (nat_eq id) keys ∙ ap (place (nat_eq id)) same ∙ place_mapped (nat_eq id) (λ (k : Known). k.id) known

  pub unknown : (id : ℕ) → None ≡ position (nat_eq id) keys → None ≡ device_of known id
  unknown id none = sym (find_nowhere (λ (k : Known). nat_eq id k.id) known (sym (at_id id) ∙ sym none))

  pub is_known : (id i : ℕ) (k : Known) → Some i ≡ position (nat_eq id) keys → k ≡ get_or known i k → Some k ≡ device_of known id
  is_known id i k found read = ap Some read ∙ sym (find_place (λ (k : Known). nat_eq id k.id) known i k (sym (at_id id) ∙ sym found))

module _ (known : List Known) (keys : List ℕ) (i : ℕ) (k : Known) (within : i < length known) (read : k ≡ get_or known i k) where
  -- the ids from here on
  ahead : ids_of (drop i known) ≡ k.id ∷ ids_of (drop (i + 1) known)
  ahead = ap ids_of (drop_more known i k within ∙ ap (λ (x : Known). x ∷ drop (i + 1) known) (sym read))

  -- an id that is among the keys repeats an earlier one
  pub repeats : (o : Option ℕ) → list_any (nat_eq k.id) keys ≡ true → repeated_behind keys (ids_of (drop i known)) ≡ o → o ≡ Some k.id
  repeats o there so_far =
      let one : repeated_behind keys (k.id ∷ ids_of (drop (i + 1) known)) ≡ Some k.id = rw there refl in
      sym so_far ∙ ap (repeated_behind keys) ahead ∙ one

  pub goes_on : (o : Option ℕ) → list_any (nat_eq k.id) keys ≡ false → repeated_behind keys (ids_of (drop i known)) ≡ o → repeated_behind (keys ++ k.id ∷ []) (ids_of (drop (i + 1) known)) ≡ o
  goes_on o none so_far =
      let one : repeated_behind keys (k.id ∷ ids_of (drop (i + 1) known)) ≡ repeated_behind (keys ++ k.id ∷ []) (ids_of (drop (i + 1) known)) = rw none refl in
      sym one ∙ sym (ap (repeated_behind keys) ahead) ∙ so_far

  pub ids_grow : (more : List ℕ) → list_any (nat_eq k.id) keys ≡ false → more ≡ (if list_any (nat_eq k.id) keys then keys else keys ++ k.id ∷ []) → more ≡ keys ++ k.id ∷ []
  ids_grow more none put = put ∙ rw none refl

  pub ids_so_far : (more : List ℕ) → more ≡ keys ++ k.id ∷ [] → keys ≡ ids_of (take i known) → more ≡ ids_of (take (i + 1) known)
  ids_so_far more grown same =
      grown ∙ ap (λ (ks : List ℕ). ks ++ k.id ∷ []) same ∙ sym (map-append (λ (x : Known). x.id) (take i known) (k ∷ []))
      ∙ ap ids_of (ap (λ (x : Known). take i known ++ x ∷ []) read ∙ sym (take_more known i k within))
