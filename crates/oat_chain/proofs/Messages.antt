-- Chained messages: what one more return adds, that they tell lists of addresses apart, and the clash of two lists with one chain.
use Rattle.std.proofs.Common.{◌≡◌, ◌≢◌, ℕ, ◌-◌, ◌<◌, ◌^◌, ◌⊎◌, inl, inr, Bool, true, false, List, [], ◌∷◌, ◌++◌, length, take, drop, fold, All, Decides, bytes_eq, refl, sym, ap, subst, ◌∙◌, arith}
use Rattle.std.proofs.Common.{length-append, length-drop, append_assoc}
use Rattle.std.specs.Int.{w64, to_be_bytes, from_be_bytes}
use Rattle.std.proofs.lemmas.{List.take_at, List.append-nil, List.append_cancel_left, List.append_cancel_right, List.same_from_push, List.take-append-drop, List.length-take, List.Elements.All-head}
use Rattle.std.proofs.lemmas.{List.Elements.All-tail, Nat.from_be_bytes-to_be_bytes_8, Slice.Eq.bytes_eq-Decides}
use Rattle.sha2.specs.Sha256.{sha256}
use Rattle.oat_chain.specs.{Chain.chain, Chain.link, Chain.links_from, Chain.messages, Chain.DiffersAt, Clash.LastDiffers, Clash.IsLastMessage, Laws.HasClash, Laws.ClashExists}
use Rattle.oat_chain.proofs.Lengths.{length-chain, chain-push}

-- ---- one more return

links-push : (before addresses : List ℕ) (a : ℕ) → links_from before (addresses ++ a ∷ []) ≡ links_from before addresses ++ link (fold (λ h b. sha256 (link h b)) before addresses) a ∷ []
unfolding links_from
links-push before [] a = refl
links-push before (b ∷ addresses) a = ap (λ (rest : List (List ℕ)). link before b ∷ rest) (links-push (sha256 (link before b)) addresses a)

pub messages-push : (head addresses : List ℕ) (a : ℕ) → messages head (addresses ++ a ∷ []) ≡ messages head addresses ++ link (chain head addresses) a ∷ []
unfolding messages chain
messages-push head addresses a = ap (λ (rest : List (List ℕ)). head ∷ rest) (links-push (sha256 head) addresses a)

pub last-start : (head : List ℕ) → IsLastMessage head [] head
unfolding messages links_from chain
last-start head = record { front = []; whole = refl; digest = refl; long = λ lt. absurd (omega arith); alone = λ _. refl }

length-link : (before : List ℕ) (a : ℕ) → length before ≡ 32 → length (link before a) ≡ 40
length-link before a long =
    let whole = length-append before (to_be_bytes w64 a) in
    let eight : length (to_be_bytes w64 a) ≡ 8 = refl in
    omega arith

pub last-push : (head addresses : List ℕ) (a : ℕ) → IsLastMessage head (addresses ++ a ∷ []) (link (chain head addresses) a)
last-push head addresses a = record {
  front = messages head addresses;
  whole = messages-push head addresses a;
  digest = chain-push head addresses a;
  long = λ _. length-link (chain head addresses) a (length-chain head addresses);
  alone = λ none. absurd (let n = length-append addresses (a ∷ []) in omega arith);
}

-- ---- messages tell lists apart

same-address : (before : List ℕ) (a b : ℕ) → a < 2 ^ 64 → b < 2 ^ 64 → link before a ≡ link before b → a ≡ b
same-address before a b a-fits b-fits same =
    sym (from_be_bytes-to_be_bytes_8 a a-fits)
    ∙ ap (from_be_bytes w64) (append_cancel_left before (to_be_bytes w64 a) (to_be_bytes w64 b) same)
    ∙ from_be_bytes-to_be_bytes_8 b b-fits

same-chain : (before other : List ℕ) (a b : ℕ) → length before ≡ 32 → length other ≡ 32 → link before a ≡ link other b → before ≡ other
same-chain before other a b long other-long same =
    sym (take_at before (to_be_bytes w64 a) 32 long) ∙ ap (take 32) same ∙ take_at other (to_be_bytes w64 b) 32 other-long

head-same : {A : Type 0} (x y : A) (xs ys : List A) → x ∷ xs ≡ y ∷ ys → x ≡ y
head-same x y xs ys h = cc

tail-same : {A : Type 0} (x y : A) (xs ys : List A) → x ∷ xs ≡ y ∷ ys → xs ≡ ys
tail-same x y xs ys h = cc

abbrev Fit : List ℕ → Type 0
Fit addresses = All (λ address. address < 2 ^ 64) addresses

links-same : (before run replay : List ℕ) → Fit run → Fit replay → links_from before run ≡ links_from before replay → run ≡ replay
unfolding links_from
links-same before [] [] f g same = refl
links-same before [] (b ∷ replay) f g same = absurd (cc)
links-same before (a ∷ run) [] f g same = absurd (cc)
links-same before (a ∷ run) (b ∷ replay) f g same =
    let first : a ≡ b = same-address before a b (All-head (λ (n : ℕ). n < 2 ^ 64) a run f) (All-head (λ (n : ℕ). n < 2 ^ 64) b replay g) (head-same (link before a) (link before b) _ _ same) in
    let rest : links_from (sha256 (link before a)) run ≡ links_from (sha256 (link before a)) replay =
    tail-same (link before a) (link before b) _ _ same ∙ ap (λ (n : ℕ). links_from (sha256 (link before n)) replay) (sym first) in
    ap (λ (n : ℕ). n ∷ run) first ∙ ap (λ (ns : List ℕ). b ∷ ns) (links-same (sha256 (link before a)) run replay (All-tail (λ (n : ℕ). n < 2 ^ 64) a run f) (All-tail (λ (n : ℕ). n < 2 ^ 64) b replay g) rest)

pub messages-same : (head run replay : List ℕ) → Fit run → Fit replay → messages head run ≡ messages head replay → run ≡ replay
unfolding messages
messages-same head run replay f g same =
    links-same (sha256 head) run replay f g (tail-same head head (links_from (sha256 head) run) (links_from (sha256 head) replay) same)

-- a clash tells them apart too
append-right : {A : Type 0} (xs ys : List A) (x y : A) (rest : List A) → xs ++ x ∷ rest ≡ ys ++ y ∷ rest → x ≡ y
append-right xs ys x y rest same =
    (same_from_push xs ys x y (append_cancel_right (xs ++ x ∷ []) (ys ++ y ∷ []) rest (append_assoc xs (x ∷ []) rest ∙ same ∙ sym (append_assoc ys (y ∷ []) rest)))).1

pub differ-not-same : (head run replay first second : List ℕ) → DiffersAt (messages head run) (messages head replay) first second → run ≡ replay → ⊥
differ-not-same head run replay first second d same =
    d.differ (append-right d.run_front d.replay_front first second d.same_end (sym d.run_is ∙ ap (messages head) same ∙ d.replay_is))

-- ---- two lists that come in together

pub differ-now : (head run replay first second : List ℕ) → IsLastMessage head run first → IsLastMessage head replay second → first ≢ second → LastDiffers head run replay first second
differ-now head run replay first second a b differ = record {
  place = record { run_front = a.front; replay_front = b.front; same_end = []; run_is = a.whole; replay_is = b.whole; differ = differ };
  one_digest = λ same. sym a.digest ∙ same ∙ b.digest;
}

pub same-before : (head run replay : List ℕ) (a b : ℕ) → link (chain head run) a ≡ link (chain head replay) b → chain head run ≡ chain head replay
same-before head run replay a b same = same-chain (chain head run) (chain head replay) a b (length-chain head run) (length-chain head replay) same

more-at-end : {A : Type 0} (whole front rest : List A) (x last : A) → whole ≡ front ++ x ∷ rest → whole ++ last ∷ [] ≡ front ++ x ∷ (rest ++ last ∷ [])
more-at-end whole front rest x last is = ap (λ (xs : List _). xs ++ last ∷ []) is ∙ append_assoc front (x ∷ rest) (last ∷ [])

pub differ-still : (head run replay first second : List ℕ) (a b : ℕ) → LastDiffers head run replay first second → link (chain head run) a ≡ link (chain head replay) b
    → LastDiffers head (run ++ a ∷ []) (replay ++ b ∷ []) first second
differ-still head run replay first second a b w same = record {
  place = record {
    run_front = w.place.run_front;
    replay_front = w.place.replay_front;
    same_end = w.place.same_end ++ link (chain head replay) b ∷ [];
    run_is = messages-push head run a ∙ ap (λ (l : List ℕ). messages head run ++ l ∷ []) same
        ∙ more-at-end (messages head run) w.place.run_front w.place.same_end first (link (chain head replay) b) w.place.run_is;
    replay_is = messages-push head replay b ∙ more-at-end (messages head replay) w.place.replay_front w.place.same_end second (link (chain head replay) b) w.place.replay_is;
    differ = w.place.differ;
  };
  one_digest = λ _. w.one_digest (same-before head run replay a b same);
}

pub same-still : (head run replay : List ℕ) (a b : ℕ) → messages head run ≡ messages head replay → link (chain head run) a ≡ link (chain head replay) b
    → messages head (run ++ a ∷ []) ≡ messages head (replay ++ b ∷ [])
same-still head run replay a b messages-are same =
    messages-push head run a ∙ ap (λ (l : List ℕ). messages head run ++ l ∷ []) same
    ∙ ap (λ (ms : List (List ℕ)). ms ++ link (chain head replay) b ∷ []) messages-are ∙ sym (messages-push head replay b)

-- where one of the lists is empty, equal last messages are the begin record
pub same-start : (head run replay first second : List ℕ) → length head ≡ 50 → IsLastMessage head run first → IsLastMessage head replay second
    → (0 < length run → 0 < length replay → ⊥) → first ≡ second → messages head run ≡ messages head replay
same-start head [] [] first second long a b one same = refl
same-start head [] (y ∷ ys) first second long a b one same =
    let begin : first ≡ head = a.alone refl in
    let of_link : length second ≡ 40 = b.long (omega arith) in
    absurd (omega (arith, ap length begin, ap length same))
same-start head (x ∷ xs) [] first second long a b one same =
    let begin : second ≡ head = b.alone refl in
    let of_link : length first ≡ 40 = a.long (omega arith) in
    absurd (omega (arith, ap length begin, ap length same))
same-start head (x ∷ xs) (y ∷ ys) first second long a b one same = absurd (one (omega arith) (omega arith))

-- ---- the law without a call

abbrev Compared : List ℕ → List ℕ → List ℕ → Type 0
Compared head run replay = (messages head run ≡ messages head replay) ⊎ ((first second : List ℕ) × LastDiffers head run replay first second)

-- by whether two lists are equal
decided-by : {A : Type 0} (first second : List ℕ) → (first ≡ second → A) → (first ≢ second → A) → (t : Bool) → Decides t (first ≡ second) → A
decided-by first second same other true d = same (d.0 refl)
decided-by first second same other false d = other (λ e. absurd (let q : false ≡ true = d.1 e in cc))

pub decided : {A : Type 0} (first second : List ℕ) → (first ≡ second → A) → (first ≢ second → A) → A
decided first second same other = decided-by first second same other (bytes_eq first second) (bytes_eq-Decides first second)

compared-still : (head run replay : List ℕ) (a b : ℕ) → Compared head run replay → link (chain head run) a ≡ link (chain head replay) b → Compared head (run ++ a ∷ []) (replay ++ b ∷ [])
compared-still head run replay a b (inl messages-are) same = inl (same-still head run replay a b messages-are same)
compared-still head run replay a b (inr w) same = inr (w.0, w.1, differ-still head run replay w.0 w.1 a b w.2 same)

compared-push : (head run replay : List ℕ) (a b : ℕ) → Compared head run replay → Compared head (run ++ a ∷ []) (replay ++ b ∷ [])
compared-push head run replay a b so_far =
    decided (link (chain head run) a) (link (chain head replay) b)
    (compared-still head run replay a b so_far)
    (λ differ. inr (link (chain head run) a, link (chain head replay) b, differ-now head (run ++ a ∷ []) (replay ++ b ∷ []) _ _ (last-push head run a) (last-push head replay b) differ))

compared-all : (head run replay run-rest replay-rest : List ℕ) → length run-rest ≡ length replay-rest → Compared head run replay → Compared head (run ++ run-rest) (replay ++ replay-rest)
compared-all head run replay [] [] long so_far =
    subst (λ (xs : List ℕ). Compared head xs (replay ++ [])) (sym (append-nil run)) (subst (Compared head run) (sym (append-nil replay)) so_far)
compared-all head run replay [] (b ∷ ys) long so_far = absurd (omega arith)
compared-all head run replay (a ∷ xs) [] long so_far = absurd (omega arith)
compared-all head run replay (a ∷ xs) (b ∷ ys) long so_far =
    subst (λ (all : List ℕ). Compared head all (replay ++ b ∷ ys)) (append_assoc run (a ∷ []) xs)
    (subst (Compared head ((run ++ a ∷ []) ++ xs)) (append_assoc replay (b ∷ []) ys)
    (compared-all head (run ++ a ∷ []) (replay ++ b ∷ []) xs ys (omega arith) (compared-push head run replay a b so_far)))

pub record HasLast (head addresses : List ℕ) : Type 0 where
  pub last : List ℕ
  pub is : IsLastMessage head addresses last

has-last-all : (head addresses rest : List ℕ) → HasLast head addresses → HasLast head (addresses ++ rest)
has-last-all head addresses [] h = subst (HasLast head) (sym (append-nil addresses)) h
has-last-all head addresses (a ∷ rest) h =
    subst (HasLast head) (append_assoc addresses (a ∷ []) rest)
    (has-last-all head (addresses ++ a ∷ []) rest (record { last = link (chain head addresses) a; is = last-push head addresses a }))

has-last : (head addresses : List ℕ) → HasLast head addresses
has-last head addresses = has-last-all head [] addresses (record { last = head; is = last-start head })

compared-start : (head run replay : List ℕ) → length head ≡ 50 → (0 < length run → 0 < length replay → ⊥) → Compared head run replay
compared-start head run replay long one =
    let a = has-last head run in
    let b = has-last head replay in
    decided a.last b.last
    (λ same. inl (same-start head run replay a.last b.last long a.is b.is one same))
    (λ differ. inr (a.last, b.last, differ-now head run replay a.last b.last a.is b.is differ))

compared : (head run replay : List ℕ) → length head ≡ 50 → Compared head run replay
compared head run replay long =
    let run-extra = length run - length replay in
    let replay-extra = length replay - length run in
    subst (λ (xs : List ℕ). Compared head xs replay) (take-append-drop run-extra run)
    (subst (Compared head (take run-extra run ++ drop run-extra run)) (take-append-drop replay-extra replay)
    (compared-all head (take run-extra run) (take replay-extra replay) (drop run-extra run) (drop replay-extra replay)
    (omega (arith, length-drop run-extra run, length-drop replay-extra replay))
    (compared-start head (take run-extra run) (take replay-extra replay) long
    (λ p q. omega (arith, length-take run-extra run, length-take replay-extra replay)))))

has-clash : (head run replay : List ℕ) → Fit run → Fit replay → chain head run ≡ chain head replay → run ≢ replay → Compared head run replay → HasClash head run replay
has-clash head run replay f g same differ (inl messages-are) = absurd (differ (messages-same head run replay f g messages-are))
has-clash head run replay f g same differ (inr w) = record { first = w.0; second = w.1; place = w.2.place; one_digest = w.2.one_digest same }

pub clash_exists : ClashExists
clash_exists head run replay long f g same differ = has-clash head run replay f g same differ (compared head run replay long)
