-- The names of a path, where each edge that a source shows has its name.
use Rattle.std.proofs.Common.{◌≡◌, ℕ, zero, suc, Bool, true, false, cond, eqb, List, [], ◌∷◌, ◌++◌, map, filter_map, Some, None, refl, ap, ◌∙◌}
use Rattle.std.specs.List.{cons_option}
use Rattle.oat_journal.specs.{Map, EdgeName, name_of, through, beyond, past, inside, SourceEvent, takes, enters, leaves, loads, stores, outputs, is_entered, is_left, edge_taken, stretch}
use Rattle.oat_follow.specs.Placement.{AreNamed, Placement}

module _ {E : Type 0} (flow : Map) (p : Placement E) (name : E → EdgeName) where
  abbrev Named : List (SourceEvent E) → Type 0
  Named es = AreNamed flow p name es

  pub named-append : (xs ys : List (SourceEvent E)) → Named xs → Named ys → Named (xs ++ ys)
  named-append [] ys h g = g
  named-append (x ∷ xs) ys h g = (h.0, named-append xs ys h.1 g)

  named-through : (t : SourceEvent E → Bool) (xs : List (SourceEvent E)) → Named xs → Named (through t xs)
  named-through t [] h = h
  named-through t (x ∷ xs) h = by (t x) (named-through t xs h.1) where
    by : (b : Bool) → Named (through t xs) → Named (cond b (x ∷ []) (x ∷ through t xs))
    by true rest = (h.0, tt)
    by false rest = (h.0, rest)

  named-beyond : (t : SourceEvent E → Bool) (xs : List (SourceEvent E)) → Named xs → Named (beyond t xs)
  named-beyond t [] h = h
  named-beyond t (x ∷ xs) h = by (t x) (named-beyond t xs h.1) where
    by : (b : Bool) → Named (beyond t xs) → Named (cond b xs (beyond t xs))
    by true rest = h.1
    by false rest = rest

  named-inside : (opens seals : SourceEvent E → Bool) (s : ℕ) (xs : List (SourceEvent E)) → Named xs → Named (inside opens seals s xs)
  named-inside opens seals zero xs h = named-through seals (beyond opens xs) (named-beyond opens xs h)
  named-inside opens seals (suc s) xs h =
      named-inside opens seals s (past opens seals xs) (named-beyond seals (beyond opens xs) (named-beyond opens xs h))

  abbrev names_in : (ℕ → E) → ℕ → List (SourceEvent E) → List EdgeName
  names_in finish op es = map name (filter_map (edge_taken finish op) es)

  abbrev names_seen : (ℕ → E) → ℕ → List (SourceEvent E) → List EdgeName
  names_seen finish op es = map (name_of flow) (map p.edge (filter_map (edge_taken finish op) es))

  named-end : (finish : ℕ → E) (op : ℕ) (es : List (SourceEvent E)) → name_of flow (p.edge (finish op)) ≡ name (finish op) → names_seen finish op es ≡ names_in finish op es → (b : Bool)
      → map (name_of flow) (map p.edge (cons_option (cond b (Some (finish op)) None) (filter_map (edge_taken finish op) es))) ≡ map name (cons_option (cond b (Some (finish op)) None) (filter_map (edge_taken finish op) es))
  named-end finish op es is rest true = ap (λ (n : EdgeName). n ∷ names_seen finish op es) is ∙ ap (λ (ns : List EdgeName). name (finish op) ∷ ns) rest
  named-end finish op es is rest false = rest

  pub named-path : (finish : ℕ → E) (op : ℕ) (es : List (SourceEvent E)) → name_of flow (p.edge (finish op)) ≡ name (finish op) → Named es → names_seen finish op es ≡ names_in finish op es
  named-path finish op [] is h = refl
  named-path finish op (takes edge ∷ es) is h =
      ap (λ (n : EdgeName). n ∷ names_seen finish op es) h.0 ∙ ap (λ (ns : List EdgeName). name edge ∷ ns) (named-path finish op es is h.1)
  named-path finish op (enters q ∷ es) is h = named-path finish op es is h.1
  named-path finish op (leaves q ∷ es) is h = named-end finish op es is (named-path finish op es is h.1) (eqb q op)
  named-path finish op (loads cell value ∷ es) is h = named-path finish op es is h.1
  named-path finish op (stores cell value ∷ es) is h = named-path finish op es is h.1
  named-path finish op (outputs value ∷ es) is h = named-path finish op es is h.1

  pub named-call : (finish : ℕ → E) (op s : ℕ) (es : List (SourceEvent E)) → name_of flow (p.edge (finish op)) ≡ name (finish op) → Named es → names_seen finish op (stretch op s es) ≡ names_in finish op (stretch op s es)
  named-call finish op s es is h = named-path finish op (stretch op s es) is (named-inside (is_entered op) (is_left op) s es h)
