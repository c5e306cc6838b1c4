-- The path of a completed call goes back as it called, in the source and so in the image.
use Rattle.std.proofs.Common.{◌≡◌, ◌+◌, ◌*◌, ℕ, zero, suc, ℤ, Bool, true, false, List, [], ◌∷◌, ◌++◌, length, map, Option, Some, None, nat_eq, if◌then◌else◌, refl, sym, ap, subst, ◌∙◌, arith}
use Rattle.std.specs.List.{cons_option, filter_map}
use Rattle.oat_events.proofs.WindowLaws.{windows_are_parts}
use Rattle.oat_check.proofs.{Kept.keeps, Sourcing.calls_go_back}
use Rattle.oat_globals.specs.{GoesBack, Turn, Turned, pops, pushes, stays, strays, turn_of, after, Program, Call, ICall, SourceEvent, enters, is_entered, is_left, leaves, outputs, takes, edge_taken}
use Rattle.oat_globals.specs.{events_after, has_completed, path_of_call, shown_from, inside, up_to, line_turn, IsConsistent, CodeLine, instruction, IsChecked, source_events, source_of, source_start}
use Rattle.oat_globals.specs.{LineEdge, LinePlace, SourceState, branches, calls, finishes, icalls, jumps, returns, source_step, Means, World, return_address}
use Rattle.oat_locals.specs.{loads, stores}
use Rattle.oat_match.specs.{Compiled.IsCompiled, Following.CompiledProgramsMean, Following.CompiledWindowsGoBack, Following.StepsTakeEdges, Following.TakesEdgesOf, Placed.IsLineEdge}
use Rattle.oat_match.specs.{Placed.address_of_line, Placed.call_arguments, Placed.code_line_at, Placed.edge_in_image, Placed.frame_at, Placed.placement}
use Rattle.oat_match.proofs.{CallRows.HasCallRow, CallRows.call_row, CallRows.icall_row, Finding.located}
use Rattle.oat_globals.specs.rows as rows

-- ---- paths that are mapped

-- what an edge does to the sites of the open calls
abbrev turn_at : {P Q : Type 0} → (P → Q) → Turn P → Turn Q
turn_at site (pushes back) = pushes (site back)
turn_at site (pops back) = pops (site back)
turn_at site stays = stays
turn_at site strays = strays

map_pushed : {P Q : Type 0} (site : P → Q) (open_ : List P) (back : P) → map site (open_ ++ back ∷ []) ≡ map site open_ ++ site back ∷ []
map_pushed site [] back = refl
map_pushed site (c ∷ cs) back = ap (λ sites. site c ∷ sites) (map_pushed site cs back)

-- each edge of a path is one of these
abbrev AreEdges : {E : Type 0} → (E → Type 0) → List E → Type 0
AreEdges Is [] = Unit {0}
AreEdges Is (edge ∷ path) = Is edge × AreEdges Is path

mapped_back : {E F P Q : Type 0} (Is : E → Type 0) (turn : E → Turn P) (turns : F → Turn Q) (f : E → F) (site : P → Q) → ((edge : E) → Is edge → turns (f edge) ≡ turn_at site (turn edge))
    → (path : List E) (open_ : List P) → AreEdges Is path → GoesBack turn open_ path → GoesBack turns (map site open_) (map f path)
mapped_back Is turn turns f site each [] open_ are h = ap (map site) h
mapped_back {E} {F} {P} {Q} Is turn turns f site each (edge ∷ path) open_ are h =
    subst (λ (t : Turn Q). Turned (map site open_) t (λ later. GoesBack turns later (map f path))) (sym (each edge are.0))
    (by (turn edge) (λ later. mapped_back Is turn turns f site each path later are.1) h) where
      by : (t : Turn P) → ((later : List P) → GoesBack turn later path → GoesBack turns (map site later) (map f path))
          → Turned open_ t (λ later. GoesBack turn later path) → Turned (map site open_) (turn_at site t) (λ later. GoesBack turns later (map f path))
      by (pushes back) rest k = subst (λ (sites : List Q). GoesBack turns sites (map f path)) (map_pushed site open_ back) (rest (open_ ++ back ∷ []) k)
      by (pops back) rest k = (map site k.0, ap (map site) k.1 ∙ map_pushed site k.0 back, rest k.0 k.2)
      by stays rest k = rest open_ k
      by strays rest k = k

-- ---- the edges of a run

module _ (p : Program) where
  joined : (xs ys : List (SourceEvent LineEdge)) → TakesEdgesOf p xs → TakesEdgesOf p ys → TakesEdgesOf p (xs ++ ys)
  joined [] ys h k = k
  joined (takes edge ∷ xs) ys h k = (h.0, joined xs ys h.1 k)
  joined (enters op ∷ xs) ys h k = joined xs ys h k
  joined (leaves op ∷ xs) ys h k = joined xs ys h k
  joined (loads cell value ∷ xs) ys h k = joined xs ys h k
  joined (stores cell value ∷ xs) ys h k = joined xs ys h k
  joined (outputs value ∷ xs) ys h k = joined xs ys h k

  parted : (xs ys : List (SourceEvent LineEdge)) → TakesEdgesOf p (xs ++ ys) → TakesEdgesOf p xs × TakesEdgesOf p ys
  parted [] ys h = (tt, h)
  parted (takes edge ∷ xs) ys h = let r = parted xs ys h.1 in ((h.0, r.0), r.1)
  parted (enters op ∷ xs) ys h = parted xs ys h
  parted (leaves op ∷ xs) ys h = parted xs ys h
  parted (loads cell value ∷ xs) ys h = parted xs ys h
  parted (stores cell value ∷ xs) ys h = parted xs ys h
  parted (outputs value ∷ xs) ys h = parted xs ys h

  taken : (op : ℕ) (es : List (SourceEvent LineEdge)) → TakesEdgesOf p es → AreEdges (IsLineEdge p) (filter_map (edge_taken finishes op) es)
  taken op [] h = tt
  taken op (takes edge ∷ es) h = (h.0, taken op es h.1)
  taken op (enters left ∷ es) h = taken op es h
  taken op (loads cell value ∷ es) h = taken op es h
  taken op (stores cell value ∷ es) h = taken op es h
  taken op (outputs value ∷ es) h = taken op es h
  taken op (leaves left ∷ es) h = by (nat_eq left op) (taken op es h) where
    by : (t : Bool) → AreEdges (IsLineEdge p) (filter_map (edge_taken finishes op) es) → AreEdges (IsLineEdge p) (cons_option (if t then Some (finishes op) else None) (filter_map (edge_taken finishes op) es))
    by true rest = (tt, rest)
    by false rest = rest

  run_takes : StepsTakeEdges → (ok : IsChecked p) (inputs : List ℤ) (n : ℕ) (s : SourceState) → IsConsistent p s → TakesEdgesOf p (shown_from (source_of p inputs) n s)
  run_takes edges ok inputs zero s g = tt
  run_takes edges ok inputs (suc n) s g =
      joined (source_step p s).shown (shown_from (source_of p inputs) n (source_step p s).state) (edges p ok s g) (run_takes edges ok inputs n (source_step p s).state ((keeps p ok inputs).goes s g))

  call_takes : StepsTakeEdges → (ok : IsChecked p) (inputs : List ℤ) (n op s : ℕ) → AreEdges (IsLineEdge p) (path_of_call (source_of p inputs) op s (source_events p inputs n))
  call_takes edges ok inputs n op s =
      let es : List (SourceEvent LineEdge) = source_events p inputs n in
      let parts = windows_are_parts (is_entered op) (is_left op) s es in
      let before : List (SourceEvent LineEdge) = up_to (is_entered op) (is_left op) s es in
      let here : List (SourceEvent LineEdge) = inside (is_entered op) (is_left op) s es in
      let all : TakesEdgesOf p ((before ++ here) ++ parts.0) = subst (TakesEdgesOf p) (sym parts.1) (run_takes edges ok inputs n (source_start p inputs) (keeps p ok inputs).good) in
      taken op here (parted before here (parted (before ++ here) parts.0 all).0).1

-- ---- in the image

-- the return site of a call
abbrev site_of : World → LinePlace → ℕ
site_of w at = return_address w (frame_at at)

module _ (p : Program) (w : World) (c : IsCompiled p w) where
  turned : (edge : LineEdge) → IsLineEdge p edge → turn_of (edge_in_image p w edge) ≡ turn_at (site_of w) (line_turn edge)
  turned (jumps from block) h = refl
  turned (branches from bit block) h = refl
  turned (returns from back) h = refl
  turned (finishes op) h = refl
  turned (calls from g) h =
      let n : length (call_arguments (code_line_at p from)) ≡ length h.1 = ap (λ (o : Option CodeLine). length (call_arguments o)) h.2 in
      let row : HasCallRow w from (4 + length h.1) (λ q. rows.Call q (w.label g)) = call_row p w c from h.0 g h.1 (located p from (instruction (Call h.0 g h.1)) h.2) in
      ap pushes (ap (λ (q : ℕ). after (rows.Call q (w.label g))) (at (address_of_line w from) (length (call_arguments (code_line_at p from))) (length h.1) n) ∙ sym row.behind) where
        at : (a m n : ℕ) → m ≡ n → a + 16 + 4 * m ≡ a + 4 * (4 + n)
        at a m n e = omega arith
  turned (icalls from g) h =
      let n : length (call_arguments (code_line_at p from)) ≡ length h.3 = ap (λ (o : Option CodeLine). length (call_arguments o)) h.4 in
      let row : HasCallRow w from (3 + (4 + length h.3)) (λ q. rows.ICall q (length h.3)) = icall_row p w c from h.1 h.2 h.3 (located p from (instruction (ICall h.1 h.2 h.3)) h.4) in
      ap pushes (ap (λ (q : ℕ). after (rows.ICall q (length h.3))) (at (address_of_line w from) (length (call_arguments (code_line_at p from))) (length h.3) n) ∙ sym row.behind) where
        at : (a m n : ℕ) → m ≡ n → a + 28 + 4 * m ≡ a + 4 * (3 + (4 + n))
        at a m n e = omega arith

pub compiled_windows_go_back : CompiledProgramsMean → StepsTakeEdges → CompiledWindowsGoBack
compiled_windows_go_back mean edges p ok w c named inputs fit o begun n s body has =
    let means : Means (source_of p inputs) w.image (placement p w) o inputs = mean p ok w c named inputs fit o begun in
    let done : has_completed o.op s (events_after (source_of p inputs) n) ≡ true = means.sealed s n body has in
    subst (GoesBack turn_of []) (sym (means.shows s n n body done has).edges)
    (mapped_back (IsLineEdge p) line_turn turn_of (edge_in_image p w) (site_of w) (turned p w c) (path_of_call (source_of p inputs) o.op s (source_events p inputs n)) []
    (call_takes p edges ok inputs n o.op s) (calls_go_back p ok inputs n o.op s done))
