-- What one more instruction adds to a window.
use Rattle.std.proofs.Common.{◌≡◌, ◌++◌, ◌∷◌, ◌∙◌, ℕ, List, [], Option, Some, None, append-nil, append_assoc, filter_map, map, option_map, refl, sym, ap}
use Rattle.std.specs.List.{cons_option}
use Rattle.std.proofs.lemmas.{List.map-append, List.Elements.filter_map-append}
use Rattle.oat_attest.specs.{Cells, Image, Edge, MonitorCall, start_cells, Entry, CheckedUse, use_behind, uses_behind, made_call, returned, returns_of_run, shown_edge}
use Rattle.oat_watch.specs.{declared.watched.CheckedUse.CheckedUse as ShownUse, declared.window.Window.Window, Shown.Holds, Shown.use_of}

cons-append : {X : Type 0} (o : Option X) (xs ys : List X) → cons_option o (xs ++ ys) ≡ cons_option o xs ++ ys
cons-append None xs ys = refl
cons-append (Some x) xs ys = refl

map-cons : {X Y : Type 0} (f : X → Y) (o : Option X) → map f (cons_option o []) ≡ cons_option (option_map f o) []
map-cons f None = refl
map-cons f (Some x) = refl

uses-more : (words : Cells) (calls before : List (Option MonitorCall)) (call : Option MonitorCall)
    → uses_behind words before (calls ++ call ∷ []) ≡ uses_behind words before calls ++ cons_option (use_behind words (before ++ calls) call) []
uses-more words [] before call = ap (λ (all : List (Option MonitorCall)). cons_option (use_behind words all call) []) (sym (append-nil before))
uses-more words (first ∷ calls) before call =
    ap (cons_option (use_behind words before first))
    (uses-more words calls (before ++ first ∷ []) call
    ∙ ap (λ (all : List (Option MonitorCall)). uses_behind words (before ++ first ∷ []) calls ++ cons_option (use_behind words all call) []) (append_assoc before (first ∷ []) calls))
    ∙ cons-append (use_behind words before first) (uses_behind words (before ++ first ∷ []) calls) _

-- the window of one instruction more
pub taken : (image : Image) (op : ℕ) (before : List (Option MonitorCall)) (made : List Entry) (e : Entry) (old new : Window) (edge : Option Edge) (address : Option ℕ) (use_ : Option ShownUse)
    → new.path.items ≡ old.path.items ++ cons_option edge [] → new.returns.items ≡ old.returns.items ++ cons_option address [] → new.uses.items ≡ old.uses.items ++ cons_option use_ []
    → edge ≡ shown_edge image.map op e → address ≡ returned (made_call e) → option_map use_of use_ ≡ use_behind (start_cells image) (before ++ map made_call made) (made_call e)
    → Holds image op before made old → Holds image op before (made ++ e ∷ []) new
taken image op before made e old new edge address use_ path returns uses edge_is address_is use_is h = record {
  path = path ∙ (ap (λ (es : List Edge). es ++ cons_option edge []) h.path
      ∙ (ap (λ (o : Option Edge). filter_map (shown_edge image.map op) made ++ cons_option o []) edge_is ∙ sym (filter_map-append (shown_edge image.map op) made (e ∷ []))));
  returns = returns ∙ (ap (λ (all : List ℕ). all ++ cons_option address []) h.returns
      ∙ (ap (λ (o : Option ℕ). returns_of_run made ++ cons_option o []) address_is ∙ sym (filter_map-append (λ (x : Entry). returned (made_call x)) made (e ∷ []))));
  uses = ap (map use_of) uses ∙ (map-append use_of old.uses.items (cons_option use_ [])
      ∙ (ap (λ (us : List CheckedUse). us ++ map use_of (cons_option use_ [])) h.uses
      ∙ (ap (λ (us : List CheckedUse). uses_behind (start_cells image) before (map made_call made) ++ us) (map-cons use_of use_ ∙ ap (λ (o : Option CheckedUse). cons_option o []) use_is)
      ∙ (sym (uses-more (start_cells image) (map made_call made) before (made_call e))
      ∙ ap (uses_behind (start_cells image) before) (sym (map-append made_call made (e ∷ [])))))));
}
