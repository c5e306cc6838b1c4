-- Laws of the windows of any list: of longer lists, of what the items show, and of items that come one by one.
use Rattle.std.proofs.Common.{◌≡◌, ℕ, Bool, true, List, ◌++◌, filter_map, Option, Some, None, option_and_then}
use Rattle.std.specs.Prelude.{if◌then◌else◌, slice_get}
use Rattle.oat_events.specs.{Cuts.cut_up, Windows.inside, Windows.up_to, Windows.is_closed, Windows.Agrees}
use Rattle.oat_events.proofs.Cutting.{cut_windows}
use Rattle.oat_events.proofs.Windowing as windows

-- ---- of a longer list

-- A window that has closed stays as it is where more items come, and so does what lies before it.
pub closed_stays : {X : Type 0} (opens seals : X → Bool) (s : ℕ) (xs ys : List X) → is_closed opens seals s xs ≡ true → is_closed opens seals s (xs ++ ys) ≡ true
closed_stays opens seals s xs ys closed = windows.closed_more opens seals s xs ys closed

pub inside_stays : {X : Type 0} (opens seals : X → Bool) (s : ℕ) (xs ys : List X) → is_closed opens seals s xs ≡ true → inside opens seals s (xs ++ ys) ≡ inside opens seals s xs
inside_stays opens seals s xs ys closed = windows.inside_more opens seals s xs ys closed

pub up_to_stays : {X : Type 0} (opens seals : X → Bool) (s : ℕ) (xs ys : List X) → is_closed opens seals s xs ≡ true → up_to opens seals s (xs ++ ys) ≡ up_to opens seals s xs
up_to_stays opens seals s xs ys closed = windows.up_to_more opens seals s xs ys closed

-- What lies up to a window, the window, and some rest are the list.
pub windows_are_parts : {X : Type 0} (opens seals : X → Bool) (s : ℕ) (xs : List X) → (rest : List X) × ((up_to opens seals s xs ++ inside opens seals s xs) ++ rest ≡ xs)
windows_are_parts opens seals s xs = let w = windows.around opens seals s xs in (w.rest, w.whole)

-- ---- of what the items show

-- Where the tests agree, a window of what is shown is what the window shows, and is closed alike.
module _ {X Y : Type 0} (show : X → Option Y) (opens seals : X → Bool) (opens_shown seals_shown : Y → Bool) (one : Agrees show opens opens_shown) (two : Agrees show seals seals_shown) where
  pub closed_alike : (s : ℕ) (xs : List X) → is_closed opens_shown seals_shown s (filter_map show xs) ≡ is_closed opens seals s xs
  closed_alike s xs = windows.closed_shown show opens seals opens_shown seals_shown one two s xs

  pub inside_alike : (s : ℕ) (xs : List X) → inside opens_shown seals_shown s (filter_map show xs) ≡ filter_map show (inside opens seals s xs)
  inside_alike s xs = windows.inside_shown show opens seals opens_shown seals_shown one two s xs

  pub up_to_alike : (s : ℕ) (xs : List X) → up_to opens_shown seals_shown s (filter_map show xs) ≡ filter_map show (up_to opens seals s xs)
  up_to_alike s xs = windows.up_to_shown show opens seals opens_shown seals_shown one two s xs

-- What is shown of what is shown is shown at once.
pub shown_at_once : {X Y Z : Type 0} (f : X → Option Y) (g : Y → Option Z) (both : X → Option Z) → ((x : X) → both x ≡ option_and_then g (f x))
    → (xs : List X) → filter_map both xs ≡ filter_map g (filter_map f xs)
shown_at_once f g both same xs = windows.shown_twice f g both same xs

-- ---- of items that come one by one

-- Taken up item by item, the windows that have closed are those of the whole list.
pub windows_are_cut : {X : Type 0} (opens seals : X → Bool) (xs : List X) (s : ℕ)
    → slice_get (cut_up opens seals xs).closed s ≡ if is_closed opens seals s xs then Some (inside opens seals s xs) else None
windows_are_cut opens seals xs s = cut_windows opens seals xs s
