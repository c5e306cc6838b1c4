-- The clash of two lists while both come in: the step of one address each.
use Rattle.std.proofs.Common.{◌≡◌, ◌≢◌, ◌<◌, ◌+◌, ◌-◌, ◌^◌, ◌↔◌, ℕ, true, false, List, [], ◌∷◌, ◌++◌, length, take, drop, get_or, All, Option, Some, None, IfSome, IfNone, IsNone, refl, sym, ap, subst}
use Rattle.std.proofs.Common.{◌∙◌, arith, length-drop}
use Rattle.std.specs.Option.{option_or}
use Rattle.std.proofs.lemmas.List.{same_from_push, take_more, get_or-drop}
use Rattle.sha2.specs.Sha256.{sha256}
use Rattle.oat_chain.specs.{declared.message.Message.Message, declared.message.Clash.Clash, Chain.chain, Chain.link, Chain.messages, Chain.DiffersAt, Clash.bytes_of, Clash.LastDiffers}
use Rattle.oat_chain.specs.{Clash.IsLastClash, Clash.IsLastMessage}
use Rattle.oat_chain.proofs.Messages.{messages-push, messages-same, differ-not-same, differ-now, differ-still, same-still, same-start}

-- the two messages, where they differ
abbrev Parts : Message → Message → Clash → Type 0
Parts first second c = (c.first ≡ first) × (c.second ≡ second) × (bytes_of first ≢ bytes_of second)

pub differs-at : (head run replay : List ℕ) (first second : Message) (c : Clash) → IsLastMessage head run (bytes_of first) → IsLastMessage head replay (bytes_of second)
    → Parts first second c → LastDiffers head run replay (bytes_of c.first) (bytes_of c.second)
differs-at head run replay first second c a b parts =
    subst (λ (m : Message). LastDiffers head run replay (bytes_of m) (bytes_of c.second)) (sym parts.0)
    (subst (λ (m : Message). LastDiffers head run replay (bytes_of first) (bytes_of m)) (sym parts.1)
    (differ-now head run replay (bytes_of first) (bytes_of second) a b parts.2))

last-is : (head addresses : List ℕ) (a : ℕ) (last : List ℕ) → IsLastMessage head (addresses ++ a ∷ []) last → link (chain head addresses) a ≡ last
last-is head addresses a last is =
    sym ((same_from_push is.front (messages head addresses) last (link (chain head addresses) a) (sym is.whole ∙ messages-push head addresses a)).1)

pub later-clash : (head run replay : List ℕ) (a b : ℕ) (first second : Message) (newer older : Option Clash)
    → IsLastMessage head (run ++ a ∷ []) (bytes_of first) → IsLastMessage head (replay ++ b ∷ []) (bytes_of second)
    → IfNone newer (bytes_of first ≡ bytes_of second) → IfSome newer (Parts first second) → IsLastClash head run replay older
    → IsLastClash head (run ++ a ∷ []) (replay ++ b ∷ []) (option_or newer older)
later-clash head run replay a b first second (Some c) older is-first is-second same parts so_far =
    differs-at head (run ++ a ∷ []) (replay ++ b ∷ []) first second c is-first is-second parts
later-clash head run replay a b first second None None is-first is-second same parts so_far =
    same-still head run replay a b so_far (last-is head run a (bytes_of first) is-first ∙ same ∙ sym (last-is head replay b (bytes_of second) is-second))
later-clash head run replay a b first second None (Some c) is-first is-second same parts so_far =
    differ-still head run replay (bytes_of c.first) (bytes_of c.second) a b so_far (last-is head run a (bytes_of first) is-first ∙ same ∙ sym (last-is head replay b (bytes_of second) is-second))

-- ---- the start and the end

pub first-clash : (head run replay : List ℕ) (first second : Message) (newer : Option Clash) → length head ≡ 50
    → IsLastMessage head run (bytes_of first) → IsLastMessage head replay (bytes_of second) → (0 < length run → 0 < length replay → ⊥)
    → IfNone newer (bytes_of first ≡ bytes_of second) → IfSome newer (Parts first second) → IsLastClash head run replay newer
first-clash head run replay first second None long is-first is-second one same parts =
    same-start head run replay (bytes_of first) (bytes_of second) long is-first is-second one same
first-clash head run replay first second (Some c) long is-first is-second one same parts =
    differs-at head run replay first second c is-first is-second parts

pub none-when-same : (head run replay : List ℕ) (last : Option Clash) → All (λ address. address < 2 ^ 64) run → All (λ address. address < 2 ^ 64) replay
    → IsLastClash head run replay last → IsNone last ↔ (run ≡ replay)
none-when-same head run replay None f g is = (λ _. messages-same head run replay f g is, λ _. refl)
none-when-same head run replay (Some c) f g is = (λ h. absurd (let q : true ≡ false = h in cc), λ same. absurd (differ-not-same head run replay _ _ is.place same))

pub place-of : (head run replay : List ℕ) (last : Option Clash) → IsLastClash head run replay last
    → IfSome last (λ c. DiffersAt (messages head run) (messages head replay) (bytes_of c.first) (bytes_of c.second))
place-of head run replay None is = tt
place-of head run replay (Some c) is = is.place

pub digest-of : (head run replay : List ℕ) (last : Option Clash) → chain head run ≡ chain head replay → IsLastClash head run replay last
    → IfSome last (λ c. sha256 (bytes_of c.first) ≡ sha256 (bytes_of c.second))
digest-of head run replay None same is = tt
digest-of head run replay (Some c) same is = is.one_digest same

-- ---- the lists as far as they have come

-- the next address of the rest
pub comes-more : (all rest : List ℕ) (extra i j a : ℕ) → rest ≡ drop extra all → i < length rest → a ≡ get_or rest i 0 → j ≡ i + 1
    → take (extra + j) all ≡ take (extra + i) all ++ a ∷ []
comes-more all rest extra i j a back within is next =
    let here : get_or all (extra + i) 0 ≡ a = sym (get_or-drop extra all i 0) ∙ ap (λ (xs : List ℕ). get_or xs i 0) (sym back) ∙ sym is in
    let long : length rest ≡ length all - extra = ap length back ∙ length-drop extra all in
    let step : extra + j ≡ (extra + i) + 1 = omega arith in
    ap (λ (n : ℕ). take n all) step ∙ take_more all (extra + i) 0 (omega arith) ∙ ap (λ (n : ℕ). take (extra + i) all ++ n ∷ []) here
