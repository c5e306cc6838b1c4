-- The text that a page holds (docs/DEFINITIONS.md).
use Rattle.std.specs.Prelude.{◌≡◌, ℕ, List, IfOk}
use Rattle.oat_image.specs.declared.receiver.Page.{Page}

-- it has this text, unless memory ran out
abbrev pub IsPage : Page → List ℕ → Type 0
IsPage page text = IfOk page.state (λ _. page.text.items ≡ text)
