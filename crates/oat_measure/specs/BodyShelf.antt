-- The bodies of the windows that are done, as a shelf keeps them: their bits and their targets stand one behind the other.
use Rattle.std.specs.Prelude.{ℕ, ◌≤◌, Bool, List, slice_range}
use Rattle.oat_blob.specs.Body.{Body}
use Rattle.oat_measure.specs.{declared.shelf.Part.Part, declared.shelf.Filed.Filed}

-- bodies in the order of their windows, and how many more bodies, bits and targets there is room for
pub record BodyShelf : Type 0 where
  pub bodies : List Body
  pub spare_bodies : ℕ
  pub spare_bits : ℕ
  pub spare_targets : ℕ

-- a body, by its parts of all bits and of all targets
abbrev pub filed_body : List Bool → List ℕ → Filed → Body
filed_body bits targets filed = record {
  head = filed.head;
  bits = slice_range bits filed.bits.from filed.bits.to;
  targets = slice_range targets filed.targets.from filed.targets.to;
}

-- a part of a list of this length
pub record IsPartOf (length : ℕ) (part : Part) : Type 0 where
  pub rises : part.from ≤ part.to
  pub within : part.to ≤ length

pub record IsFiledIn (bits targets : ℕ) (filed : Filed) : Type 0 where
  pub bits_part : IsPartOf bits filed.bits
  pub targets_part : IsPartOf targets filed.targets
