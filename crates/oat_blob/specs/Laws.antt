-- What the layout of blobs is good for: docs/FORMATS.md.
use Rattle.std.specs.Prelude.{◌≡◌, ℕ, Bool, true, false, List, [], ◌++◌, length, slice_get, Some, is_some}
use Rattle.oat_blob.specs.{Body.Body, Body.IsPlain, Layout.IsBlob}

-- no blob is a proper prefix of another
abbrev pub NoProperPrefix : Type 0
NoProperPrefix = (bytes rest : List ℕ) (body other : Body) (mac other_mac : List ℕ)
    → IsBlob bytes body mac → IsBlob (bytes ++ rest) other other_mac → rest ≡ []

-- a blob determines its body and its MAC
abbrev pub OneBody : Type 0
OneBody = (bytes : List ℕ) (body other : Body) (mac other_mac : List ℕ)
    → IsBlob bytes body mac → IsBlob bytes other other_mac → (body ≡ other) × (mac ≡ other_mac)

-- by whether the window has a serial number: the length of a blob without violation and records,
-- and the place of its flag
abbrev pub shortest_length : Bool → ℕ
shortest_length false = 128
shortest_length true = 132

abbrev pub flag_place : Bool → ℕ
flag_place false = 87
flag_place true = 91

abbrev pub PlainLength : Type 0
PlainLength = (bytes : List ℕ) (body : Body) (mac : List ℕ) → IsPlain body → IsBlob bytes body mac
    → (length bytes ≡ shortest_length (is_some body.head.serial)) × (slice_get bytes (flag_place (is_some body.head.serial)) ≡ Some 0)
