-- The lines of a path: the text of each edge's name (docs/FORMATS.md, "Path lines").
use Rattle.std.specs.{Prelude.ℕ, Prelude.Bool, Prelude.true, Prelude.false, Prelude.not, Prelude.◌==◌, Prelude.List, Prelude.◌++◌, Prelude.take, Prelude.drop, Prelude.Option, Prelude.None}
use Rattle.std.specs.{Prelude.Some, Prelude.unwrap_or, Prelude.codes, List.position, Fmt.decimal}
use Rattle.oat_verify.specs.{hexadecimal, Map, Edge, PlaceName, Site, EdgeName, jump, branch, call, icall, return, finish, stray, name_of}

abbrev pub space : List ℕ
space = codes " "

-- `f` for the entry of f, `f.b` for its block b
abbrev pub name_in : List ℕ → Option (List ℕ) → List ℕ
name_in function None = function
name_in function (Some block) = function ++ codes "." ++ block

abbrev pub place_text : Option PlaceName → List ℕ
place_text None = codes "-"
place_text (Some place) = name_in place.function place.block

abbrev pub site_text : Site → List ℕ
site_text site = place_text site.place ++ codes "#" ++ decimal site.number

abbrev pub bit_text : Bool → List ℕ
bit_text true = codes "1"
bit_text false = codes "0"

-- sixteen digits without the zeros in front of the last eight
abbrev pub short_digits : List ℕ → List ℕ
short_digits digits = drop (unwrap_or (position (λ digit. not (digit == 48)) (take 8 digits)) 8) digits

-- an address of 64 bits by 8 upper-case hexadecimal digits, or by more where it needs them
abbrev pub address_digits : ℕ → List ℕ
address_digits n = short_digits (hexadecimal 16 n)

abbrev pub name_text : EdgeName → List ℕ
name_text (jump site place) = codes "jump " ++ site_text site ++ space ++ place_text place
name_text (branch site bit place) = codes "branch " ++ site_text site ++ space ++ bit_text bit ++ space ++ place_text place
name_text (call site place) = codes "call " ++ site_text site ++ space ++ place_text place
name_text (icall site place) = codes "icall " ++ site_text site ++ space ++ place_text place
name_text (return site called_from) = codes "ret " ++ site_text site ++ space ++ site_text called_from
name_text (finish op) = codes "end " ++ decimal op
name_text (stray from to) = codes "stray " ++ address_digits from ++ space ++ address_digits to

-- the line of an edge, without its line end
abbrev pub edge_line : Map → Edge → List ℕ
edge_line flow edge = name_text (name_of flow edge)
