-- The table of commands: the words that each begins with, the bounds of the numbers that come next, and the limits of the files that its other words name.
-- All other lists of words are usage (docs/FORMATS.md).
use Rattle.std.specs.{Prelude.◌≡◌, Prelude.◌<◌, Prelude.◌≤◌, Prelude.◌+◌, Prelude.ℕ, Prelude.Bool, Prelude.true, Prelude.false, Prelude.not, Prelude.◌&&◌, Prelude.◌||◌, Prelude.nat_eq, Prelude.List}
use Rattle.std.specs.{Prelude.◌∷◌, Prelude.length, Prelude.take, Prelude.drop, Prelude.map, Prelude.get_or, Prelude.Some, Prelude.Contains, Prelude.codes, Prelude.[], Str.bytes_eq}
use Rattle.std.specs.{Str.Parse.digits_value}
use Rattle.oat_lines.specs.Decimal.{numeral_of}
use Rattle.oat_page.specs.{Loads.Wanted, Loads.wanted_of, Outcome.Outcome, Outcome.line, Outcome.says, Limits.blob_limit, Limits.case_limit, Limits.image_limit, Limits.policy_limit}
use Rattle.oat_page.specs.{Limits.program_limit, Limits.script_limit}
use Rattle.oat_words.specs.{declared.command.Command.Command, declared.command.Command.TheVariants.Run, declared.command.Command.TheVariants.Build, declared.command.Command.TheVariants.Verify}
use Rattle.oat_words.specs.{declared.command.Command.TheVariants.Device, declared.command.Command.TheVariants.Trace, declared.command.Command.TheVariants.Policy}
use Rattle.oat_words.specs.{declared.command.Command.TheVariants.Owner, declared.command.Command.TheVariants.Attest, declared.command.Command.TheVariants.AttestJson}
use Rattle.oat_words.specs.{declared.command.Command.TheVariants.Drill}

abbrev pub commands : List Command
commands = Run ∷ Verify ∷ Device ∷ Policy ∷ Build ∷ Trace ∷ Owner ∷ Attest ∷ AttestJson ∷ Drill ∷ []

abbrev pub fixed_of : Command → List (List ℕ)
fixed_of Run = codes "run" ∷ []
fixed_of Build = codes "build" ∷ []
fixed_of Verify = codes "verify" ∷ []
fixed_of Device = codes "device" ∷ []
fixed_of Trace = codes "trace" ∷ []
fixed_of Policy = codes "policy" ∷ []
fixed_of Owner = codes "owner" ∷ []
fixed_of Attest = codes "attest" ∷ []
fixed_of AttestJson = codes "attest" ∷ codes "--json" ∷ []
fixed_of Drill = codes "drill" ∷ []

-- the greatest value of each of its numbers
abbrev pub bounds_of : Command → List ℕ
bounds_of Run = []
bounds_of Build = []
bounds_of Verify = []
bounds_of Device = []
bounds_of Trace = []
bounds_of Policy = []
bounds_of Owner = []
bounds_of Attest = []
bounds_of AttestJson = []
bounds_of Drill = 4294967295 ∷ []

abbrev pub limits_of : Command → List ℕ
limits_of Run = program_limit ∷ case_limit ∷ []
limits_of Build = program_limit ∷ []
limits_of Verify = image_limit ∷ case_limit ∷ blob_limit ∷ []
limits_of Device = image_limit ∷ case_limit ∷ []
limits_of Trace = image_limit ∷ case_limit ∷ []
limits_of Policy = image_limit ∷ case_limit ∷ blob_limit ∷ policy_limit ∷ []
limits_of Owner = script_limit ∷ []
limits_of Attest = program_limit ∷ case_limit ∷ []
limits_of AttestJson = program_limit ∷ case_limit ∷ []
limits_of Drill = []

-- A word is a number: one to ten decimal digits, with leading zeros or without, of a value that is at most the bound.
pub record IsNumber (bound : ℕ) (word : List ℕ) : Type 0 where
  pub few : length word ≤ 10
  pub spelled : numeral_of word ≡ Some (digits_value 10 word)
  pub small : digits_value 10 word ≤ bound

-- the first of these words are numbers with these bounds
abbrev pub AreNumbers : List ℕ → List (List ℕ) → Type 0
AreNumbers bounds words = (k : ℕ) → k < length bounds → IsNumber (get_or bounds k 0) (get_or words k [])

-- Words are of a command: they begin as it does, spell its numbers, and name as many files as it loads.
pub record IsLine (words : List (List ℕ)) (command : Command) : Type 0 where
  pub listed : Contains commands command
  pub begins : take (length (fixed_of command)) words ≡ fixed_of command
  pub numbers : AreNumbers (bounds_of command) (drop (length (fixed_of command)) words)
  pub count : length words ≡ length (fixed_of command) + length (bounds_of command) + length (limits_of command)

-- the numbers that words of a command spell
abbrev pub numbers_of : List (List ℕ) → Command → List ℕ
numbers_of words command = map (digits_value 10) (take (length (bounds_of command)) (drop (length (fixed_of command)) words))

-- the files that words of a command name
abbrev pub files_of : List (List ℕ) → Command → List Wanted
files_of words command = wanted_of (drop (length (fixed_of command) + length (bounds_of command)) words) (limits_of command)

-- ---- no two commands share words

-- two lists of fixed words differ at a place that both have
abbrev pub differ : List (List ℕ) → List (List ℕ) → Bool
differ [] ws = false
differ (v ∷ vs) [] = false
differ (v ∷ vs) (w ∷ ws) = not (bytes_eq v w) || differ vs ws

-- two commands are told apart by the number of words or by a fixed word
abbrev pub are_apart : Command → Command → Bool
are_apart c d =
    not (nat_eq (length (fixed_of c) + length (bounds_of c) + length (limits_of c)) (length (fixed_of d) + length (bounds_of d) + length (limits_of d)))
    || differ (fixed_of c) (fixed_of d)

abbrev pub is_apart_from : Command → List Command → Bool
is_apart_from c [] = true
is_apart_from c (d ∷ others) = are_apart c d && is_apart_from c others

abbrev pub all_apart : List Command → Bool
all_apart [] = true
all_apart (c ∷ others) = is_apart_from c others && all_apart others

abbrev pub usage : Outcome
usage = says 3 (line (codes "usage: oat run PROG CASE | build PROG | device IMAGE CASE | verify IMAGE CASE BLOB | attest [--json] PROG CASE | drill N | trace IMAGE CASE | policy IMAGE CASE BLOB POLICY | owner SCRIPT"))
