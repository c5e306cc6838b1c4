-- The words of a command are those that it begins with, its numbers, and a name for each of its files.
use Rattle.std.proofs.Common.{◌≡◌, ◌∙◌, ◌≤◌, ◌++◌, ℕ, List, [], length, take, drop, get_or, Contains, sym, ap, subst, arith, length-append, length-drop}
use Rattle.std.proofs.Math.{Seq.take-append_seam, Seq.drop-append_seam, ListN.get_or-append}
use Rattle.std.proofs.lemmas.List.{take-append-drop, length-take-le, get_or-take}
use Rattle.oat_words.specs.{declared.command.Command.Command, Commands.commands, Commands.fixed_of, Commands.bounds_of, Commands.IsNumber, Commands.AreNumbers, Commands.IsLine}
use Rattle.oat_tool.specs.DefinedLaws.{IsSpelled, LinesAreSpelled}

front_numbers : (bounds : List ℕ) (words : List (List ℕ)) → AreNumbers bounds words → AreNumbers bounds (take (length bounds) words)
front_numbers bounds words are k within = subst (IsNumber (get_or bounds k 0)) (sym (get_or-take (length bounds) words k [] within)) (are k within)

numbers_before : (bounds : List ℕ) (numbers names : List (List ℕ)) → length numbers ≡ length bounds → AreNumbers bounds numbers → AreNumbers bounds (numbers ++ names)
numbers_before bounds numbers names each are k within =
    subst (IsNumber (get_or bounds k 0)) (sym (get_or-append numbers names [] k (omega (arith, each, within)))) (are k within)

spelled : (words : List (List ℕ)) (command : Command) → IsLine words command → IsSpelled words command
spelled words command line =
    let fixed = fixed_of command in
    let bounds = bounds_of command in
    let rest = drop (length fixed) words in
    let dropped = length-drop (length fixed) words in
    let long : length bounds ≤ length rest = omega (arith, dropped, line.count) in
    record {
      numbers = take (length bounds) rest;
      names = drop (length bounds) rest;
      bounded = front_numbers bounds rest line.numbers;
      each_number = length-take-le (length bounds) rest long;
      each_file = omega (arith, dropped, length-drop (length bounds) rest, line.count);
      is = sym (take-append-drop (length fixed) words)
          ∙ (ap (λ (front : List (List ℕ)). front ++ rest) line.begins ∙ ap (λ (more : List (List ℕ)). fixed ++ more) (sym (take-append-drop (length bounds) rest)));
    }

line_of : (words : List (List ℕ)) (command : Command) → Contains commands command → IsSpelled words command → IsLine words command
line_of words command listed s =
    let fixed = fixed_of command in
    let rest = s.numbers ++ s.names in
    subst (λ (ws : List (List ℕ)). IsLine ws command) (sym s.is) (record {
      listed = listed;
      begins = take-append_seam fixed rest;
      numbers = subst (AreNumbers (bounds_of command)) (sym (drop-append_seam fixed rest))
          (numbers_before (bounds_of command) s.numbers s.names s.each_number s.bounded);
      count = omega (arith, length-append fixed rest, length-append s.numbers s.names, s.each_number, s.each_file);
    })

pub lines_are_spelled : LinesAreSpelled
lines_are_spelled words command listed = (spelled words command, line_of words command listed)
