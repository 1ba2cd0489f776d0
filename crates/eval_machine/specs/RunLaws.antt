-- What is true along every run of the machine.
use Rattle.std.specs.Prelude.{◌≡◌, ◌≤◌, ◌<◌, ◌+◌, ℕ, List}
use Rattle.lang_meaning.specs.State.{full}
use Rattle.lang_meaning.specs.Prefixes.{IsPrefix, IsLastOf}
use Rattle.eval_machine.specs.Configuration.{Setting, Configuration, come_to}
use Rattle.eval_machine.specs.Run.{steps, start, forms_begun}

-- what was printed up to a configuration, what is left of the input, and the units that were counted
abbrev pub printed_at : Configuration → List ℕ
printed_at m = m.state.state.printed

abbrev pub left_at : Configuration → List ℕ
left_at m = m.state.state.input

abbrev pub units_at : Configuration → ℕ
units_at m = m.state.state.units

-- the law of printing: what was printed stays, and what is printed later stands behind it
abbrev pub LawOfPrinting : Type 0
LawOfPrinting = (s : Setting) (m : Configuration) (n : ℕ) → IsPrefix (printed_at m) (printed_at (steps s n m))

-- the law of reading: what is left of the input later are the last ones of the bytes that were left
abbrev pub LawOfReading : Type 0
LawOfReading = (s : Setting) (m : Configuration) (n : ℕ) → IsLastOf (left_at (steps s n m)) (left_at m)

-- the law of units: each form that begins counts one or more, and none is taken back
abbrev pub LawOfUnits : Type 0
LawOfUnits = (s : Setting) (m : Configuration) (n : ℕ) → units_at m + forms_begun s n m ≤ units_at (steps s n m)

-- the law of words: where the words are full, more were asked for than were left
abbrev pub LawOfWords : Type 0
LawOfWords = (s : Setting) (input : List ℕ) (k n asked left : ℕ) → (steps s n (start s input k)).control ≡ come_to (full asked left) → left < asked
