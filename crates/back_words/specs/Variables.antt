-- **The low words**: the control words, and behind them a word for each text of a name that is used as a global variable, and then for each
-- that is used as a dynamic one. Names with the same text share it.
use Rattle.std.specs.Prelude.{ℕ, ◌+◌, ◌*◌, nat_lt, List, [], ◌++◌, length, map, replicate, if◌then◌else◌}
use Rattle.std.specs.List.{range_with_len, position_or_len}
use Rattle.std.specs.Str.{bytes_eq}
use Rattle.lang_meaning.specs.Lookup.{text}
use Rattle.lang_meaning.specs.Cells.{one_of_each}
use Rattle.flat_language.specs.declared.program.FlatProgram.{FlatProgram}
use Rattle.mid_arena.specs.Tags.{unbound_word}
use Rattle.back_lowering.specs.ControlWords.{control_words, variables_address}
use Rattle.back_words.specs.Uses.{globals_among, dynamics_among, program_uses}

-- among the first ones of groups, the number of the one of a group; as many as there are, where there is none
abbrev pub number_among : (group : ℕ → List ℕ) → (firsts : List ℕ) → ℕ → ℕ
number_among group firsts n = position_or_len (λ first. bytes_eq (group n) (group first)) firsts

-- the address of the word of a name, where the words of these stand behind one another; 0 where it is none of them
abbrev pub address_among : (group : ℕ → List ℕ) → (start : ℕ) → (firsts : List ℕ) → ℕ → ℕ
address_among group start firsts n =
    if nat_lt (number_among group firsts n) (length firsts) then start + 4 * number_among group firsts n else 0

module _ (names : List (List ℕ)) (program : FlatProgram) where
  -- one name for each text, in the order in which forms use them
  abbrev pub global_names : List ℕ
  global_names = one_of_each (text names) [] (globals_among (program_uses names program))

  abbrev pub dynamic_names : List ℕ
  dynamic_names = one_of_each (text names) [] (dynamics_among (program_uses names program))

  abbrev pub dynamics_from : ℕ
  dynamics_from = variables_address + 4 * length global_names

  -- the address of the word of each name
  abbrev pub global_addresses : List ℕ
  global_addresses = map (address_among (text names) variables_address global_names) (range_with_len 0 (length names))

  abbrev pub dynamic_addresses : List ℕ
  dynamic_addresses = map (address_among (text names) dynamics_from dynamic_names) (range_with_len 0 (length names))

  abbrev pub variable_count : ℕ
  variable_count = length global_names + length dynamic_names

  -- before the first form control words are 0, and no variable has a value
  abbrev pub low_words : List ℕ
  low_words = replicate control_words 0 ++ replicate variable_count unbound_word
