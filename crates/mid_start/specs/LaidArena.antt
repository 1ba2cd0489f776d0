-- The arena before a run: words that were laid from an address on, and nothing else.
use Rattle.std.specs.Prelude.{ℕ, ◌+◌, ◌*◌, ◌/◌, List, [], ◌++◌, length, map, replicate, Option, Some, None}
use Rattle.mid_code.specs.Arena.{Arena}
use Rattle.mid_start.specs.declared.words.ArenaWords.{ArenaWords}

-- the address behind the last word
abbrev pub end_address : ArenaWords → ℕ
end_address words = words.first + 4 * length words.words

-- in front of the first word there is none
abbrev pub memory_of : ArenaWords → List (Option ℕ)
memory_of words = replicate {A = Option ℕ} (words.first / 4) None ++ map (λ w. Some w) words.words

abbrev pub arena_of : ArenaWords → Arena
arena_of words = record {
  memory = memory_of words;
  laid_from = words.first;
  laid_to = end_address words;
  heap_from = end_address words;
  heap_to = end_address words;
  blocks = [];
}
