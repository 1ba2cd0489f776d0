-- The limits of the command's numbers.
use Rattle.std.specs.Prelude.{ℕ}

-- the words of an arena where no number is given, and the smallest number
abbrev pub usual_arena_words : ℕ
usual_arena_words = 4194304

abbrev pub least_arena_words : ℕ
least_arena_words = 65536

-- the largest, which is that of machines
abbrev pub most_arena_words : ℕ
most_arena_words = 16777216

-- the instructions of a run, or the levels of an evaluation, where no number is given, and the largest number
abbrev pub usual_steps : ℕ
usual_steps = 50000000

abbrev pub most_steps : ℕ
most_steps = 4294967295

-- the greatest number of which a text is made
abbrev pub most_made : ℕ
most_made = 500
