-- The limit of this profile by which texts are judged wherever they are read.
use Rattle.std.specs.Prelude.{ℕ}

-- the bytes that the text of a file may have
abbrev pub longest_text : ℕ
longest_text = 1048576
