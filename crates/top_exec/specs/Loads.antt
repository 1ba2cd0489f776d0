-- What is taken of a file: all of it, or so many bytes where it is longer.
use Rattle.std.specs.Prelude.{◌≡◌, ℕ, ◌+◌, List, take, Option, IfSome}
use Rattle.base.specs.Limits.{longest_text}

abbrev pub IsTaken : (limit : ℕ) → Option (List ℕ) → List ℕ → Type 0
IsTaken limit held bytes = IfSome held (λ file. bytes ≡ take limit file)

-- of a source: one byte more than one may have
abbrev pub IsTextTaken : Option (List ℕ) → List ℕ → Type 0
IsTextTaken held text = IsTaken (longest_text + 1) held text

-- of an image file: one byte more than the longest has
abbrev pub longest_taken : ℕ
longest_taken = 67908885

abbrev pub IsImageTaken : Option (List ℕ) → List ℕ → Type 0
IsImageTaken held bytes = IsTaken longest_taken held bytes
