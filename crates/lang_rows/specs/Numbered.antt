-- Names by numbers: names with the same text have the same number, and others have another.
use Rattle.std.specs.Prelude.{◌≡◌, ◌≢◌, ℕ, ◌+◌, ◌<◌, ◌⊎◌, List, [], length, Option, Some, None, slice_index_or, if◌then◌else◌}
use Rattle.std.specs.Str.{bytes_eq}
use Rattle.lang_meaning.specs.Lookup.{text}
use Rattle.lang_meaning.specs.Literals.{function_row}
use Rattle.lang_meaning.specs.declared.program.FunctionRow.{FunctionRow}

-- a name that has a text is its own number; all others have that behind the table
abbrev pub IsNumber : List (List ℕ) → ℕ → ℕ → Type 0
IsNumber names n k = ((text names n ≡ []) × (k ≡ length names)) ⊎ ((text names n ≢ []) × (k ≡ n))

-- the functions of names, by their numbers
pub record AreNumbered (names : List (List ℕ)) (functions : List FunctionRow) (rows : List (Option FunctionRow)) : Type 0 where
  pub size : length rows ≡ length names + 1
  pub each : (n k : ℕ) → IsNumber names n k → slice_index_or rows k None ≡ function_row names functions (text names n)

-- a function more, which counts before all others
pub record IsNoted (names : List (List ℕ)) (f : FunctionRow) (old new : List (Option FunctionRow)) : Type 0 where
  pub size : length new ≡ length old
  pub each : (n k : ℕ) → IsNumber names n k
      → slice_index_or new k None ≡ (if bytes_eq (text names n) (text names f.name.0) then Some f else slice_index_or old k None)

-- what stands under the numbers of the names below one
pub record AreOfNames (names : List (List ℕ)) (numbered : List (Option FunctionRow)) (count : ℕ) (rows : List (Option FunctionRow)) : Type 0 where
  pub size : length rows ≡ count
  pub each : (n k : ℕ) (default : Option FunctionRow) → n < count → IsNumber names n k → slice_index_or rows n default ≡ slice_index_or numbered k None
