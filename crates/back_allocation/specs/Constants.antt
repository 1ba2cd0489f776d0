-- Names to which one constant alone is given: they need no place, since the constant is made again wherever it is read.
use Rattle.std.specs.Prelude.{◌≡◌, ◌<◌, ℕ, ◌^◌, List, [], length, slice_get, slice_index_or, Option, Some, None}
use Rattle.mid_code.specs.declared.operation.Operation.TheVariants.{Constant}
use Rattle.mid_lines.specs.declared.line.Line.{Line}
use Rattle.mid_lines.specs.declared.line.Line.TheVariants.{Do}
use Rattle.back_liveness.specs.declared.step.Interval.{Interval}
use Rattle.back_allocation.specs.LineSteps.{line_gives}

abbrev pub constant_in : (constants : List (Option ℕ)) → (name : ℕ) → Option ℕ
constant_in constants v = slice_index_or constants v None

-- all of them are words
abbrev pub AreWords : (constants : List (Option ℕ)) → Type 0
AreWords constants = (v w : ℕ) → constant_in constants v ≡ Some w → w < 2 ^ 32

-- the constants of so many names, of which the first are parameters, as the first lines tell
pub record AreConstants (lines : List Line) (count parameters names : ℕ) (constants : List (Option ℕ)) : Type 0 where
  pub long : length constants ≡ names
  pub given :
      (line to w : ℕ) (x : Line) → line < count → slice_get lines line ≡ Some x → line_gives x ≡ Some to → constant_in constants to ≡ Some w
      → x ≡ Do (Constant to w)
  pub passed : (v : ℕ) → v < parameters → constant_in constants v ≡ None
  pub words : AreWords constants

-- names of constants have no intervals and no parts, and all others have theirs
pub record AreKept (constants : List (Option ℕ)) (found kept : List (Option Interval)) : Type 0 where
  pub long : length kept ≡ length found
  pub same : (v : ℕ) → constant_in constants v ≡ None → slice_index_or kept v None ≡ slice_index_or found v None
  pub none : (v w : ℕ) → constant_in constants v ≡ Some w → slice_index_or kept v None ≡ None

pub record AreKeptParts (constants : List (Option ℕ)) (parts kept : List (List Interval)) : Type 0 where
  pub long : length kept ≡ length parts
  pub same : (v : ℕ) → constant_in constants v ≡ None → slice_index_or kept v [] ≡ slice_index_or parts v []
  pub none : (v w : ℕ) → v < length parts → constant_in constants v ≡ Some w → slice_index_or kept v [] ≡ []
