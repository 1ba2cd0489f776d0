-- Names under other numbers: tables that have the same texts in another order, and what is said to a file, renamed.
use Rattle.std.specs.Prelude.{◌≡◌, ℕ, ◌+◌, List, Some, length, slice_get}
use Rattle.lang_renamed.specs.Renaming.{program_by}
use Rattle.front_files.specs.Verdicts.{FileVerdict, accepted, refused}

-- The two tables have the same texts, in another order: name n of the old one is name r n of the new one. Numbers of no name follow in
-- their order.
pub record Renames (r : ℕ → ℕ) (old new : List (List ℕ)) : Type 0 where
  pub once : (m n : ℕ) → r m ≡ r n → m ≡ n
  pub texts : (n : ℕ) → slice_get new (r n) ≡ slice_get old n
  pub back : (m : ℕ) (t : List ℕ) → slice_get new m ≡ Some t → (n : ℕ) × (slice_get old n ≡ Some t)
  pub behind : (k : ℕ) → r (length old + k) ≡ length new + k

abbrev pub file_verdict_by : (ℕ → ℕ) → FileVerdict → FileVerdict
file_verdict_by r (accepted p) = accepted (program_by r p)
file_verdict_by r (refused x) = refused x
