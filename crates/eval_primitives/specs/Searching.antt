-- Searches from the front of a list on.
use Rattle.std.specs.Prelude.{◌≡◌, ◌==◌, ℕ, ◌+◌, List, drop}
use Rattle.lang_meaning.specs.Lookup.{is_in, passed}
use Rattle.eval_primitives.specs.declared.searching.Walk.{Walk}

-- whether a class is in the list, and how many are passed
pub record IsWalk (classes : List ℕ) (class : ℕ) (w : Walk) : Type 0 where
  pub found : w.found ≡ is_in class classes
  pub passed : w.passed ≡ passed (λ e. class == e) classes

-- so many were passed and it was not among them
pub record IsPast (classes : List ℕ) (class : ℕ) (at count : ℕ) : Type 0 where
  pub found : is_in class classes ≡ is_in class (drop at classes)
  pub passed : passed (λ e. class == e) classes ≡ count + passed (λ e. class == e) (drop at classes)
  pub all : count ≡ at
