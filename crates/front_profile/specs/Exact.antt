-- Verdicts that are not given for the words or the instructions of an expander; and what holds of a call of a macro: it expands to one datum, or is
-- refused for one reason, unless it may be refused for those.
use Rattle.std.specs.Prelude.{◌≡◌, ◌⊎◌, ℕ, List}
use Rattle.base.specs.declared.reason.Reason.{Reason}
use Rattle.base.specs.declared.reason.Reason.TheVariants.{ExpanderArena, ExpanderBudget}
use Rattle.base.specs.Data.{Item}
use Rattle.front_profile.specs.declared.tables.Tables.{Tables}
use Rattle.front_profile.specs.Expansions.{Expands, ExpansionStops}
use Rattle.front_profile.specs.Nodes.{EarlyEnd, refused, Verdict, stands, ended}

-- for want of words or of instructions
abbrev pub IsForWant : Reason → Type 0
IsForWant r = (r ≡ ExpanderArena) ⊎ (r ≡ ExpanderBudget)

abbrev pub IsExactEnd : EarlyEnd → Type 0
IsExactEnd (refused p r) = IsForWant r → ⊥

abbrev pub IsExact : Verdict → Type 0
IsExact (stands m) = Unit {0}
IsExact (ended e) = IsExactEnd e

-- under a table of names
pub record OneExpansion (names : List (List ℕ)) : Type 0 where
  pub datum : (s : Tables) (m : ℕ) (d : Item) (expansion : ℕ) (e f : Item) → Expands names s m d expansion e → Expands names s m d expansion f → e ≡ f
  pub either : (s : Tables) (m : ℕ) (d : Item) (expansion : ℕ) (e : Item) (r : Reason) → Expands names s m d expansion e → ExpansionStops names s m d expansion r → IsForWant r
  pub reason :
      (s : Tables) (m : ℕ) (d : Item) (expansion : ℕ) (q r : Reason) → ExpansionStops names s m d expansion q → ExpansionStops names s m d expansion r
      → (q ≡ r) ⊎ (IsForWant q ⊎ IsForWant r)
