-- What forms are judged by: the functions of names, and the global variables that are defined, both found by numbers.
use Rattle.std.specs.Prelude.{◌≡◌, ℕ, Bool, ◌||◌, List, is_some}
use Rattle.std.specs.Ordering.{nat_cmp}
use Rattle.std.specs.Map.{lookup}
use Rattle.std.specs.BTreeMap.{is_at}
use Rattle.lang_meaning.specs.Lookup.{is_in}
use Rattle.lang_rows.specs.Numbered.{AreNumbered}
use Rattle.lang_warnings.specs.Faults.{defined_globals}
use Rattle.lang_warnings.specs.declared.known.Known.{Known}

-- names that are kept by their numbers
abbrev pub Kept : Type 0
Kept = List (ℕ × Unit {0})

abbrev pub has : ℕ → Kept → Bool
has n kept = is_some (lookup (is_at (nat_cmp n)) kept)

-- these are kept besides, and no others
abbrev pub Keeps : List ℕ → Kept → Kept → Type 0
Keeps ns old new = (n : ℕ) → has n new ≡ (is_in n ns || has n old)

-- just these are kept
abbrev pub AreKept : List ℕ → Kept → Type 0
AreKept ns kept = (n : ℕ) → has n kept ≡ is_in n ns

pub record IsKnown (known : Known) : Type 0 where
  pub rows : AreNumbered known.names.now known.program.now.functions known.rows.now
  pub globals : AreKept (defined_globals known.program.now) known.globals.now
