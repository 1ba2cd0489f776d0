-- What holds of all runs, as the laws say it: of levels and charges, which are this profile's own, of what is printed,
-- and of exits (ISO/IEC 13816:2007, 14.8).
use Rattle.std.specs.Prelude.{◌≡◌, ◌≤◌, ◌<◌, ◌⊎◌, ⊤, ℕ, List, [], ◌∷◌, ◌++◌}
use Rattle.lang_meaning.specs.declared.program.ProgramRows.{ProgramRows}
use Rattle.lang_meaning.specs.Objects.{Object}
use Rattle.lang_meaning.specs.State.{State, first_state, DynamicContext, Exit, Outcome, value, exit, full, more, Limit}
use Rattle.lang_meaning.specs.Objects.{Environment}
use Rattle.lang_meaning.specs.Signals.{Task}
use Rattle.lang_meaning.specs.Meaning.{Meant, ended_more, meaning, meaning_at}
use Rattle.lang_meaning.specs.Prefixes.{IsPrefix}

-- what is known at some levels of what comes at more of them: an end is the same, with the same bytes, units
-- and peak, and what is printed is a prefix
pub record IsSettled (at_few at_many : Meant) : Type 0 where
  pub same : (at_few.end ≡ ended_more → ⊥) → at_many ≡ at_few
  pub prefix : IsPrefix at_few.printed at_many.printed

-- the law of levels
abbrev pub LawOfLevels : Type 0
LawOfLevels =
    (names : List (List ℕ)) (program : ProgramRows) (input : List ℕ) (limit : Limit) (few many : ℕ) → few ≤ many
    → IsSettled (meaning names program input few limit) (meaning names program input many limit)

-- what never falls along a run, and what was printed stays
pub record IsLater (before after : State) : Type 0 where
  pub printed : IsPrefix before.printed after.printed
  pub units : before.units ≤ after.units
  pub peak : before.peak ≤ after.peak
  pub exits : before.exits ≤ after.exits
  pub symbols : before.symbols ≤ after.symbols

-- whether an exit is one of the list
abbrev pub IsExitOf : ℕ → List Exit → Type 0
IsExitOf e [] = ⊥
IsExitOf e (x ∷ xs) = x.number ≡ e ⊎ IsExitOf e xs

-- a transfer goes to one of these exits, or to exit 0
abbrev pub LandsIn : List Exit → Outcome → Type 0
LandsIn exits (value v) = ⊤
LandsIn exits (exit e v landing) = e ≡ 0 ⊎ IsExitOf e exits
LandsIn exits (full asked left) = ⊤
LandsIn exits more = ⊤

-- the law of growth, of each task with any number of levels
abbrev pub LawOfGrowth : Type 0
LawOfGrowth =
    (names : List (List ℕ)) (program : ProgramRows) (limit : Limit) (k : ℕ) (task : Task) (env : Environment)
    (around : DynamicContext) (z : State) → IsLater z (meaning_at names program limit k task env around z).state

-- the law of transfers
abbrev pub LawOfTransfers : Type 0
LawOfTransfers =
    (names : List (List ℕ)) (program : ProgramRows) (limit : Limit) (k : ℕ) (task : Task) (env : Environment)
    (around : DynamicContext) (z : State)
    → LandsIn around.exits (meaning_at names program limit k task env around z).outcome

-- numbers, each below the one before it: none stands there twice
abbrev pub Falling : ℕ → List ℕ → Type 0
Falling above [] = ⊤
Falling above (n ∷ ns) = n < above × Falling n ns

-- the exits made before stay made, and where no number was used twice before, none is after
pub record MakesNewExits (before after : State) : Type 0 where
  pub new : List ℕ
  pub kept : after.made ≡ new ++ before.made
  pub differ : Falling before.exits before.made → Falling after.exits after.made

-- the law of exits: no number is used twice, of each task with any number of levels, and from the start
abbrev pub LawOfExits : Type 0
LawOfExits =
    ((objects : List Object) (input : List ℕ)
    → Falling (first_state objects input).exits (first_state objects input).made)
    × ((names : List (List ℕ)) (program : ProgramRows) (limit : Limit) (k : ℕ) (task : Task) (env : Environment)
    (around : DynamicContext) (z : State) → MakesNewExits z (meaning_at names program limit k task env around z).state)
