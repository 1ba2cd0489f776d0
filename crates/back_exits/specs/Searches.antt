-- What a search among the valid exits comes to in the meaning, which charges a unit for each exit that it looks at.
use Rattle.std.specs.Prelude.{◌≡◌, ℕ, ◌+◌, ◌<◌, ◌≤◌, Bool, List, length}
use Rattle.lang_meaning.specs.State.{Exit}
use Rattle.flat_language.specs.FlatSignals.{search}
use Rattle.flat_language.specs.FlatState.{FlatState, FlatEvaluated, charged}

-- it finds an exit behind so many others
abbrev pub Finds : (Exit → Bool) → List Exit → Exit → (passed : ℕ) → Type 0
Finds p xs x passed =
    (go : Exit → FlatState → FlatEvaluated) (otherwise : FlatState → FlatEvaluated) (z : FlatState)
    → search p go otherwise xs z ≡ go x (charged (passed + 1) z)

-- it finds none
abbrev pub Misses : (Exit → Bool) → List Exit → Type 0
Misses p xs =
    (go : Exit → FlatState → FlatEvaluated) (otherwise : FlatState → FlatEvaluated) (z : FlatState)
    → search p go otherwise xs z ≡ otherwise (charged (length xs) z)

-- it charges more than so many units, whatever comes behind it
abbrev pub IsLong : (Exit → Bool) → List Exit → ℕ → Type 0
IsLong p xs n =
    (go : Exit → FlatState → FlatEvaluated) (otherwise : FlatState → FlatEvaluated) → ((x : Exit) (y : FlatState) → y.state.units ≤ (go x y).state.state.units)
    → ((y : FlatState) → y.state.units ≤ (otherwise y).state.state.units) → (z : FlatState)
    → z.state.units + n < (search p go otherwise xs z).state.state.units
