-- Flags of classes: which of them stand in a list.
use Rattle.std.specs.Prelude.{◌≡◌, ℕ, ◌==◌, Bool, List, Some, slice_get, if◌then◌else◌}
use Rattle.lang_meaning.specs.Lookup.{is_in}

-- each flag says whether its class is in the list
abbrev pub AreFlags : (classes : List ℕ) (flags : List Bool) → Type 0
AreFlags classes flags = (class : ℕ) (flag : Bool) → slice_get flags class ≡ Some flag → flag ≡ is_in class classes

-- one flag was set
abbrev pub IsSet : (class : ℕ) (value : Bool) (flags flags' : List Bool) → Type 0
IsSet class value flags flags' =
    (other : ℕ) (flag' : Bool) → slice_get flags' other ≡ Some flag'
    → (flag : Bool) × ((slice_get flags other ≡ Some flag) × (flag' ≡ (if other == class then value else flag)))
