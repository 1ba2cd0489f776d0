-- Whether a place is left as it is where arguments are passed.
use Rattle.std.specs.Prelude.{ℕ, zero, suc, ◌+◌, Bool, true, ◌&&◌}
use Rattle.back_places.specs.declared.place.Place.{Place}
use Rattle.back_places.specs.Places.{argument_register}
use Rattle.back_places.specs.Passing.{is_other}

-- whether a place is another one than the registers of so many arguments, from a number on
abbrev pub is_unwritten : (from count : ℕ) → Place → Bool
is_unwritten i zero p = true
is_unwritten i (suc count) p = is_other (argument_register i) p && is_unwritten (i + 1) count p
