-- How often a form names variables of its function: those that it reads, sets and captures.
use Rattle.std.specs.Prelude.{ℕ, length}
use Rattle.flat_language.specs.FlatForm.{FlatForm, local, set_local, make_function}
use Rattle.flat_boxes.specs.Totals.{total}

abbrev pub own_mentions : FlatForm → ℕ
own_mentions (local p) = 1
own_mentions (set_local p f) = 1
own_mentions (make_function p parts) = length parts
own_mentions f = 0

-- a form and all forms in it
abbrev pub mentions : FlatForm → ℕ
mentions f = total own_mentions f
