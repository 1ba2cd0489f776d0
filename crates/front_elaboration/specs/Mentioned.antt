-- Sets of parts, and what a form names itself.
use Rattle.std.specs.Prelude.{◌≡◌, ℕ, Bool, false, ◌||◌, Option, Some, None}
use Rattle.std.specs.Ordering.{nat_cmp}
use Rattle.std.specs.BTreeSet.{BTreeSet, contains}
use Rattle.lang_meaning.specs.declared.capture.Capture.{Capture}
use Rattle.lang_meaning.specs.declared.capture.Capture.TheVariants.{Variable, Exit, Method}
use Rattle.lang_meaning.specs.Mentions.{same_part}
use Rattle.lang_meaning.specs.Form.{Form, local, set_local, return_from, go, next_method, has_next}
use Rattle.front_elaboration.specs.declared.mentioned.Mentioned.{Mentioned}

-- a set of numbers with those of two others
abbrev pub IsUnion : BTreeSet ℕ → BTreeSet ℕ → BTreeSet ℕ → Type 0
IsUnion one other all = (v : ℕ) → contains nat_cmp all v ≡ (contains nat_cmp one v || contains nat_cmp other v)

abbrev pub has : Mentioned → Capture → Bool
has m (Variable v) = contains nat_cmp m.variables v
has m (Exit x) = contains nat_cmp m.exits x
has m Method = m.method

-- just the parts that pass the test
pub record AreParts (m : Mentioned) (test : Capture → Bool) : Type 0 where
  pub so : (p : Capture) → has m p ≡ test p

-- the part that a form names itself
abbrev pub own_part : Form → Option Capture
own_part (local v) = Some (Variable v)
own_part (set_local v f) = Some (Variable v)
own_part (return_from x f) = Some (Exit x)
own_part (go x segment) = Some (Exit x)
own_part next_method = Some Method
own_part has_next = Some Method
own_part f = None

-- whether a part is that one, if there is one
abbrev pub is_part : Capture → Option Capture → Bool
is_part p None = false
is_part p (Some q) = same_part p q
