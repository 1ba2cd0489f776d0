-- The first of the built-in classes, while the table of classes is made.
use Rattle.std.specs.Prelude.{◌≡◌, ℕ, List, ◌∷◌, ◌++◌, Some, length, slice_get}
use Rattle.lang_meaning.specs.declared.program.ClassRow.{ClassRow}
use Rattle.lang_meaning.specs.declared.program.SlotRow.{SlotRow}
use Rattle.lang_classes.specs.InheritedSlots.{said_by, united}
use Rattle.lang_classes.specs.InheritedClasses.{Hierarchy, AreClasses, IsBuiltIn}
use Rattle.lang_classes.specs.InheritedBuiltIn.{AreNamed}

-- the first n of them
pub record AreFirst (texts : List (List ℕ)) (h : Hierarchy) (n : ℕ) : Type 0 where
  pub classes : AreClasses h
  pub number : length h.rows ≡ n
  pub built_in : (c : ℕ) (row : ClassRow) → slice_get h.rows c ≡ Some row → IsBuiltIn c row
  pub named : AreNamed texts h

-- the slots of a row are those that its classes say, itself last
pub record AreSlotsOf (own : List (List SlotRow)) (said : List SlotRow) (c : ℕ) (row : ClassRow) : Type 0 where
  pub above : List ℕ
  pub line : row.precedence ≡ c ∷ above
  pub slots : row.slots ≡ united (said_by own above ++ said)
