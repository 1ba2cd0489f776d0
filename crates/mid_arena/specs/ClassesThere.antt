-- The class objects of a program, and which classes instances have.
use Rattle.std.specs.Prelude.{◌≡◌, ℕ, ◌<◌, List, length, Option, Some, slice_get}
use Rattle.lang_meaning.specs.declared.program.ProgramRows.{ProgramRows}
use Rattle.lang_meaning.specs.Values.{Value}
use Rattle.lang_meaning.specs.Objects.{instance, class_object}
use Rattle.lang_meaning.specs.State as meaning
use Rattle.lang_meaning.specs.Classes.{fetch}
use Rattle.lang_meaning.specs.InitialHeap.{class_value}

-- The value of each class of the program is the class object of that class, each class object is the value of its class, and each instance is
-- of a class of the program.
pub record ClassesThere (names : List (List ℕ)) (program : ProgramRows) (z : meaning.State) : Type 0 where
  pub objects : (c : ℕ) → c < length program.classes → fetch z (class_value names program c) ≡ Some (class_object c)
  pub values : (v : Value) (c : ℕ) → fetch z v ≡ Some (class_object c) → class_value names program c ≡ v
  pub instances : (i c : ℕ) (slots : List (Option Value)) (mark : Value) → slice_get z.store i ≡ Some (instance c slots mark) → c < length program.classes
