-- The built-in classes as the code has them.
use Rattle.std.specs.Prelude.{◌≡◌, ℕ, ◌+◌, List, [], ◌∷◌, Some, map, slice_get}
use Rattle.lang_meaning.specs.declared.classes.BuiltInClass.{BuiltInClass}
use Rattle.lang_meaning.specs.BuiltIn.{built_in_precedence, built_in_slots, class_texts}

-- the class of that number
pub record IsBuiltIn (number : ℕ) (class : BuiltInClass) : Type 0 where
  pub name : slice_get class_texts number ≡ Some class.name.now
  pub precedence : slice_get built_in_precedence number ≡ Some (number ∷ class.above.now)
  pub slots : slice_get built_in_slots number ≡ Some class.slots

-- the precedence lists of classes of which the first has that number
abbrev pub lists_from : ℕ → List BuiltInClass → List (List ℕ)
lists_from number [] = []
lists_from number (c ∷ cs) = (number ∷ c.above.now) ∷ lists_from (number + 1) cs

-- all of them
pub record AreBuiltIn (classes : List BuiltInClass) : Type 0 where
  pub names : map (λ c. c.name.now) classes ≡ class_texts
  pub precedence : lists_from 0 classes ≡ built_in_precedence
  pub slots : map (λ c. c.slots) classes ≡ built_in_slots
