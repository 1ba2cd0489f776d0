-- The built-in classes with their names, and what they say of slots (ISO/IEC 13816:2007, 29.3).
use Rattle.std.specs.Prelude.{◌≡◌, ℕ, ◌==◌, List, [], ◌∷◌, Option, Some, None, length, map, slice_get, codes, if◌then◌else◌}
use Rattle.base.specs.declared.datum.Name.{Name}
use Rattle.lang_meaning.specs.declared.program.ClassRow.{ClassRow}
use Rattle.lang_meaning.specs.declared.program.SlotRow.{SlotRow}
use Rattle.lang_meaning.specs.BuiltIn.{class_texts}
use Rattle.lang_meaning.specs.Objects.{built_in_classes, domain_error_class}
use Rattle.lang_classes.specs.InheritedPrecedence.{simple_error_class}
use Rattle.lang_classes.specs.InheritedSlots.{names_of}
use Rattle.lang_classes.specs.InheritedClasses.{Hierarchy, IsHierarchy}

abbrev pub undefined_entity_class : ℕ
undefined_entity_class = 30

-- the slots that a built-in class says of itself
abbrev pub built_in_own : ℕ → List (List ℕ)
built_in_own c =
    if c == simple_error_class then codes "format-string" ∷ codes "format-arguments" ∷ []
    else if c == domain_error_class then codes "object" ∷ codes "expected-class" ∷ []
    else if c == undefined_entity_class then codes "name" ∷ []
    else []

-- each is its own initarg, and has no initform
abbrev pub own_initarg : Name → SlotRow
own_initarg n = record { name = n; initargs = n ∷ []; initform = None }

-- names that stand for texts in a table of texts
abbrev pub texts_of : List (List ℕ) → List Name → List (Option (List ℕ))
texts_of texts ns = map (λ n. slice_get texts n.0) ns

-- slots of these names
pub record SaysSlots (texts : List (List ℕ)) (names : List (List ℕ)) (slots : List SlotRow) : Type 0 where
  pub names_are : texts_of texts (names_of slots) ≡ map (λ t. Some t) names
  pub slots_are : slots ≡ map own_initarg (names_of slots)

-- the built-in classes alone, under their names
pub record AreNamed (texts : List (List ℕ)) (h : Hierarchy) : Type 0 where
  pub names : (c : ℕ) (row : ClassRow) → slice_get h.rows c ≡ Some row → slice_get texts row.name.0 ≡ slice_get class_texts c
  pub own : (c : ℕ) (slots : List SlotRow) → slice_get h.own c ≡ Some slots → SaysSlots texts (built_in_own c) slots

pub record AreBuiltIn (texts : List (List ℕ)) (h : Hierarchy) : Type 0 where
  pub hierarchy : IsHierarchy h
  pub number : length h.rows ≡ built_in_classes
  pub named : AreNamed texts h
