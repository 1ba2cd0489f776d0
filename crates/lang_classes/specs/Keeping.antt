-- What a definition that is not refused keeps (ISO/IEC 13816:2007, 15.1).
use Rattle.std.specs.Prelude.{◌≡◌, ℕ, ◌<◌, ◌≤◌, Bool, true, List, [], ◌∷◌, ◌++◌, None, All, length}
use Rattle.base.specs.declared.datum.Name.{Name}
use Rattle.lang_classes.specs.declared.slot_spec.SlotSpec.{SlotSpec}
use Rattle.lang_classes.specs.Given.{given, spec_names}
use Rattle.lang_classes.specs.InheritedPrecedence.{supers_fit}
use Rattle.lang_classes.specs.InheritedSlots.{each_first, with_name}
use Rattle.lang_classes.specs.InheritedClasses.{Hierarchy, IsHierarchy, class_named, inherited_names, slot_limit, with_class}

-- with a class of a new name, whose superclasses are there and go together and that has few slots, a hierarchy is one
abbrev pub KeepsHierarchies : Type 0
KeepsHierarchies =
    (h : Hierarchy) (name : Name) (supers : List ℕ) (slots : List SlotSpec) (a : Bool) → IsHierarchy h → class_named h.rows name ≡ None
    → All (λ s. s < length h.rows) supers → supers_fit h.rows supers ≡ true
    → length (each_first (inherited_names h supers ++ spec_names slots)) ≤ slot_limit → IsHierarchy (with_class h name supers (given slots) a)

-- a name more stands at the end of the names that are kept at their first places, unless it is there
abbrev pub KeepsNames : Type 0
KeepsNames = (ns : List Name) (n : Name) → each_first (ns ++ n ∷ []) ≡ with_name n (each_first ns)
