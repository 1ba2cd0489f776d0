-- What the crate of classes says of definitions.
use Rattle.lang_classes.specs.Keeping.{KeepsHierarchies, KeepsNames}

pub record ClassRules : Type 0 where
  pub hierarchies : KeepsHierarchies
  pub names : KeepsNames
