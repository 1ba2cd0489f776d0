-- A definition that is not refused keeps a hierarchy.
use Rattle.std.proofs.Common.{length, refl}
use Rattle.lang_meaning.specs.declared.program.ClassRow.{ClassRow}
use Rattle.lang_classes.specs.Given.{given}
use Rattle.lang_classes.specs.InheritedPrecedence.{precedence_below}
use Rattle.lang_classes.specs.InheritedClasses.{row_of, slots_given, with_own, with_class}
use Rattle.lang_classes.specs.Keeping.{KeepsHierarchies, KeepsNames}
use Rattle.lang_classes.proofs.Adding.{added}
use Rattle.lang_classes.proofs.Defining.{is_right, hierarchy_more}
use Rattle.lang_classes.specs.FirstNames.{each_first-push}

pub hierarchies_kept : KeepsHierarchies
unfolding with_class
hierarchies_kept h name supers slots a x new in_range fit few =
    let row : ClassRow = row_of name (precedence_below h.rows (length h.rows) supers) (with_own h (given slots)) a in
    hierarchy_more h _ row (slots_given (given slots)) x
    (added h row (slots_given (given slots)) x.classes new (is_right h name supers slots a x in_range row fit few refl)) refl

pub names_kept : KeepsNames
names_kept ns n = each_first-push ns n
