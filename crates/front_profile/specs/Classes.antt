-- Classes of a program: the built-in ones come first.
use Rattle.std.specs.Prelude.{◌≡◌, true, List}
use Rattle.lang_meaning.specs.declared.program.ClassRow.{ClassRow}
use Rattle.lang_meaning.specs.BuiltIn.{built_in_precedence, built_in_slots}
use Rattle.lang_meaning.specs.Facts.{begins_with_built_in}

pub record BeginsBuiltIn (cs : List ClassRow) : Type 0 where
  pub begins : begins_with_built_in cs built_in_precedence built_in_slots ≡ true
