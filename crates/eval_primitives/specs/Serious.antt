-- Classes of conditions.
use Rattle.std.specs.Prelude.{Bool}
use Rattle.lang_meaning.specs.declared.program.ClassRow.{ClassRow}
use Rattle.lang_meaning.specs.Objects.{serious_condition_class}
use Rattle.lang_meaning.specs.Lookup.{is_in}

-- a class has `<serious-condition>` in its precedence list
abbrev pub is_serious_row : ClassRow → Bool
is_serious_row row = is_in serious_condition_class row.precedence
