-- What contracts see of the options of a generic function as the code reads them.
use Rattle.front_definitions.specs.declared.generics.GenericOption.{GenericOption as ReadGenericOption}
use Rattle.front_definitions.specs.declared.generics.GenericOption.TheVariants as option
use Rattle.front_profile.specs.GenericRows.{GenericOption, no_option, left_out, standard, of_method}
use Rattle.front_syntax.specs.Definitions.{view_method}

abbrev pub view_option : ReadGenericOption → GenericOption
view_option option.NoOption = no_option
view_option option.LeftOut = left_out
view_option option.Standard = standard
view_option (option.OfMethod m) = of_method (view_method m)
