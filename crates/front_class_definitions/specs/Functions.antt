-- What contracts see of the functions that slots ask for, as the code reads them.
use Rattle.std.specs.Prelude.{List, map, Option, Some, None}
use Rattle.front_class_definitions.specs.declared.functions.Function.{Function as ReadFunction}
use Rattle.front_class_definitions.specs.declared.functions.Function.TheVariants as read
use Rattle.front_class_definitions.specs.declared.functions.Use.{Use as ReadUse}
use Rattle.front_syntax.specs.Definitions.{view_given}
use Rattle.front_profile.specs.ClassRows.{Function, for_initform, for_method, Use}

abbrev pub view_read : ReadFunction → Function
view_read (read.Initform d) = for_initform d.now
view_read (read.Method g k) = for_method (view_given g) k

abbrev pub view_functions : List ReadFunction → List Function
view_functions fs = map view_read fs

abbrev pub view_use : ReadUse → Use
view_use u = record { name = u.name; arguments = u.arguments }

abbrev pub maybe_use : Option ReadUse → Option Use
maybe_use None = None
maybe_use (Some u) = Some (view_use u)

abbrev pub view_uses : List ReadUse → List Use
view_uses us = map view_use us
