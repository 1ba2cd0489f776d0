-- What the definition of a class says apart from its name, as the code reads it, and its lowest reason.
use Rattle.std.specs.Prelude.{List, ◌&&◌, not, Option, Some, None, if◌then◌else◌}
use Rattle.std.specs.List.{list_all}
use Rattle.base.specs.declared.reason.Reason.{Reason}
use Rattle.base.specs.declared.reason.Reason.TheVariants.{BadSupers, BadSlot, BadMethod}
use Rattle.front_profile.specs.declared.tables.Tables.{Tables}
use Rattle.front_class_definitions.specs.declared.classes.WrittenClass.{WrittenClass as ReadClass}
use Rattle.front_syntax.specs.ClassDefinitions.{view_supers, view_slots, view_class_options}
use Rattle.front_profile.specs.ClassShapes.{WrittenSlot, WrittenSuper, ClassOption, are_options}
use Rattle.front_profile.specs.ClassRows.{Use, are_supers, few_inherited, fits_generic, names_differ}

-- what a definition says apart from its name, where all of it is allowed

pub record ClassWritten : Type 0 where
  pub supers : List WrittenSuper
  pub slots : List WrittenSlot
  pub options : List ClassOption

abbrev pub maybe_written : Option ReadClass → Option ClassWritten
maybe_written None = None
maybe_written (Some c) =
    Some (record { supers = view_supers c.supers; slots = view_slots c.slots; options = view_class_options c.options })

abbrev pub written_as : Option (List WrittenSuper) → Option (List WrittenSlot) → List ClassOption → Option ClassWritten
written_as None xs os = None
written_as (Some cs) None os = None
written_as (Some cs) (Some xs) os = if are_options os then Some (record { supers = cs; slots = xs; options = os }) else None

-- the lowest reason behind that of an option that is left out, which the definition shares with none of its parts
abbrev pub class_offence : Tables → List WrittenSuper → List Use → Option Reason
class_offence s cs us =
    if not (are_supers s cs) then Some BadSupers
    else if not (few_inherited s cs) then Some BadSlot
    else if list_all (fits_generic s) us && names_differ us then None
    else Some BadMethod
