-- What contracts see of class definitions as the code reads them: superclasses, slots, options.
use Rattle.std.specs.Prelude.{List, map, Option, Some, None}
use Rattle.front_syntax.specs.declared.slots.SlotOption.{SlotOption as ReadOption}
use Rattle.front_syntax.specs.declared.slots.SlotOption.TheVariants as option
use Rattle.front_syntax.specs.declared.slots.WrittenSlot.{WrittenSlot as ReadSlot}
use Rattle.front_syntax.specs.declared.slots.WrittenSuper.{WrittenSuper as ReadSuper}
use Rattle.front_syntax.specs.declared.slots.ClassOption.{ClassOption as ReadClassOption}
use Rattle.front_syntax.specs.declared.slots.ClassOption.TheVariants as class
use Rattle.front_syntax.specs.Definitions.{view_given}
use Rattle.front_profile.specs.ClassShapes.{SlotOption, wrong_option, initform_of, initarg_of, method_of, accessor_of, WrittenSlot, WrittenSuper, ClassOption, no_option, left_out, abstract}

-- slots

abbrev pub view_slot_option : ReadOption → SlotOption
view_slot_option option.Wrong = wrong_option
view_slot_option (option.Initform d) = initform_of d.now
view_slot_option (option.Initarg n) = initarg_of n
view_slot_option (option.Method k g) = method_of k (view_given g)
view_slot_option (option.Accessor n g) = accessor_of n (view_given g)

abbrev pub view_slot_options : List ReadOption → List SlotOption
view_slot_options os = map view_slot_option os

abbrev pub maybe_slot_option : Option ReadOption → Option SlotOption
maybe_slot_option None = None
maybe_slot_option (Some o) = Some (view_slot_option o)

abbrev pub maybe_slot_options : Option (List ReadOption) → Option (List SlotOption)
maybe_slot_options None = None
maybe_slot_options (Some os) = Some (view_slot_options os)

abbrev pub view_slot : ReadSlot → WrittenSlot
view_slot x = record { place = x.place; name = x.name; options = view_slot_options x.options }

abbrev pub maybe_slot : Option ReadSlot → Option WrittenSlot
maybe_slot None = None
maybe_slot (Some x) = Some (view_slot x)

abbrev pub view_slots : List ReadSlot → List WrittenSlot
view_slots xs = map view_slot xs

abbrev pub maybe_slots : Option (List ReadSlot) → Option (List WrittenSlot)
maybe_slots None = None
maybe_slots (Some xs) = Some (view_slots xs)

-- superclasses

abbrev pub view_super : ReadSuper → WrittenSuper
view_super c = record { name = c.name; place = c.place }

abbrev pub view_supers : List ReadSuper → List WrittenSuper
view_supers cs = map view_super cs

abbrev pub maybe_supers : Option (List ReadSuper) → Option (List WrittenSuper)
maybe_supers None = None
maybe_supers (Some cs) = Some (view_supers cs)

-- options of the class

abbrev pub view_class_option : ReadClassOption → ClassOption
view_class_option class.NoOption = no_option
view_class_option class.LeftOut = left_out
view_class_option (class.Abstract b) = abstract b

abbrev pub view_class_options : List ReadClassOption → List ClassOption
view_class_options os = map view_class_option os
