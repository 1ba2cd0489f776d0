-- Instances are made, and their slots found, read and changed. Of a class only the words that say so are read.
use Rattle.std.specs.Prelude.{◌+◌, [], ◌∷◌}
use Rattle.lang_meaning.specs.declared.primitive.Primitive.{Primitive}
use Rattle.lang_meaning.specs.declared.primitive.Primitive.TheVariants.{Allocate, SlotCount, SlotPlace, SlotRef, SlotSet, SlotBound, SlotInitargs, SlotInitform, Continuable}
use Rattle.lang_meaning.specs.Objects.{symbol_class, integer_class, standard_class_class, standard_object_class, serious_condition_class, program_error_class}
use Rattle.mid_arena.specs.Tags.{object_tag, nil_word, unbound_word, instance_header}
use Rattle.mid_examples.specs.Addresses.{cons_at, object_at, number, minus, symbol_x, symbol_y, symbol_point, fresh, pair, next_pair, abc, a_function, x_initargs, x_initform, object_class, conses, integers, standard_objects, program_errors, domain_errors, points, shapes, dots, mishaps, a_point, a_dot, a_mishap, an_error, made}
use Rattle.mid_examples.specs.Kinds.{some_integers, some_symbols, some_classes, some_conditions, some_instances, others_than}
use Rattle.mid_examples.specs.Rows.{gives, stores, makes, refuses, signals, RunsAlways, DoesThen, RefusesEach, FitsError, FitsCondition, FitsObject}
use Rattle.mid_examples.specs.Sums.{greatest, least}
use Rattle.mid_examples.specs.Comparisons.{says_so, says_not}

-- no slot has a value yet; behind those of a condition is a mark, nil
pub record AllocateRows : Type 0 where
  -- two slots, none; a condition with one, two and none
  pub a_new_point :
      RunsAlways Allocate (object_at points ∷ []) (makes object_tag (instance_header 2 ∷ object_at points ∷ unbound_word ∷ unbound_word ∷ []))
  pub a_new_dot : RunsAlways Allocate (object_at dots ∷ []) (makes object_tag (instance_header 0 ∷ object_at dots ∷ []))
  pub a_new_mishap :
      RunsAlways Allocate (object_at mishaps ∷ []) (makes object_tag (instance_header 1 ∷ object_at mishaps ∷ unbound_word ∷ nil_word ∷ []))
  pub a_new_domain_error :
      RunsAlways Allocate (object_at domain_errors ∷ [])
      (makes object_tag (instance_header 2 ∷ object_at domain_errors ∷ unbound_word ∷ unbound_word ∷ nil_word ∷ []))
  pub a_new_program_error :
      RunsAlways Allocate (object_at program_errors ∷ []) (makes object_tag (instance_header 0 ∷ object_at program_errors ∷ nil_word ∷ []))
  -- what was made is not continuable
  pub then_not_continuable :
      DoesThen (makes object_tag (instance_header 1 ∷ object_at mishaps ∷ unbound_word ∷ nil_word ∷ [])) Continuable (object_at made ∷ [])
      (gives nil_word)
  -- an abstract class, and built-in ones that are not of conditions
  pub abstract_class : RunsAlways Allocate (object_at shapes ∷ []) (signals program_error_class)
  pub of_conses : RunsAlways Allocate (object_at conses ∷ []) (signals program_error_class)
  pub of_objects : RunsAlways Allocate (object_at object_class ∷ []) (signals program_error_class)
  pub of_standard_objects : RunsAlways Allocate (object_at standard_objects ∷ []) (signals program_error_class)
  pub refused : RefusesEach Allocate (λ w. w ∷ []) (others_than some_classes) standard_class_class
  pub point_fits :
      FitsObject Allocate (object_at points ∷ []) object_tag (instance_header 2 ∷ object_at points ∷ unbound_word ∷ unbound_word ∷ [])
  pub dot_fits : FitsObject Allocate (object_at dots ∷ []) object_tag (instance_header 0 ∷ object_at dots ∷ [])
  pub mishap_fits :
      FitsObject Allocate (object_at mishaps ∷ []) object_tag (instance_header 1 ∷ object_at mishaps ∷ unbound_word ∷ nil_word ∷ [])
  pub program_error_fits :
      FitsObject Allocate (object_at program_errors ∷ []) object_tag (instance_header 0 ∷ object_at program_errors ∷ nil_word ∷ [])
  pub abstract_fits : FitsCondition Allocate (object_at shapes ∷ []) program_error_class
  pub error_fits : FitsError Allocate (nil_word ∷ []) nil_word standard_class_class

pub record SlotCountRows : Type 0 where
  pub of_point : RunsAlways SlotCount (object_at a_point ∷ []) (gives (number 2))
  pub of_dot : RunsAlways SlotCount (object_at a_dot ∷ []) (gives (number 0))
  -- the mark of a condition is no slot
  pub of_mishap : RunsAlways SlotCount (object_at a_mishap ∷ []) (gives (number 1))
  pub of_error : RunsAlways SlotCount (object_at an_error ∷ []) (gives (number 2))
  pub refused : RefusesEach SlotCount (λ w. w ∷ []) (others_than some_instances) standard_object_class
  pub fits : FitsError SlotCount (nil_word ∷ []) nil_word standard_object_class
  pub header_fits : FitsError SlotCount (object_at points ∷ []) (object_at points) standard_object_class

-- the place of a slot by its name
pub record SlotPlaceRows : Type 0 where
  pub first : RunsAlways SlotPlace (object_at a_point ∷ object_at symbol_x ∷ []) (gives (number 0))
  pub last : RunsAlways SlotPlace (object_at a_point ∷ object_at symbol_y ∷ []) (gives (number 1))
  pub of_mishap : RunsAlways SlotPlace (object_at a_mishap ∷ object_at symbol_x ∷ []) (gives (number 0))
  pub of_error : RunsAlways SlotPlace (object_at an_error ∷ object_at symbol_y ∷ []) (gives (number 1))
  -- a name of no slot, one of a slot of another class, nil, no name, and an instance without slots
  pub wanting : RunsAlways SlotPlace (object_at a_point ∷ object_at symbol_point ∷ []) (signals program_error_class)
  pub of_others : RunsAlways SlotPlace (object_at a_mishap ∷ object_at symbol_y ∷ []) (signals program_error_class)
  pub of_nil : RunsAlways SlotPlace (object_at a_point ∷ nil_word ∷ []) (signals program_error_class)
  pub of_fresh : RunsAlways SlotPlace (object_at a_point ∷ object_at fresh ∷ []) (signals program_error_class)
  pub without_slots : RunsAlways SlotPlace (object_at a_dot ∷ object_at symbol_x ∷ []) (signals program_error_class)
  pub instance_refused : RefusesEach SlotPlace (λ w. w ∷ object_at symbol_x ∷ []) (others_than some_instances) standard_object_class
  pub name_refused : RefusesEach SlotPlace (λ w. object_at a_point ∷ w ∷ []) (others_than some_symbols) symbol_class
  pub first_of_two : RunsAlways SlotPlace (nil_word ∷ number 0 ∷ []) (refuses nil_word standard_object_class)
  pub instance_fits : FitsError SlotPlace (nil_word ∷ object_at symbol_x ∷ []) nil_word standard_object_class
  pub name_fits : FitsError SlotPlace (object_at a_point ∷ number 0 ∷ []) (number 0) symbol_class
  pub wanting_fits : FitsCondition SlotPlace (object_at a_point ∷ object_at symbol_point ∷ []) program_error_class

-- What primitives of an instance and a place in it refuse: other values, and the places before the first and behind the last one; the mark of
-- a condition has none.
pub record NeedsPlace (which : Primitive) : Type 0 where
  pub below : RunsAlways which (object_at a_point ∷ minus 1 ∷ []) (signals program_error_class)
  pub above : RunsAlways which (object_at a_point ∷ number 2 ∷ []) (signals program_error_class)
  pub far_below : RunsAlways which (object_at a_point ∷ least ∷ []) (signals program_error_class)
  pub far_above : RunsAlways which (object_at a_point ∷ greatest ∷ []) (signals program_error_class)
  pub of_dot : RunsAlways which (object_at a_dot ∷ number 0 ∷ []) (signals program_error_class)
  pub of_mark : RunsAlways which (object_at a_mishap ∷ number 1 ∷ []) (signals program_error_class)
  pub instance_refused : RefusesEach which (λ w. w ∷ number 0 ∷ []) (others_than some_instances) standard_object_class
  pub place_refused : RefusesEach which (λ w. object_at a_point ∷ w ∷ []) (others_than some_integers) integer_class
  pub first_of_two : RunsAlways which (number 0 ∷ nil_word ∷ []) (refuses (number 0) standard_object_class)
  pub instance_fits : FitsError which (nil_word ∷ number 0 ∷ []) nil_word standard_object_class
  pub place_fits : FitsError which (object_at a_point ∷ nil_word ∷ []) nil_word integer_class
  pub above_fits : FitsCondition which (object_at a_point ∷ number 2 ∷ []) program_error_class

pub record SlotRefRows : Type 0 where
  pub first : RunsAlways SlotRef (object_at a_point ∷ number 0 ∷ []) (gives (number 3))
  pub of_mishap : RunsAlways SlotRef (object_at a_mishap ∷ number 0 ∷ []) (gives nil_word)
  pub of_error : RunsAlways SlotRef (object_at an_error ∷ number 0 ∷ []) (gives (cons_at next_pair))
  pub last_of_error : RunsAlways SlotRef (object_at an_error ∷ number 1 ∷ []) (gives (object_at integers))
  -- a slot without a value
  pub unbound : RunsAlways SlotRef (object_at a_point ∷ number 1 ∷ []) (signals program_error_class)
  pub unbound_fits : FitsCondition SlotRef (object_at a_point ∷ number 1 ∷ []) program_error_class
  pub place : NeedsPlace SlotRef

-- The value comes first, then the instance and the place. The value is given.
pub record SlotSetRows : Type 0 where
  pub first :
      RunsAlways SlotSet (cons_at pair ∷ object_at a_point ∷ number 0 ∷ []) (stores (cons_at pair) (a_point + 8) (cons_at pair ∷ []))
  -- a slot that had no value
  pub last : RunsAlways SlotSet (minus 1 ∷ object_at a_point ∷ number 1 ∷ []) (stores (minus 1) (a_point + 12) (minus 1 ∷ []))
  pub of_mishap : RunsAlways SlotSet (object_at a_mishap ∷ object_at a_mishap ∷ number 0 ∷ []) (stores (object_at a_mishap) (a_mishap + 8) (object_at a_mishap ∷ []))
  -- then it has that one
  pub then_read : DoesThen (stores (minus 1) (a_point + 12) (minus 1 ∷ [])) SlotRef (object_at a_point ∷ number 1 ∷ []) (gives (minus 1))
  pub then_bound : DoesThen (stores (minus 1) (a_point + 12) (minus 1 ∷ [])) SlotBound (object_at a_point ∷ number 1 ∷ []) (gives says_so)
  -- one beyond, and as far beyond as can be; an instance without slots; the mark
  pub below : RunsAlways SlotSet (number 5 ∷ object_at a_point ∷ minus 1 ∷ []) (signals program_error_class)
  pub above : RunsAlways SlotSet (number 5 ∷ object_at a_point ∷ number 2 ∷ []) (signals program_error_class)
  pub far_below : RunsAlways SlotSet (number 5 ∷ object_at a_point ∷ least ∷ []) (signals program_error_class)
  pub far_above : RunsAlways SlotSet (number 5 ∷ object_at a_point ∷ greatest ∷ []) (signals program_error_class)
  pub of_dot : RunsAlways SlotSet (number 5 ∷ object_at a_dot ∷ number 0 ∷ []) (signals program_error_class)
  pub of_mark : RunsAlways SlotSet (number 5 ∷ object_at a_mishap ∷ number 1 ∷ []) (signals program_error_class)
  pub instance_refused : RefusesEach SlotSet (λ w. number 5 ∷ w ∷ number 0 ∷ []) (others_than some_instances) standard_object_class
  pub place_refused : RefusesEach SlotSet (λ w. number 5 ∷ object_at a_point ∷ w ∷ []) (others_than some_integers) integer_class
  pub first_of_two : RunsAlways SlotSet (object_at a_point ∷ number 0 ∷ nil_word ∷ []) (refuses (number 0) standard_object_class)
  pub instance_fits : FitsError SlotSet (number 5 ∷ nil_word ∷ number 0 ∷ []) nil_word standard_object_class
  pub place_fits : FitsError SlotSet (number 5 ∷ object_at a_point ∷ nil_word ∷ []) nil_word integer_class
  pub above_fits : FitsCondition SlotSet (number 5 ∷ object_at a_point ∷ number 2 ∷ []) program_error_class

pub record SlotBoundRows : Type 0 where
  pub first : RunsAlways SlotBound (object_at a_point ∷ number 0 ∷ []) (gives says_so)
  pub last : RunsAlways SlotBound (object_at a_point ∷ number 1 ∷ []) (gives says_not)
  -- nil is a value
  pub of_mishap : RunsAlways SlotBound (object_at a_mishap ∷ number 0 ∷ []) (gives says_so)
  pub place : NeedsPlace SlotBound

-- what the class says of a slot: the list of initargs, and the function of the initform or nil
pub record SlotInitargsRows : Type 0 where
  pub first : RunsAlways SlotInitargs (object_at a_point ∷ number 0 ∷ []) (gives (cons_at x_initargs))
  pub last : RunsAlways SlotInitargs (object_at a_point ∷ number 1 ∷ []) (gives nil_word)
  pub of_mishap : RunsAlways SlotInitargs (object_at a_mishap ∷ number 0 ∷ []) (gives nil_word)
  pub place : NeedsPlace SlotInitargs

pub record SlotInitformRows : Type 0 where
  pub first : RunsAlways SlotInitform (object_at a_point ∷ number 0 ∷ []) (gives (object_at x_initform))
  pub last : RunsAlways SlotInitform (object_at a_point ∷ number 1 ∷ []) (gives (object_at a_function))
  -- a slot without one
  pub of_mishap : RunsAlways SlotInitform (object_at a_mishap ∷ number 0 ∷ []) (gives nil_word)
  pub place : NeedsPlace SlotInitform

-- the mark of the latest signal, else nil
pub record ContinuableRows : Type 0 where
  pub of_mishap : RunsAlways Continuable (object_at a_mishap ∷ []) (gives (object_at abc))
  pub of_error : RunsAlways Continuable (object_at an_error ∷ []) (gives nil_word)
  -- an instance that is no condition, with slots and without
  pub of_point : RunsAlways Continuable (object_at a_point ∷ []) (refuses (object_at a_point) serious_condition_class)
  pub of_dot : RunsAlways Continuable (object_at a_dot ∷ []) (refuses (object_at a_dot) serious_condition_class)
  -- a class of conditions is none
  pub of_class : RunsAlways Continuable (object_at mishaps ∷ []) (refuses (object_at mishaps) serious_condition_class)
  pub refused : RefusesEach Continuable (λ w. w ∷ []) (others_than some_conditions) serious_condition_class
  pub fits : FitsError Continuable (nil_word ∷ []) nil_word serious_condition_class
  pub header_fits : FitsError Continuable (object_at abc ∷ []) (object_at abc) serious_condition_class
  pub point_fits : FitsError Continuable (object_at a_point ∷ []) (object_at a_point) serious_condition_class
