-- Classes of values, and which class is below which.
use Rattle.std.specs.Prelude.{[], ◌∷◌, map}
use Rattle.lang_meaning.specs.declared.primitive.Primitive.TheVariants.{ClassOf, ClassName, IsSubclass, IsInstance}
use Rattle.lang_meaning.specs.Objects.{vector_class, string_class, character_class, function_class, generic_function_class, cons_class, symbol_class, null_class, integer_class, stream_class, built_in_class_class, standard_class_class}
use Rattle.mid_arena.specs.Tags.{nil_word, character_word}
use Rattle.mid_examples.specs.Addresses.{cons_at, object_at, number, minus, symbol_x, symbol_point, symbol_cons, symbol_empty, fresh, expanded, pair, abc, triple, a_function, a_generic, output, object_class, vectors, strings, characters, functions, generics, lists, conses, symbols, nulls, integers, streams, built_in_ones, standard_ones, standard_objects, serious_conditions, program_errors, domain_errors, points, shapes, dots, mishaps, a_point, a_dot, a_mishap, an_error, class_word}
use Rattle.mid_examples.specs.Kinds.{some_integers, some_characters, some_conses, some_strings, some_vectors, some_classes, some_streams, others_than}
use Rattle.mid_examples.specs.Rows.{gives, refuses, RunsAlways, DoesAlike, RefusesEach, FitsError}
use Rattle.mid_examples.specs.Sums.{greatest, least}
use Rattle.mid_examples.specs.Comparisons.{says_so, says_not}

pub record ClassOfRows : Type 0 where
  pub of_integers : DoesAlike ClassOf (map (λ w. w ∷ []) some_integers) (gives (class_word integer_class))
  pub of_least : RunsAlways ClassOf (least ∷ []) (gives (class_word integer_class))
  pub of_greatest : RunsAlways ClassOf (greatest ∷ []) (gives (class_word integer_class))
  pub of_characters : DoesAlike ClassOf (map (λ w. w ∷ []) some_characters) (gives (class_word character_class))
  pub of_last_character : RunsAlways ClassOf (character_word 255 ∷ []) (gives (class_word character_class))
  pub of_nil : RunsAlways ClassOf (nil_word ∷ []) (gives (class_word null_class))
  -- symbols other than nil, with a name or without one
  pub of_x : RunsAlways ClassOf (object_at symbol_x ∷ []) (gives (class_word symbol_class))
  pub of_empty : RunsAlways ClassOf (object_at symbol_empty ∷ []) (gives (class_word symbol_class))
  pub of_fresh : RunsAlways ClassOf (object_at fresh ∷ []) (gives (class_word symbol_class))
  pub of_expanded : RunsAlways ClassOf (object_at expanded ∷ []) (gives (class_word symbol_class))
  pub of_conses : DoesAlike ClassOf (map (λ w. w ∷ []) some_conses) (gives (class_word cons_class))
  pub of_strings : DoesAlike ClassOf (map (λ w. w ∷ []) some_strings) (gives (class_word string_class))
  pub of_vectors : DoesAlike ClassOf (map (λ w. w ∷ []) some_vectors) (gives (class_word vector_class))
  pub of_function : RunsAlways ClassOf (object_at a_function ∷ []) (gives (class_word function_class))
  pub of_generic : RunsAlways ClassOf (object_at a_generic ∷ []) (gives (class_word generic_function_class))
  pub of_streams : DoesAlike ClassOf (map (λ w. w ∷ []) some_streams) (gives (class_word stream_class))
  -- classes up to <standard-class>, number 16, are built in; the others are standard classes, the program's own among them
  pub of_first_class : RunsAlways ClassOf (object_at object_class ∷ []) (gives (class_word built_in_class_class))
  pub of_conses_class : RunsAlways ClassOf (object_at conses ∷ []) (gives (class_word built_in_class_class))
  pub of_last_built_in : RunsAlways ClassOf (object_at standard_ones ∷ []) (gives (class_word built_in_class_class))
  pub of_first_standard : RunsAlways ClassOf (object_at standard_objects ∷ []) (gives (class_word standard_class_class))
  pub of_domain_errors : RunsAlways ClassOf (object_at domain_errors ∷ []) (gives (class_word standard_class_class))
  pub of_points : RunsAlways ClassOf (object_at points ∷ []) (gives (class_word standard_class_class))
  pub of_mishaps : RunsAlways ClassOf (object_at mishaps ∷ []) (gives (class_word standard_class_class))
  -- instances
  pub of_a_point : RunsAlways ClassOf (object_at a_point ∷ []) (gives (object_at points))
  pub of_a_dot : RunsAlways ClassOf (object_at a_dot ∷ []) (gives (object_at dots))
  pub of_a_mishap : RunsAlways ClassOf (object_at a_mishap ∷ []) (gives (object_at mishaps))
  pub of_an_error : RunsAlways ClassOf (object_at an_error ∷ []) (gives (object_at domain_errors))

pub record ClassNameRows : Type 0 where
  pub of_conses : RunsAlways ClassName (object_at conses ∷ []) (gives (object_at symbol_cons))
  pub of_points : RunsAlways ClassName (object_at points ∷ []) (gives (object_at symbol_point))
  pub of_mishaps : RunsAlways ClassName (object_at mishaps ∷ []) (gives (object_at symbol_empty))
  -- an instance is no class
  pub refused : RefusesEach ClassName (λ w. w ∷ []) (others_than some_classes) standard_class_class
  pub fits : FitsError ClassName (nil_word ∷ []) nil_word standard_class_class
  pub header_fits : FitsError ClassName (object_at a_point ∷ []) (object_at a_point) standard_class_class

-- the class, and the one that it may be below
pub record IsSubclassRows : Type 0 where
  -- each class is below itself, a class of the first number too
  pub of_itself : RunsAlways IsSubclass (object_at conses ∷ object_at conses ∷ []) (gives says_so)
  pub of_first_itself : RunsAlways IsSubclass (object_at object_class ∷ object_at object_class ∷ []) (gives says_so)
  pub of_own_itself : RunsAlways IsSubclass (object_at shapes ∷ object_at shapes ∷ []) (gives says_so)
  -- <cons> below <list>, and not the other way round
  pub below : RunsAlways IsSubclass (object_at conses ∷ object_at lists ∷ []) (gives says_so)
  pub above : RunsAlways IsSubclass (object_at lists ∷ object_at conses ∷ []) (gives says_not)
  -- <null> below <symbol> and <list>; <symbol> and <list> side by side
  pub null_symbol : RunsAlways IsSubclass (object_at nulls ∷ object_at symbols ∷ []) (gives says_so)
  pub null_list : RunsAlways IsSubclass (object_at nulls ∷ object_at lists ∷ []) (gives says_so)
  pub symbol_list : RunsAlways IsSubclass (object_at symbols ∷ object_at lists ∷ []) (gives says_not)
  -- <generic-function> below <function>
  pub generic_function : RunsAlways IsSubclass (object_at generics ∷ object_at functions ∷ []) (gives says_so)
  -- all below <object>, the last of each list, and <object> below no other
  pub top :
      DoesAlike IsSubclass (map (λ w. w ∷ object_at object_class ∷ []) (object_at nulls ∷ object_at points ∷ object_at dots ∷ object_at domain_errors ∷ []))
      (gives says_so)
  pub top_below :
      DoesAlike IsSubclass (map (λ w. object_at object_class ∷ w ∷ []) (object_at nulls ∷ object_at points ∷ object_at dots ∷ object_at domain_errors ∷ []))
      (gives says_not)
  -- the program's own: dots below shapes, points below standard objects alone, mishaps below serious conditions
  pub dots_shapes : RunsAlways IsSubclass (object_at dots ∷ object_at shapes ∷ []) (gives says_so)
  pub shapes_dots : RunsAlways IsSubclass (object_at shapes ∷ object_at dots ∷ []) (gives says_not)
  pub points_standard : RunsAlways IsSubclass (object_at points ∷ object_at standard_objects ∷ []) (gives says_so)
  pub points_shapes : RunsAlways IsSubclass (object_at points ∷ object_at shapes ∷ []) (gives says_not)
  pub mishaps_serious : RunsAlways IsSubclass (object_at mishaps ∷ object_at serious_conditions ∷ []) (gives says_so)
  pub mishaps_standard : RunsAlways IsSubclass (object_at mishaps ∷ object_at standard_objects ∷ []) (gives says_not)
  pub domain_program : RunsAlways IsSubclass (object_at domain_errors ∷ object_at program_errors ∷ []) (gives says_so)
  pub first_refused : RefusesEach IsSubclass (λ w. w ∷ object_at lists ∷ []) (others_than some_classes) standard_class_class
  pub second_refused : RefusesEach IsSubclass (λ w. object_at lists ∷ w ∷ []) (others_than some_classes) standard_class_class
  pub first_of_two : RunsAlways IsSubclass (number 1 ∷ nil_word ∷ []) (refuses (number 1) standard_class_class)
  pub first_fits : FitsError IsSubclass (nil_word ∷ object_at lists ∷ []) nil_word standard_class_class
  pub second_fits : FitsError IsSubclass (object_at lists ∷ nil_word ∷ []) nil_word standard_class_class

-- a value, and a class
pub record IsInstanceRows : Type 0 where
  -- of its own class
  pub of_integers : RunsAlways IsInstance (minus 1 ∷ object_at integers ∷ []) (gives says_so)
  pub of_characters : RunsAlways IsInstance (character_word 65 ∷ object_at characters ∷ []) (gives says_so)
  pub of_nulls : RunsAlways IsInstance (nil_word ∷ object_at nulls ∷ []) (gives says_so)
  pub of_conses : RunsAlways IsInstance (cons_at pair ∷ object_at conses ∷ []) (gives says_so)
  pub of_symbols : RunsAlways IsInstance (object_at fresh ∷ object_at symbols ∷ []) (gives says_so)
  pub of_strings : RunsAlways IsInstance (object_at abc ∷ object_at strings ∷ []) (gives says_so)
  pub of_vectors : RunsAlways IsInstance (object_at triple ∷ object_at vectors ∷ []) (gives says_so)
  pub of_functions : RunsAlways IsInstance (object_at a_function ∷ object_at functions ∷ []) (gives says_so)
  pub of_streams : RunsAlways IsInstance (object_at output ∷ object_at streams ∷ []) (gives says_so)
  pub of_built_in : RunsAlways IsInstance (object_at conses ∷ object_at built_in_ones ∷ []) (gives says_so)
  pub of_standard : RunsAlways IsInstance (object_at points ∷ object_at standard_ones ∷ []) (gives says_so)
  pub of_points : RunsAlways IsInstance (object_at a_point ∷ object_at points ∷ []) (gives says_so)
  -- of one above it
  pub cons_list : RunsAlways IsInstance (cons_at pair ∷ object_at lists ∷ []) (gives says_so)
  pub nil_list : RunsAlways IsInstance (nil_word ∷ object_at lists ∷ []) (gives says_so)
  pub nil_symbol : RunsAlways IsInstance (nil_word ∷ object_at symbols ∷ []) (gives says_so)
  pub generic_function : RunsAlways IsInstance (object_at a_generic ∷ object_at functions ∷ []) (gives says_so)
  pub dot_shape : RunsAlways IsInstance (object_at a_dot ∷ object_at shapes ∷ []) (gives says_so)
  pub mishap_serious : RunsAlways IsInstance (object_at a_mishap ∷ object_at serious_conditions ∷ []) (gives says_so)
  pub error_top : RunsAlways IsInstance (object_at an_error ∷ object_at object_class ∷ []) (gives says_so)
  pub integer_top : RunsAlways IsInstance (number 0 ∷ object_at object_class ∷ []) (gives says_so)
  -- of another one
  pub integer_character : RunsAlways IsInstance (number 65 ∷ object_at characters ∷ []) (gives says_not)
  pub nil_cons : RunsAlways IsInstance (nil_word ∷ object_at conses ∷ []) (gives says_not)
  pub symbol_null : RunsAlways IsInstance (object_at symbol_x ∷ object_at nulls ∷ []) (gives says_not)
  pub function_generic : RunsAlways IsInstance (object_at a_function ∷ object_at generics ∷ []) (gives says_not)
  pub built_in_standard : RunsAlways IsInstance (object_at conses ∷ object_at standard_ones ∷ []) (gives says_not)
  pub point_shape : RunsAlways IsInstance (object_at a_point ∷ object_at shapes ∷ []) (gives says_not)
  pub point_serious : RunsAlways IsInstance (object_at a_point ∷ object_at serious_conditions ∷ []) (gives says_not)
  -- a class is no instance of itself
  pub class_itself : RunsAlways IsInstance (object_at points ∷ object_at points ∷ []) (gives says_not)
  pub class_refused : RefusesEach IsInstance (λ w. number 1 ∷ w ∷ []) (others_than some_classes) standard_class_class
  pub fits : FitsError IsInstance (number 1 ∷ nil_word ∷ []) nil_word standard_class_class
