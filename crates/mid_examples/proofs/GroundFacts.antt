-- They compute.
use Rattle.std.proofs.Common.{refl}
use Rattle.base.specs.Arithmetic.{low_word}
use Rattle.mid_code.specs.State.{go_on, with_some, choose_by}
use Rattle.mid_code.specs.Meaning.{leaves, exec, exec_step, turns, levels}
use Rattle.mid_arena.specs.Steps.{hand_over, signal, domain_error}
use Rattle.mid_examples.specs.GroundFacts.{GroundFacts}

pub ground_facts : GroundFacts
unfolding low_word go_on with_some choose_by leaves exec exec_step turns levels hand_over signal domain_error
ground_facts = record {
  size = refl;
  classes = refl;
  room = refl;
  names = refl;
  symbols_stand = refl;
  fresh_stand = refl;
  conses_stand = refl;
  strings_stand = refl;
  vectors_stand = refl;
  functions_stand = refl;
  others_stand = refl;
  classes_stand = refl;
  class_numbers = refl;
  instances_stand = refl;
  all_values = refl;
  no_integers = refl;
  no_characters = refl;
  no_conses = refl;
  no_symbols = refl;
  no_strings = refl;
  no_vectors = refl;
  no_functions = refl;
  no_generics = refl;
  no_classes = refl;
  no_streams = refl;
  no_instances = refl;
  no_conditions = refl;
}
