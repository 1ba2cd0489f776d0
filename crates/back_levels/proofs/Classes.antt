-- The words that tell the class of a condition: the second one of the instance is that of its class, and the second one of the class its number.
use Rattle.std.proofs.Common.{◌≡◌, ℕ, ◌+◌, ◌*◌, ◌<◌, List, length, Option, Some, ap, ◌∙◌, arith}
use Rattle.std.specs.Prelude.{◌^◌}
use Rattle.lang_meaning.specs.Classes.{fetch, class_of_object}
use Rattle.lang_meaning.specs.InitialHeap.{class_value}
use Rattle.lang_meaning.specs.Meaning.{class_in}
use Rattle.lang_meaning.specs.Objects.{instance, class_object}
use Rattle.lang_meaning.specs.Values.{Value}
use Rattle.flat_language.specs.FlatNodes.{tables}
use Rattle.flat_language.specs.FlatState.{FlatState}
use Rattle.mid_code.specs.Arena.{word_at}
use Rattle.mid_code.specs.State.{MidState}
use Rattle.mid_arena.specs.Places.{word_of}
use Rattle.mid_arena.proofs.Arguments.{ObjectFound, object_found}
use Rattle.mid_arena.proofs.Memory.{spot_low}
use Rattle.mid_arena.proofs.Slots.{instance_low}
use Rattle.back_relation.specs.Setting.{Setting}
use Rattle.back_relation.specs.Worlds.{World}
use Rattle.back_relation.specs.StackWords.{HasWordAt}
use Rattle.back_relation.specs.Things.{Things}

module _ (setting : Setting) {w : World} {z : FlatState} {y : MidState} (t : Things setting w z y) (v : Value) (word class : ℕ) (slots : List (Option Value)) (mark : Value)
    (of_value : word_of w.places v ≡ Some word) (stored : fetch z.state v ≡ Some (instance class slots mark)) where
  pub it : ObjectFound setting.names (tables setting.program) w.places z.state y t.represents v word (instance class slots mark)
  it = object_found setting.names (tables setting.program) w.places z.state y t.represents v word (instance class slots mark) of_value stored

  known : class < length (tables setting.program).classes
  known = t.represents.classes.instances it.number class slots mark it.stored

  abbrev pub class_word : ℕ
  class_word = it.stands.class.word

  the_class : ObjectFound setting.names (tables setting.program) w.places z.state y t.represents (class_value setting.names (tables setting.program) class) class_word (class_object class)
  the_class =
      object_found setting.names (tables setting.program) w.places z.state y t.represents (class_value setting.names (tables setting.program) class) class_word (class_object class) it.stands.class.of_value
      (t.represents.classes.objects class known)

  pub word_low : word + 2 < 2 ^ 32
  word_low = let low = instance_low setting.names (tables setting.program) w.places z.state y t.represents v word class slots mark it in omega (arith, low)

  pub class_low : class_word + 2 < 2 ^ 32
  class_low = let is = the_class.word in let high = spot_low t.represents.arena the_class.spot_stands in omega (arith, is, high)

  pub class_there : HasWordAt y (word + 2) class_word
  class_there = let is = it.word in let same : word + 2 ≡ it.spot.address + 4 = omega (arith, is) in ap (word_at y.arena) same ∙ it.stands.class.stands

  pub number_there : HasWordAt y (class_word + 2) (4 * class)
  number_there = let is = the_class.word in let same : class_word + 2 ≡ the_class.spot.address + 4 = omega (arith, is) in ap (word_at y.arena) same ∙ the_class.stands.number

  pub class_is : class_in z.state.store v ≡ class
  class_is = ap (class_in z.state.store) it.value ∙ ap class_of_object it.stored
