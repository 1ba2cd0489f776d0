-- Characters and their codes from 0 to 255.
use Rattle.std.specs.Prelude.{[], ◌∷◌}
use Rattle.lang_meaning.specs.declared.primitive.Primitive.TheVariants.{CharCode, CodeChar}
use Rattle.lang_meaning.specs.Objects.{character_class, integer_class}
use Rattle.mid_arena.specs.Tags.{nil_word, character_word}
use Rattle.mid_examples.specs.Addresses.{number, minus}
use Rattle.mid_examples.specs.Kinds.{some_integers, some_characters, others_than}
use Rattle.mid_examples.specs.Rows.{gives, refuses, RunsAlways, RefusesEach, FitsError}
use Rattle.mid_examples.specs.Sums.{greatest, least}

pub record CharCodeRows : Type 0 where
  -- a, and both ends
  pub of_a : RunsAlways CharCode (character_word 97 ∷ []) (gives (number 97))
  pub of_first : RunsAlways CharCode (character_word 0 ∷ []) (gives (number 0))
  pub of_last : RunsAlways CharCode (character_word 255 ∷ []) (gives (number 255))
  pub refused : RefusesEach CharCode (λ w. w ∷ []) (others_than some_characters) character_class
  pub fits : FitsError CharCode (nil_word ∷ []) nil_word character_class

pub record CodeCharRows : Type 0 where
  -- a, and both ends
  pub to_a : RunsAlways CodeChar (number 97 ∷ []) (gives (character_word 97))
  pub to_first : RunsAlways CodeChar (number 0 ∷ []) (gives (character_word 0))
  pub to_last : RunsAlways CodeChar (number 255 ∷ []) (gives (character_word 255))
  -- one beyond, and as far beyond as can be
  pub below : RunsAlways CodeChar (minus 1 ∷ []) (refuses (minus 1) integer_class)
  pub above : RunsAlways CodeChar (number 256 ∷ []) (refuses (number 256) integer_class)
  pub far_below : RunsAlways CodeChar (least ∷ []) (refuses least integer_class)
  pub far_above : RunsAlways CodeChar (greatest ∷ []) (refuses greatest integer_class)
  pub refused : RefusesEach CodeChar (λ w. w ∷ []) (others_than some_integers) integer_class
  pub fits : FitsError CodeChar (nil_word ∷ []) nil_word integer_class
  pub above_fits : FitsError CodeChar (number 256 ∷ []) (number 256) integer_class
