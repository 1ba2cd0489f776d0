-- Vectors are made, measured, read and changed.
use Rattle.std.specs.Prelude.{◌+◌, ◌-◌, ◌^◌, [], ◌∷◌}
use Rattle.lang_meaning.specs.declared.primitive.Primitive.TheVariants.{MakeVector, VectorLength, VectorRef, SetVectorRef}
use Rattle.lang_meaning.specs.Objects.{vector_class, integer_class, program_error_class}
use Rattle.mid_arena.specs.Tags.{object_tag, nil_word, vector_header}
use Rattle.mid_examples.specs.Addresses.{cons_at, object_at, number, minus, symbol_x, pair, abc, empty_vector, triple, made}
use Rattle.mid_examples.specs.Kinds.{some_integers, some_vectors, others_than}
use Rattle.mid_examples.specs.Rows.{gives, stores, makes, refuses, signals, wants, RunsAlways, DoesThen, RefusesEach, FitsError, FitsCondition, FitsObject}
use Rattle.mid_examples.specs.Sums.{greatest, least}

pub record MakeVectorRows : Type 0 where
  -- no element, one, two and three
  pub of_none : RunsAlways MakeVector (number 0 ∷ cons_at pair ∷ []) (makes object_tag (vector_header ∷ number 0 ∷ []))
  pub of_one : RunsAlways MakeVector (number 1 ∷ cons_at pair ∷ []) (makes object_tag (vector_header ∷ number 1 ∷ cons_at pair ∷ []))
  pub of_two : RunsAlways MakeVector (number 2 ∷ minus 1 ∷ []) (makes object_tag (vector_header ∷ number 2 ∷ minus 1 ∷ minus 1 ∷ []))
  pub of_three :
      RunsAlways MakeVector (number 3 ∷ nil_word ∷ []) (makes object_tag (vector_header ∷ number 3 ∷ nil_word ∷ nil_word ∷ nil_word ∷ []))
  -- what was made has that length, and is read as it was made
  pub length_then :
      DoesThen (makes object_tag (vector_header ∷ number 2 ∷ minus 1 ∷ minus 1 ∷ [])) VectorLength (object_at made ∷ []) (gives (number 2))
  pub last_then :
      DoesThen (makes object_tag (vector_header ∷ number 2 ∷ minus 1 ∷ minus 1 ∷ [])) VectorRef (object_at made ∷ number 1 ∷ [])
      (gives (minus 1))
  -- a length below zero
  pub below : RunsAlways MakeVector (minus 1 ∷ nil_word ∷ []) (refuses (minus 1) integer_class)
  pub far_below : RunsAlways MakeVector (least ∷ nil_word ∷ []) (refuses least integer_class)
  -- the greatest length takes 2 ^ 29 - 1 words for the elements
  pub far_above : RunsAlways MakeVector (greatest ∷ nil_word ∷ []) (wants (2 + (2 ^ 29 - 1)) 16)
  pub length_refused : RefusesEach MakeVector (λ w. w ∷ number 1 ∷ []) (others_than some_integers) integer_class
  pub none_fits : FitsObject MakeVector (number 0 ∷ nil_word ∷ []) object_tag (vector_header ∷ number 0 ∷ [])
  pub two_fit : FitsObject MakeVector (number 2 ∷ minus 1 ∷ []) object_tag (vector_header ∷ number 2 ∷ minus 1 ∷ minus 1 ∷ [])
  pub length_fits : FitsError MakeVector (nil_word ∷ nil_word ∷ []) nil_word integer_class
  pub below_fits : FitsError MakeVector (minus 1 ∷ nil_word ∷ []) (minus 1) integer_class

pub record VectorLengthRows : Type 0 where
  pub of_none : RunsAlways VectorLength (object_at empty_vector ∷ []) (gives (number 0))
  pub of_three : RunsAlways VectorLength (object_at triple ∷ []) (gives (number 3))
  pub refused : RefusesEach VectorLength (λ w. w ∷ []) (others_than some_vectors) vector_class
  pub fits : FitsError VectorLength (nil_word ∷ []) nil_word vector_class
  pub header_fits : FitsError VectorLength (object_at abc ∷ []) (object_at abc) vector_class

-- of #(7 x ())
pub record VectorRefRows : Type 0 where
  pub first : RunsAlways VectorRef (object_at triple ∷ number 0 ∷ []) (gives (number 7))
  pub second : RunsAlways VectorRef (object_at triple ∷ number 1 ∷ []) (gives (object_at symbol_x))
  pub last : RunsAlways VectorRef (object_at triple ∷ number 2 ∷ []) (gives nil_word)
  -- one beyond, and as far beyond as can be
  pub below : RunsAlways VectorRef (object_at triple ∷ minus 1 ∷ []) (signals program_error_class)
  pub above : RunsAlways VectorRef (object_at triple ∷ number 3 ∷ []) (signals program_error_class)
  pub of_none : RunsAlways VectorRef (object_at empty_vector ∷ number 0 ∷ []) (signals program_error_class)
  pub far_below : RunsAlways VectorRef (object_at triple ∷ least ∷ []) (signals program_error_class)
  pub far_above : RunsAlways VectorRef (object_at triple ∷ greatest ∷ []) (signals program_error_class)
  pub vector_refused : RefusesEach VectorRef (λ w. w ∷ number 0 ∷ []) (others_than some_vectors) vector_class
  pub index_refused : RefusesEach VectorRef (λ w. object_at triple ∷ w ∷ []) (others_than some_integers) integer_class
  pub first_of_two : RunsAlways VectorRef (number 0 ∷ nil_word ∷ []) (refuses (number 0) vector_class)
  pub vector_fits : FitsError VectorRef (nil_word ∷ number 0 ∷ []) nil_word vector_class
  pub index_fits : FitsError VectorRef (object_at triple ∷ nil_word ∷ []) nil_word integer_class
  pub above_fits : FitsCondition VectorRef (object_at triple ∷ number 3 ∷ []) program_error_class

-- the value comes first, then the vector and the index; the value is given
pub record SetVectorRefRows : Type 0 where
  pub first :
      RunsAlways SetVectorRef (cons_at pair ∷ object_at triple ∷ number 0 ∷ []) (stores (cons_at pair) (triple + 8) (cons_at pair ∷ []))
  pub second :
      RunsAlways SetVectorRef (cons_at pair ∷ object_at triple ∷ number 1 ∷ []) (stores (cons_at pair) (triple + 12) (cons_at pair ∷ []))
  pub last :
      RunsAlways SetVectorRef (object_at triple ∷ object_at triple ∷ number 2 ∷ []) (stores (object_at triple) (triple + 16) (object_at triple ∷ []))
  -- what was set is there
  pub then_read :
      DoesThen (stores (object_at triple) (triple + 16) (object_at triple ∷ [])) VectorRef (object_at triple ∷ number 2 ∷ [])
      (gives (object_at triple))
  -- one beyond, and as far beyond as can be
  pub below : RunsAlways SetVectorRef (nil_word ∷ object_at triple ∷ minus 1 ∷ []) (signals program_error_class)
  pub above : RunsAlways SetVectorRef (nil_word ∷ object_at triple ∷ number 3 ∷ []) (signals program_error_class)
  pub of_none : RunsAlways SetVectorRef (nil_word ∷ object_at empty_vector ∷ number 0 ∷ []) (signals program_error_class)
  pub far_below : RunsAlways SetVectorRef (nil_word ∷ object_at triple ∷ least ∷ []) (signals program_error_class)
  pub far_above : RunsAlways SetVectorRef (nil_word ∷ object_at triple ∷ greatest ∷ []) (signals program_error_class)
  pub vector_refused : RefusesEach SetVectorRef (λ w. nil_word ∷ w ∷ number 0 ∷ []) (others_than some_vectors) vector_class
  pub index_refused : RefusesEach SetVectorRef (λ w. nil_word ∷ object_at triple ∷ w ∷ []) (others_than some_integers) integer_class
  -- from left to right
  pub first_of_two : RunsAlways SetVectorRef (object_at triple ∷ number 0 ∷ nil_word ∷ []) (refuses (number 0) vector_class)
  pub vector_fits : FitsError SetVectorRef (number 1 ∷ nil_word ∷ number 0 ∷ []) nil_word vector_class
  pub index_fits : FitsError SetVectorRef (number 1 ∷ object_at triple ∷ nil_word ∷ []) nil_word integer_class
  pub above_fits : FitsCondition SetVectorRef (number 1 ∷ object_at triple ∷ number 3 ∷ []) program_error_class
