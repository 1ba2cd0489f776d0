-- What a word of the store is at its outermost.
use Rattle.std.specs.Prelude.{◌≡◌, ℕ, List, map, Some}
use Rattle.lang_meaning.specs.Values.{named, unnamed}
use Rattle.lang_meaning.specs.Objects.{Object as MeantObject}
use Rattle.lang_taken.specs.Shapes.{Shape, shape_of, shape_of_object}
use Rattle.lang_taken.specs.Shapes as shape
use Rattle.eval_store.specs.declared.store.Store.{Store}
use Rattle.eval_store.specs.declared.word.Word.{Word}
use Rattle.eval_store.specs.declared.object.Object.{Object}
use Rattle.eval_store.specs.Words.{value_of_word, values_of, object_of}
use Rattle.eval_told.specs.declared.parts.Part.{Part}
use Rattle.eval_told.specs.declared.parts.Part.TheVariants.{Integer, Character, Named, Unnamed, New, Text, Vector, Nil, Cons, NoDatum}

-- the objects of a store, as the meaning has them
abbrev pub objects_of : List (List ℕ) → Store → List MeantObject
objects_of names s = map (object_of names) s.objects.items

-- the shape for which a part stands
abbrev pub shape_of_part : List (List ℕ) → Part → Shape
shape_of_part names (Integer n) = shape.integer n
shape_of_part names (Character c) = shape.character c
shape_of_part names (Named name) = shape.symbol (named name.now)
shape_of_part names (Unnamed expansion serial) = shape.symbol (unnamed expansion serial)
shape_of_part names (New serial) = shape.new_symbol serial
shape_of_part names (Text bytes) = shape.string bytes.now
shape_of_part names (Vector words) = shape.vector (values_of names words.now)
shape_of_part names Nil = shape.nil
shape_of_part names (Cons car cdr) = shape.cons (value_of_word names car) (value_of_word names cdr)
shape_of_part names NoDatum = shape.no_datum

-- the part of a word
pub record IsPartAt (names : List (List ℕ)) (s : Store) (w : Word) (part : Part) : Type 0 where
  pub shape : shape_of (objects_of names s) (value_of_word names w) ≡ shape_of_part names part

-- the part of an object
pub record IsPartOf (o : Object) (part : Part) : Type 0 where
  pub shape : (names : List (List ℕ)) → shape_of_object (Some (object_of names o)) ≡ shape_of_part names part
