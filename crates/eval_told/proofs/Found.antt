-- What is found by the word of a value is what the value is.
use Rattle.std.proofs.Common.{◌≡◌, ℕ, List, [], Option, Some, None, refl, ap, ◌∙◌}
use Rattle.lang_meaning.specs.Values.{Value, integer, character, symbol, nil, object}
use Rattle.lang_meaning.specs.State.{State}
use Rattle.lang_meaning.specs.Classes.{fetch, class_of}
use Rattle.lang_taken.specs.Shapes.{shape_of_object}
use Rattle.lang_told.specs.Told.{which_class, class_of_class, slots_at, slots_of_object, class_at}
use Rattle.eval_store.specs.declared.store.Store.{Store}
use Rattle.eval_store.specs.declared.word.Word.{Word}
use Rattle.eval_store.specs.declared.word.Word.TheVariants as word
use Rattle.eval_store.specs.declared.object.Object.{Object}
use Rattle.eval_store.specs.Words.{value_of_word, object_of}
use Rattle.eval_store.specs.View.{Beside, state_of, IsFetched}
use Rattle.eval_primitives.specs.Classing.{HasClassOf}
use Rattle.eval_told.specs.declared.parts.Part.{Part}
use Rattle.eval_told.specs.declared.parts.Part.TheVariants.{NoDatum}
use Rattle.eval_told.specs.Parts.{objects_of, IsPartAt, IsPartOf}

abbrev nowhere : Beside
nowhere = record { globals = []; dynamics = []; input = []; printed = []; frame = [] }

-- ---- parts

pub part_there :
    (names : List (List ℕ)) (s : Store) (w : Word) (i : ℕ) (o : Object) (part : Part) → w ≡ word.Object i → IsFetched s (word.Object i) (Some o) → IsPartOf o part
    → IsPartAt names s w part
part_there names s w i o part e f p = record { shape = rw e (ap shape_of_object (f.object names nowhere) ∙ p.shape names) }

pub nothing_there : (names : List (List ℕ)) (s : Store) (w : Word) (i : ℕ) → w ≡ word.Object i → IsFetched s (word.Object i) None → IsPartAt names s w NoDatum
nothing_there names s w i e f = record { shape = rw e (ap shape_of_object (f.object names nowhere)) }

-- ---- classes and slots

class_fetched : (z : State) (v : Value) → which_class z.store v ≡ class_of_class (fetch z v)
class_fetched z (integer n) = refl
class_fetched z (character c) = refl
class_fetched z (symbol s) = refl
class_fetched z nil = refl
class_fetched z (object i) = refl

pub class_there :
    (s : Store) (w : Word) (o : Object) (c : Option ℕ) → IsFetched s w (Some o) → ((names : List (List ℕ)) → class_of_class (Some (object_of names o)) ≡ c)
    → (names : List (List ℕ)) → which_class (objects_of names s) (value_of_word names w) ≡ c
class_there s w o c f is names =
    class_fetched (state_of names s nowhere) (value_of_word names w) ∙ ap class_of_class (f.object names nowhere) ∙ is names

pub no_class_there :
    (s : Store) (w : Word) → IsFetched s w None → (names : List (List ℕ)) → which_class (objects_of names s) (value_of_word names w) ≡ None
no_class_there s w f names = class_fetched (state_of names s nowhere) (value_of_word names w) ∙ ap class_of_class (f.object names nowhere)

slots_fetched : (z : State) (v : Value) → slots_at z.store v ≡ slots_of_object (fetch z v)
slots_fetched z (integer n) = refl
slots_fetched z (character c) = refl
slots_fetched z (symbol s) = refl
slots_fetched z nil = refl
slots_fetched z (object i) = refl

pub slots_there :
    (names : List (List ℕ)) (s : Store) (w : Word) (o : Object) → IsFetched s w (Some o)
    → slots_at (objects_of names s) (value_of_word names w) ≡ slots_of_object (Some (object_of names o))
slots_there names s w o f = slots_fetched (state_of names s nowhere) (value_of_word names w) ∙ ap slots_of_object (f.object names nowhere)

pub no_slots_there :
    (names : List (List ℕ)) (s : Store) (w : Word) → IsFetched s w None → slots_at (objects_of names s) (value_of_word names w) ≡ []
no_slots_there names s w f = slots_fetched (state_of names s nowhere) (value_of_word names w) ∙ ap slots_of_object (f.object names nowhere)

-- the class of a value by its number
class_by_number : (z : State) (v : Value) → class_at z.store v ≡ class_of z v
class_by_number z (integer n) = refl
class_by_number z (character c) = refl
class_by_number z (symbol s) = refl
class_by_number z nil = refl
class_by_number z (object i) = refl

pub class_is : (names : List (List ℕ)) (s : Store) (w : Word) (c : ℕ) → HasClassOf s w c → class_at (objects_of names s) (value_of_word names w) ≡ c
class_is names s w c h = class_by_number (state_of names s nowhere) (value_of_word names w) ∙ h.seen names nowhere
