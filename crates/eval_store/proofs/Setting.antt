-- What a store is seen as once a variable or a part of an object is set.
use Rattle.std.proofs.Common.{◌≡◌, ℕ, List, Some, None, refl, ◌∙◌, ap}
use Rattle.std.specs.Prelude.{slice_get, option_map}
use Rattle.std.specs.Vec.{with_item}
use Rattle.std.proofs.lemmas.Option.{slice_get-map}
use Rattle.lang_meaning.specs.State.{changed}
use Rattle.lang_meaning.specs.Classes.{fetch}
use Rattle.lang_meaning.specs.Lookup.{set_at}
use Rattle.flat_language.specs.FlatState.{on_state}
use Rattle.eval_store.specs.declared.word.Word.{Word}
use Rattle.eval_store.specs.declared.word.Word.TheVariants as word
use Rattle.eval_store.specs.declared.object.Object.{Object}
use Rattle.eval_store.specs.declared.store.Store.{Store}
use Rattle.eval_store.specs.Words.{value_of_word, object_of, captured_by}
use Rattle.eval_store.specs.View.{Beside, state_of, seen}
use Rattle.eval_store.proofs.Capturing.{mapped_set, captured_set}

-- a variable
pub variable_set : (names : List (List ℕ)) (b : Beside) (s : Store) (i : ℕ) (w : Word)
    → seen names (record s { variables = with_item s.variables i w }) b ≡ on_state (λ y. set_at (Some i) (value_of_word names w) y) (seen names s b)
variable_set names b s i w = rw (mapped_set (value_of_word names) s.variables.items i w) refl

-- an object that captured nothing, in the place of one that captured nothing
pub object_set : (names : List (List ℕ)) (b : Beside) (s : Store) (i : ℕ) (p o : Object) → slice_get s.objects.items i ≡ Some p
    → captured_by names p ≡ None → captured_by names o ≡ None
    → seen names (record s { objects = with_item s.objects i o }) b ≡ on_state (λ y. changed i (object_of names o) y) (seen names s b)
object_set names b s i p o at was now =
    rw (mapped_set (object_of names) s.objects.items i o, captured_set names 0 i s.objects.items o p at was now) refl

-- what a word fetches
pub fetched_at : (names : List (List ℕ)) (b : Beside) (s : Store) (w : Word) (i : ℕ) (o : Object) → w ≡ word.Object i → slice_get s.objects.items i ≡ Some o
    → fetch (state_of names s b) (value_of_word names w) ≡ Some (object_of names o)
fetched_at names b s w i o e at = rw e (slice_get-map (object_of names) s.objects.items i ∙ ap (option_map (object_of names)) at)
