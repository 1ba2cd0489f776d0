-- Objects and words that stand for what was made.
use Rattle.std.proofs.Common.{◌≡◌, ℕ, ◌+◌, List, [], ◌∷◌, ◌++◌, length, ◌≤◌, drop, Some, None, refl, sym, ◌∙◌, ap}
use Rattle.std.specs.Prelude.{slice_get, option_map}
use Rattle.std.proofs.lemmas.List.{length-map, drop_all}
use Rattle.std.proofs.lemmas.Option.{slice_get-map}
use Rattle.base.specs.model.DataRest.{rest_at}
use Rattle.lang_meaning.specs.Values.{Value, object}
use Rattle.lang_meaning.specs.Objects.{Object, cons}
use Rattle.lang_meaning.specs.State.{stored}
use Rattle.eval_store.specs.declared.store.Store.{Store}
use Rattle.eval_store.specs.declared.word.Word.{Word}
use Rattle.eval_store.specs.declared.word.Word.TheVariants as word
use Rattle.eval_store.specs.declared.object.Object as made
use Rattle.eval_store.specs.Words.{value_of_word, values_of, object_of, captured_by, under_its_number}
use Rattle.eval_store.specs.View.{Beside, seen, Becomes, placed}
use Rattle.lang_meaning.specs.Recipes.{Recipe, single, both}
use Rattle.eval_store.specs.Recipes.{linked, count, with_objects, with_made, IsMadeBy}
use Rattle.eval_store.proofs.Turns.{none_more, more_after, count_made}

-- a word that needs no object
pub atom_made : {W : Type 0} {V : Type 0} (meant : List (List ℕ) → W → V) (s : Store) (w : W)
    → IsMadeBy meant (λ names n. ([], meant names w)) s s w
atom_made meant s w = record { store = λ names b. sym (none_more (seen names s b)); stands = λ names b. refl }

-- two things, one after the other
pub both_made : {U V M N : Type 0} {meant : List (List ℕ) → M → U} {means : List (List ℕ) → N → V}
    {r : List (List ℕ) → Recipe U} {s : List (List ℕ) → Recipe V} {old mid new : Store} {w : M} {u : N}
    → IsMadeBy meant r old mid w → IsMadeBy means s mid new u
    → IsMadeBy (λ names (p : M × N). (meant names p.0, means names p.1)) (λ names. both (r names) (s names)) old new (w, u)
both_made {U} {V} {M} {N} {meant} {means} {r} {s} {old} {mid} {new} {w} {u} p q = record {
  store = λ names b.
      q.store names b
      ∙ ap (λ n. with_objects (s names n).0 (seen names mid b)) (count_made p names b)
      ∙ ap (λ z. with_objects (s names (count (seen names old b) + length (r names (count (seen names old b))).0)).0 z) (p.store names b)
      ∙ more_after (r names (count (seen names old b))).0 (s names (count (seen names old b) + length (r names (count (seen names old b))).0)).0 (seen names old b);
  stands = λ names b.
      ap (λ v. (v, means names u)) (p.stands names b)
      ∙ ap (λ v. ((r names (count (seen names old b))).1, v)) (q.stands names b ∙ ap (λ n. (s names n).1) (count_made p names b));
}

-- another recipe for the same objects
pub record IsAs {V W U M : Type 0} (meant : List (List ℕ) → W → V) (means : List (List ℕ) → M → U) (r : List (List ℕ) → Recipe V) (s : List (List ℕ) → Recipe U) (w : W) (m : M) : Type 0 where
  pub objects : (names : List (List ℕ)) (n : ℕ) → meant names w ≡ (r names n).1 → (r names n).0 ≡ (s names n).0
  pub stands : (names : List (List ℕ)) (n : ℕ) → meant names w ≡ (r names n).1 → means names m ≡ (s names n).1

pub made_as : {V W U M : Type 0} {meant : List (List ℕ) → W → V} {means : List (List ℕ) → M → U} {r : List (List ℕ) → Recipe V} {s : List (List ℕ) → Recipe U} {old new : Store} {w : W} {m : M}
    → IsAs meant means r s w m → IsMadeBy meant r old new w → IsMadeBy means s old new m
made_as {V} {W} {U} {M} {meant} {means} {r} {s} {old} {new} {w} {m} x p = record {
  store = λ names b. p.store names b ∙ ap (λ os. with_objects os (seen names old b)) (x.objects names (count (seen names old b)) (p.stands names b));
  stands = λ names b. x.stands names (count (seen names old b)) (p.stands names b);
}

-- an object after its parts

abbrev pub after : {V : Type 0} → Recipe V → Object → Recipe Value
after r o n = let parts = r n in (parts.0 ++ o ∷ [], object (n + length parts.0))

pub after_made : {V W : Type 0} {meant : List (List ℕ) → W → V} {r : List (List ℕ) → Recipe V} {o : List (List ℕ) → Object} {old mid new : Store} {w : W} {u : Word}
    → IsMadeBy meant r old mid w → IsMadeBy value_of_word (λ names. single (o names)) mid new u
    → IsMadeBy value_of_word (λ names. after (r names) (o names)) old new u
after_made {V} {W} {meant} {r} {o} {old} {mid} {new} {w} {u} p q = record {
  store = λ names b. (both_made p q).store names b;
  stands = λ names b. ap (λ v. v.1) ((both_made p q).stands names b);
}

-- the same recipe, said otherwise
pub same_recipe : {V W : Type 0} {meant : List (List ℕ) → W → V} {r s : List (List ℕ) → Recipe V} {old new : Store} {w : W}
    → ((names : List (List ℕ)) → r names ≡ s names) → IsMadeBy meant r old new w → IsMadeBy meant s old new w
same_recipe {V} {W} {meant} {r} {s} {old} {new} {w} e p = record {
  store = λ names b. p.store names b ∙ ap (λ (f : Recipe V). with_made f (seen names old b)) (e names);
  stands = λ names b. p.stands names b ∙ ap (λ (f : Recipe V). (f (count (seen names old b))).1) (e names);
}

-- an object that was added, and has captured nothing
pub object_added : (s t : Store) (o : made.Object) (n : ℕ)
    → ((names : List (List ℕ)) (b : Beside) → n ≡ length (seen names s b).state.store)
    → Becomes s t (λ names b. placed names o)
    → ((names : List (List ℕ)) → captured_by names o ≡ None)
    → IsMadeBy value_of_word (λ names. single (object_of names o)) s t (word.Object n)
object_added s t o n number becomes nothing = record {
  store = λ names b. becomes names b ∙ ap (λ c. record (seen names s b) { state = stored (object_of names o) (seen names s b).state; captured = under_its_number (count (seen names s b)) c ++ (seen names s b).captured }) (nothing names);
  stands = λ names b. ap object (number names b);
}

-- conses

-- one more in front
pub linked_more : (vs : List (List ℕ) → List Value) (e v : List (List ℕ) → Value) {old mid new : Store} {w u : Word}
    → IsMadeBy value_of_word (λ names. linked (vs names) (e names)) old mid w
    → IsMadeBy value_of_word (λ names. single (cons (v names) (value_of_word names w))) mid new u
    → IsMadeBy value_of_word (λ names. linked (v names ∷ vs names) (e names)) old new u
linked_more vs e v {old} {mid} {new} {w} {u} p q =
    let x : IsMadeBy value_of_word (λ names. after (linked (vs names) (e names)) (cons (v names) (value_of_word names w))) old new u = after_made p q in
    record {
      store = λ names b.
          x.store names b
          ∙ ap (λ c. with_objects ((linked (vs names) (e names) (count (seen names old b))).0 ++ cons (v names) c ∷ []) (seen names old b)) (p.stands names b);
      stands = λ names b. x.stands names b;
    }

-- none yet
pub none_linked : (words : List Word) (e : Word) (s : Store) (at : ℕ) → length words ≤ at
    → IsMadeBy value_of_word (λ names. linked (drop at (values_of names words)) (value_of_word names e)) s s e
none_linked words e s at h =
    same_recipe
    (λ names.
    let past : length (values_of names words) ≤ at = rw (length-map words (value_of_word names)) h in
    ap (λ vs. linked vs (value_of_word names e)) (sym (drop_all at (values_of names words) past)))
    (record { store = λ names b. sym (none_more (seen names s b)); stands = λ names b. refl })

-- the one before
pub linked_at : (words : List Word) (e : Word) (at : ℕ) {old mid new : Store} {v w u : Word} → slice_get words at ≡ Some v
    → IsMadeBy value_of_word (λ names. linked (drop (at + 1) (values_of names words)) (value_of_word names e)) old mid w
    → IsMadeBy value_of_word (λ names. single (cons (value_of_word names v) (value_of_word names w))) mid new u
    → IsMadeBy value_of_word (λ names. linked (drop at (values_of names words)) (value_of_word names e)) old new u
linked_at words e at {old} {mid} {new} {v} {w} {u} h p q =
    same_recipe
    (λ names.
    let there : slice_get (values_of names words) at ≡ Some (value_of_word names v) =
    slice_get-map (value_of_word names) words at ∙ ap (option_map (value_of_word names)) h in
    ap (λ vs. linked vs (value_of_word names e)) (sym (rest_at (values_of names words) at (value_of_word names v) there)))
    (linked_more (λ names. drop (at + 1) (values_of names words)) (λ names. value_of_word names e) (λ names. value_of_word names v) p q)
