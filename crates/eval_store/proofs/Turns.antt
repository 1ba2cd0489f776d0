-- Things that are made one after another.
use Rattle.std.proofs.Common.{◌≡◌, ℕ, ◌+◌, ◌≤◌, List, [], ◌∷◌, ◌++◌, length, map, drop, Some, refl, sym, ◌∙◌, ap, subst, append_assoc, append-nil}
use Rattle.std.specs.Prelude.{slice_get}
use Rattle.std.proofs.lemmas.List.{length-append, map-append, drop_all}
use Rattle.base.specs.model.DataRest.{rest_at}
use Rattle.lang_meaning.specs.Objects.{Object}
use Rattle.flat_language.specs.FlatState.{FlatState}
use Rattle.eval_store.specs.declared.store.Store.{Store}
use Rattle.eval_store.specs.View.{Beside, seen}
use Rattle.lang_meaning.specs.Recipes.{Recipe, in_turn}
use Rattle.eval_store.specs.Recipes.{count, with_objects, with_made, IsMadeBy, IsMaking}

-- objects more

pub none_more : (z : FlatState) → with_objects [] z ≡ z
none_more z = rw (append-nil z.state.store) refl

pub more_after : (xs ys : List Object) (z : FlatState) → with_objects ys (with_objects xs z) ≡ with_objects (xs ++ ys) z
more_after xs ys z = rw (append_assoc z.state.store xs ys) refl

pub count_after : (xs : List Object) (z : FlatState) → count (with_objects xs z) ≡ count z + length xs
count_after xs z = length-append z.state.store xs

-- where one has been made, what is made next begins behind it
pub count_made : {V W : Type 0} {meant : List (List ℕ) → W → V} {recipe : List (List ℕ) → Recipe V} {old new : Store} {w : W}
    → IsMadeBy meant recipe old new w → (names : List (List ℕ)) (b : Beside)
    → count (seen names new b) ≡ count (seen names old b) + length (recipe names (count (seen names old b))).0
count_made {V} {W} {meant} {recipe} {old} x names b =
    ap count (x.store names b) ∙ count_after (recipe names (count (seen names old b))).0 (seen names old b)

-- the first of a list, and then the others
pub turn : {X V : Type 0} (f : X → Recipe V) (x : X) (xs : List X) (z : FlatState)
    → with_made (in_turn f xs) (with_made (f x) z) ≡ with_made (in_turn f (x ∷ xs)) z
turn f x xs z =
    ap (λ n. with_objects (in_turn f xs n).0 (with_made (f x) z)) (count_after (f x (count z)).0 z)
    ∙ more_after (f x (count z)).0 (in_turn f xs (count z + length (f x (count z)).0)).0 z

-- a loop over a list

pub none_made : {X V W : Type 0} (meant : List (List ℕ) → W → V) (recipe : List (List ℕ) → X → Recipe V) (s : Store) (xs : List X)
    → IsMaking meant recipe s s xs xs []
none_made meant recipe s xs = record { store = λ names b. refl; stands = λ names b. refl }

pub one_made : {X V W : Type 0} {meant : List (List ℕ) → W → V} {recipe : List (List ℕ) → X → Recipe V} {old mid new : Store} {all left : List X} {x : X} {ws : List W} {w : W}
    → IsMaking meant recipe old mid all (x ∷ left) ws → IsMadeBy meant (λ names. recipe names x) mid new w
    → IsMaking meant recipe old new all left (ws ++ w ∷ [])
one_made {X} {V} {W} {meant} {recipe} {old} {mid} {new} {all} {left} {x} {ws} {w} p q = record {
  store = λ names b.
      ap (λ z. with_made (in_turn (recipe names) left) z) (q.store names b)
      ∙ turn (recipe names) x left (seen names mid b)
      ∙ p.store names b;
  stands = λ names b.
      ap (λ vs. vs ++ (in_turn (recipe names) left (count (seen names new b))).1) (map-append (meant names) ws (w ∷ []))
      ∙ append_assoc (map (meant names) ws) (meant names w ∷ []) (in_turn (recipe names) left (count (seen names new b))).1
      ∙ ap (λ v. map (meant names) ws ++ v ∷ (in_turn (recipe names) left (count (seen names new b))).1) (q.stands names b)
      ∙ ap (λ n. map (meant names) ws ++ (recipe names x (count (seen names mid b))).1 ∷ (in_turn (recipe names) left n).1) (count_made q names b)
      ∙ p.stands names b;
}

pub all_made : {X V W : Type 0} {meant : List (List ℕ) → W → V} {recipe : List (List ℕ) → X → Recipe V} {old new : Store} {all : List X} {ws : List W}
    → IsMaking meant recipe old new all [] ws
    → IsMadeBy (λ names. map (meant names)) (λ names. in_turn (recipe names) all) old new ws
all_made {X} {V} {W} {meant} {recipe} {old} {new} {all} {ws} p = record {
  store = λ names b. sym (none_more (seen names new b)) ∙ p.store names b;
  stands = λ names b. sym (append-nil (map (meant names) ws)) ∙ p.stands names b;
}

-- the same, by the place to which the loop has come
pub one_made_at : {X V W : Type 0} {meant : List (List ℕ) → W → V} {recipe : List (List ℕ) → X → Recipe V} {old mid new : Store} {all : List X} {x : X} {ws us : List W} {w : W}
    (at : ℕ) → slice_get all at ≡ Some x → us ≡ ws ++ w ∷ [] → IsMaking meant recipe old mid all (drop at all) ws → IsMadeBy meant (λ names. recipe names x) mid new w
    → IsMaking meant recipe old new all (drop (at + 1) all) us
one_made_at {X} {V} {W} {meant} {recipe} {old} {mid} {new} {all} {x} {ws} {us} {w} at h e p q =
    subst (λ vs. IsMaking meant recipe old new all (drop (at + 1) all) vs) (sym e)
    (one_made (subst (λ xs. IsMaking meant recipe old mid all xs ws) (rest_at all at x h) p) q)

pub all_made_at : {X V W : Type 0} {meant : List (List ℕ) → W → V} {recipe : List (List ℕ) → X → Recipe V} {old new : Store} {all : List X} {ws : List W}
    (at : ℕ) → length all ≤ at → IsMaking meant recipe old new all (drop at all) ws
    → IsMadeBy (λ names. map (meant names)) (λ names. in_turn (recipe names) all) old new ws
all_made_at {X} {V} {W} {meant} {recipe} {old} {new} {all} {ws} at h p =
    all_made (subst (λ xs. IsMaking meant recipe old new all xs ws) (drop_all at all h) p)
