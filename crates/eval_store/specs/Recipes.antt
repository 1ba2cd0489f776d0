-- When a store has what a recipe makes.
use Rattle.std.specs.Prelude.{◌≡◌, ℕ, ◌+◌, List, [], ◌∷◌, ◌++◌, length, map}
use Rattle.lang_meaning.specs.Values.{Value, object}
use Rattle.lang_meaning.specs.Objects.{Object, cons}
use Rattle.lang_meaning.specs.State.{State}
use Rattle.flat_language.specs.FlatState.{FlatState, on_state}
use Rattle.lang_meaning.specs.Recipes.{Recipe, in_turn}
use Rattle.eval_store.specs.declared.store.Store.{Store}
use Rattle.eval_store.specs.View.{Beside, seen}

-- conses of these values, the last one first, before that end
abbrev pub linked : List Value → Value → Recipe Value
linked [] end n = ([], end)
linked (v ∷ vs) end n =
    let others = linked vs end n in
    (others.0 ++ cons v others.1 ∷ [], object (n + length others.0))

-- how many objects there are
abbrev pub count : FlatState → ℕ
count z = length z.state.store

-- objects more, of which none has captured anything
abbrev pub with_objects : List Object → FlatState → FlatState
with_objects os z = on_state (λ (y : State). record y { store = y.store ++ os }) z

-- a state with what a recipe makes
abbrev pub with_made : {V : Type 0} → Recipe V → FlatState → FlatState
with_made r z = with_objects (r (count z)).0 z

-- the store has what the recipe makes, and this stands for it
pub record IsMadeBy {V W : Type 0} (meant : List (List ℕ) → W → V) (recipe : List (List ℕ) → Recipe V) (old new : Store) (w : W) : Type 0 where
  pub store : (names : List (List ℕ)) (b : Beside) → seen names new b ≡ with_made (recipe names) (seen names old b)
  pub stands : (names : List (List ℕ)) (b : Beside) → meant names w ≡ (recipe names (count (seen names old b))).1

-- so far as a list has been passed: what is left to make
pub record IsMaking {X V W : Type 0} (meant : List (List ℕ) → W → V) (recipe : List (List ℕ) → X → Recipe V) (old new : Store) (all left : List X) (ws : List W) : Type 0 where
  pub store : (names : List (List ℕ)) (b : Beside) →
      with_made (in_turn (recipe names) left) (seen names new b) ≡ with_made (in_turn (recipe names) all) (seen names old b)
  pub stands : (names : List (List ℕ)) (b : Beside) →
      map (meant names) ws ++ (in_turn (recipe names) left (count (seen names new b))).1 ≡ (in_turn (recipe names) all (count (seen names old b))).1
