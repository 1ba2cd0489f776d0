-- What a machine is once its activation has new slots.
use Rattle.std.specs.Prelude.{◌≡◌, ℕ, ◌+◌, List, [], ◌∷◌, ◌++◌, length}
use Rattle.flat_language.specs.declared.place.Home.{Home}
use Rattle.flat_language.specs.FlatState.{with_slots, with_values}
use Rattle.eval_store.specs.declared.word.Word.{Word}
use Rattle.eval_store.specs.Words.{values_of}
use Rattle.eval_store.specs.View.{Beside}
use Rattle.eval_state.specs.declared.slot.Slot.{Slot}
use Rattle.eval_state.specs.declared.machine.Machine.{Machine}
use Rattle.eval_state.specs.View.{state}

-- the slots of new variables with these homes and values, behind those that were there
pub record AreSlotted (old new : Machine) (hs : List Home) (ws : List Word) : Type 0 where
  pub more : List Slot
  pub slots : new.slots.items ≡ old.slots.items ++ more
  pub count : new.current.slots ≡ old.current.slots + length more
  pub same : new ≡ record old { slots = new.slots; current = record old.current { slots = new.current.slots }; store = new.store }
  pub state_is : (names : List (List ℕ)) (b : Beside) → state names new b ≡ with_slots hs (values_of names ws) (state names old b)

-- a slot more
pub record IsSlotted (old new : Machine) (h : Home) (w : Word) : Type 0 where
  pub slot : Slot
  pub slots : new.slots.items ≡ old.slots.items ++ slot ∷ []
  pub count : new.current.slots ≡ old.current.slots + 1
  pub same : new ≡ record old { slots = new.slots; current = record old.current { slots = new.current.slots }; store = new.store }
  pub state_is : (names : List (List ℕ)) (b : Beside) → state names new b ≡ with_slots (h ∷ []) (values_of names (w ∷ [])) (state names old b)

-- new variables of the store with these values, which no slots have
pub record AreVariables (old new : Machine) (ws : List Word) : Type 0 where
  pub same : new ≡ record old { store = new.store }
  pub state_is : (names : List (List ℕ)) (b : Beside) → state names new b ≡ with_values (values_of names ws) (state names old b)
