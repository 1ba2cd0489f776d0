-- Whether words that are asked for fit, and the most words that were in use once they are given.
use Rattle.std.specs.Prelude.{◌≡◌, ℕ, ◌+◌, ◌^◌, ◌≤◌, true, false, max, [], ◌∷◌, ◌++◌, Option, Result, Ok, Err}
use Rattle.lang_meaning.specs.State.{has_room, room_left}
use Rattle.eval_store.specs.declared.object.Object.{Object}
use Rattle.eval_store.specs.declared.store.Store.{Store}
use Rattle.eval_store.specs.declared.store.Halt.{Halt}
use Rattle.eval_store.specs.declared.store.Halt.TheVariants.{NoMemory, Spent, Full}
use Rattle.eval_store.specs.View.{limit_of}

-- the words that are in use, and those asked for
abbrev pub words_wanted : Store → (heap stack : ℕ) → ℕ
words_wanted s heap stack = s.heap + s.stack + heap + stack

abbrev pub IsAdmitted : Store → Option ℕ → (heap stack : ℕ) → Result ℕ Halt → Type 0
IsAdmitted s limit heap stack (Ok peak) =
    (has_room (limit_of limit) (words_wanted s heap stack) ≡ true) × (peak ≡ max s.peak (words_wanted s heap stack)) × (words_wanted s heap stack ≤ peak)
IsAdmitted s limit heap stack (Err (Full asked left)) =
    (has_room (limit_of limit) (words_wanted s heap stack) ≡ false) × (asked ≡ heap + stack) × (left ≡ room_left (limit_of limit) (s.heap + s.stack))
IsAdmitted s limit heap stack (Err Spent) =
    (has_room (limit_of limit) (words_wanted s heap stack) ≡ true) × (2 ^ 64 ≤ words_wanted s heap stack)
IsAdmitted s limit heap stack (Err NoMemory) = ⊥

-- an object stands behind those that were there, and all else is as it was
pub record IsPlaced (s : Store) (o : Object) (t : Store) : Type 0 where
  pub objects : t.objects.items ≡ s.objects.items ++ o ∷ []
  pub besides : t ≡ record s { objects = t.objects }

-- nothing has changed
pub record IsSame (s t : Store) : Type 0 where
  pub objects : t.objects.items ≡ s.objects.items
  pub besides : t ≡ record s { objects = t.objects }
