-- The elements of a list become operands.
use Rattle.std.specs.Prelude.{◌≡◌, ℕ, ◌+◌, List, [], ◌++◌, Bool, true, false, length, Some}
use Rattle.lang_meaning.specs.Values.{Value}
use Rattle.lang_meaning.specs.Objects.{cons}
use Rattle.lang_meaning.specs.Classes.{fetch}
use Rattle.lang_meaning.specs.Meaning.{Spread, spread_at, spread}
use Rattle.eval_store.specs.declared.word.Word.{Word}
use Rattle.eval_store.specs.declared.word.Word.TheVariants as word
use Rattle.eval_store.specs.declared.store.Store.{Store}
use Rattle.eval_store.specs.Words.{value_of_word, values_of}
use Rattle.eval_store.specs.View.{Beside, state_of}
use Rattle.eval_state.specs.declared.machine.Machine.{Machine}
use Rattle.eval_state.specs.View.{state}
use Rattle.eval_application.specs.declared.spreading.ListStep.{ListStep}
use Rattle.eval_application.specs.declared.spreading.ListStep.TheVariants.{Cons, End, NoList}
use Rattle.eval_application.specs.declared.spreading.Spread.{Spread as Pushed}
use Rattle.eval_application.specs.Methods.{ArePushed}

-- a list goes on with a cons
pub record ListGoesOn (s : Store) (w : Word) (n : ℕ) (car cdr : Word) : Type 0 where
  pub is_object : w ≡ word.Object n
  pub there : (names : List (List ℕ)) (b : Beside) → fetch (state_of names s b) (value_of_word names w) ≡ Some (cons (value_of_word names car) (value_of_word names cdr))

-- or it ends there
pub record ListEnds (s : Store) (w : Word) (proper : Bool) : Type 0 where
  pub ends : (names : List (List ℕ)) (b : Beside) (others : ℕ → Value → Spread) (seen : List ℕ)
      → spread_at others seen (value_of_word names w) (fetch (state_of names s b) (value_of_word names w)) ≡ record { elements = []; proper = proper }

abbrev pub IsListStep : Store → Word → ListStep → Type 0
IsListStep s w (Cons n car cdr) = ListGoesOn s w n car cdr
IsListStep s w End = ListEnds s w true
IsListStep s w NoList = ListEnds s w false

-- elements in front of others
abbrev pub behind : List Value → Spread → Spread
behind vs s = record { elements = vs ++ s.elements; proper = s.proper }

-- the elements of a list were pushed
pub record IsSpread (old new : Machine) (list : Word) (s : Pushed) : Type 0 where
  pub more : List Word
  pub pushed : ArePushed old new more
  pub count_is : s.count ≡ length more
  pub spread_is : (names : List (List ℕ)) (b : Beside)
      → spread (length (state names old b).state.store + 1) (state names old b).state [] (value_of_word names list) ≡ record { elements = values_of names more; proper = s.proper }
