-- A loop along a list, by what holds before each of its turns.
use Rattle.std.proofs.Common.{◌≡◌, ◌<◌, ℕ, zero, suc, ◌+◌, true, false, List, [], ◌∷◌, length, arith, ◌⊎◌, inl, inr, ⊎_elim}
use Rattle.lang_meaning.specs.Form.{Form, while_form}
use Rattle.lang_meaning.specs.Values.{Value, nil, is_true}
use Rattle.lang_meaning.specs.Objects.{Object}
use Rattle.lang_library_laws.proofs.Frames.{Places, Setting, Comes, a_form, weaker}
use Rattle.lang_library_laws.proofs.Evaluates.{while_runs, below_one, none_to_go_below}

-- What holds before each turn is said of the items that are left: with one the loop has a turn more or stops, and with none it stops.
-- A turn needs so many levels, and the loop one more for each item.
module _ (s : Setting) (places : Places) (test body : Form) (X : Type 0) (enough : ℕ) (Holding : List X → List Value → List Object → Type 0)
    (Q : Value → List Value → List Object → Type 0) where
  -- behind a test: a turn, after which so many are left, or none
  abbrev pub Turn : ℕ → List X → Value → List Value → List Object → Type 0
  Turn k xs v frame store =
      ((is_true v ≡ true) × Comes s places (a_form k body) frame store (λ ignored fr st. Holding xs fr st)) ⊎ ((is_true v ≡ false) × Q nil frame store)

  abbrev pub Turns : Type 0
  Turns =
      (k : ℕ) (x : X) (xs : List X) (frame : List Value) (store : List Object) → (k < enough → s.short) → Holding (x ∷ xs) frame store
      → Comes s places (a_form k test) frame store (Turn k xs)

  abbrev pub Stops : Type 0
  Stops =
      (k : ℕ) (frame : List Value) (store : List Object) → (k < enough → s.short) → Holding [] frame store
      → Comes s places (a_form k test) frame store (λ v fr st. (is_true v ≡ false) × Q nil fr st)

  pub loops : Turns → Stops → (xs : List X) (k : ℕ) (frame : List Value) (store : List Object) → (k < length xs + enough → s.short)
      → Holding xs frame store → Comes s places (a_form k (while_form test body)) frame store Q
  loops turns stops [] k frame store short h = while_runs (weaker (stops k frame store (λ g. short (omega (arith, g))) h) (λ v fr st r. inr r))
  loops turns stops (x ∷ xs) zero frame store short h =
      while_runs (weaker (turns zero x xs frame store (λ g. short (omega (arith, g))) h) (λ v fr st r. ⊎_elim
      (λ t. inl (t.0, weaker t.1 (λ ignored fr st after. none_to_go_below (short (omega arith))))) (λ e. inr e) r))
  loops turns stops (x ∷ xs) (suc k) frame store short h =
      while_runs (weaker (turns (suc k) x xs frame store (λ g. short (omega (arith, g))) h) (λ v fr st r. ⊎_elim
      (λ t. inl (t.0, weaker t.1 (λ ignored fr st after. below_one (loops turns stops xs k fr st (λ g. short (omega (arith, g))) after)))) (λ e. inr e) r))
