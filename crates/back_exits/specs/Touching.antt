-- Where control words and words of a block that was laid since are stored, and blocks are laid or given back, what words say goes on being said.
use Rattle.std.specs.Prelude.{◌≡◌, ◌⊎◌, ⊤, ℕ, ◌+◌, ◌%◌, ◌^◌, ◌<◌, ◌≤◌, List, [], ◌∷◌, length, Option, Some, slice_get}
use Rattle.lang_meaning.specs.declared.scope.ExitForm.{ExitForm}
use Rattle.flat_language.specs.FlatState.{FlatState}
use Rattle.mid_code.specs.Arena.{Arena, stack_from, word_at}
use Rattle.mid_code.specs.State.{MidState}
use Rattle.mid_arena.specs.Growing.{Grows}
use Rattle.back_lowering.specs.ControlWords.{control_address, serials_address, end_address}
use Rattle.back_relation.specs.Setting.{Setting}
use Rattle.back_relation.specs.Placed.{IsPlaced}
use Rattle.back_relation.specs.Worlds.{World}
use Rattle.back_relation.specs.Things.{Things}
use Rattle.back_relation.specs.Ends.{WorldKept}
use Rattle.back_relation.specs.Cuts.{boxes_cut}
use Rattle.back_relation.specs.Stores.{stores}
use Rattle.back_exits.specs.Going.{world_with, exits_counted}

-- a control word that code stores: all but the record of the end, which stands as it was
abbrev pub IsStored : ℕ → Type 0
IsStored x = (control_address ≤ x) × (x < end_address)

-- each word that is stored is such a control word, or is between two addresses
abbrev pub Touches : (from to : ℕ) → List (ℕ × ℕ) → Type 0
Touches from to [] = ⊤
Touches from to (p ∷ ps) = (p.0 % 4 ≡ 0) × (IsStored p.0 ⊎ ((from ≤ p.0) × (p.0 < to))) × Touches from to ps

-- From one arena to another a block was laid or given back, and words were stored, of control words and between the heap and the stack of before. What
-- begins at an address or behind it stands in both.
pub record Touched (a b : Arena) (ps : List (ℕ × ℕ)) (cut : ℕ) : Type 0 where
  pub grows : Grows a b
  pub from : ℕ
  pub to : ℕ
  pub touches : Touches from to ps
  pub low : a.heap_to ≤ from
  pub high : to ≤ stack_from a
  pub before : stack_from a ≤ cut
  pub after : stack_from b ≤ cut
  pub least : (x : ℕ) → stack_from a ≤ x → stack_from b ≤ x → cut ≤ x

-- the state behind it
abbrev pub touched : List (ℕ × ℕ) → Arena → (cost : ℕ) → MidState → MidState
touched ps b cost y = record y { arena = stores ps b; cost = cost }

-- so many exits were made by then, by these forms, and the serials are said so
pub record ExitsMade (w : World) (z : FlatState) (forms : List (Option ExitForm)) (exits : ℕ) (a : Arena) : Type 0 where
  pub drawn : ℕ
  pub word : word_at a serials_address ≡ Some drawn
  pub count : drawn + 1 ≡ exits
  pub low : drawn < 2 ^ 32
  pub more : z.state.exits ≤ exits
  pub form_count : length forms ≡ exits
  pub forms_kept : (e : ℕ) (o : Option ExitForm) → slice_get w.exit_forms e ≡ Some o → slice_get forms e ≡ Some o

-- then all things stand, but that values of bindings in front of the address are gone
abbrev pub LawOfTouching : Type 0
LawOfTouching =
    (setting : Setting) (w : World) (z : FlatState) (y : MidState) (b : Arena) (ps : List (ℕ × ℕ)) (cut cost : ℕ) (forms : List (Option ExitForm)) (exits : ℕ) (made : List ℕ)
    → IsPlaced setting → Things setting w z y → Touched y.arena b ps cut → ExitsMade w z forms exits (stores ps b)
    → WorldKept setting w (world_with (boxes_cut cut w.boxes) forms w) z (exits_counted exits made z) y (touched ps b cost y)
