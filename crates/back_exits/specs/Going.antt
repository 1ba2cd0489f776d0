-- What words say goes on being said where control words are stored: all but those words, and the boxes that are gone, is as it was.
use Rattle.std.specs.Prelude.{◌≡◌, ⊤, ℕ, ◌+◌, ◌^◌, ◌<◌, List, Option, Some, length, slice_get}
use Rattle.lang_meaning.specs.declared.scope.ExitForm.{ExitForm}
use Rattle.flat_language.specs.FlatState.{FlatState}
use Rattle.mid_code.specs.Arena.{Arena, word_at}
use Rattle.mid_code.specs.State.{MidState}
use Rattle.mid_arena.specs.Growing.{Changes}
use Rattle.mid_arena.specs.Law.{SameStreams}
use Rattle.back_lowering.specs.ControlWords.{serials_address}
use Rattle.back_lowering.specs.Placement.{global_address, dynamic_address}
use Rattle.back_relation.specs.Setting.{Setting, control_spot}
use Rattle.back_relation.specs.Placed.{HasGlobal, HasDynamic}
use Rattle.back_relation.specs.Worlds.{World, BoxPlace, on_heap, on_stack, gone}
use Rattle.back_relation.specs.StackWords.{HasWordAt}
use Rattle.back_relation.specs.Things.{Things}

-- where a variable of the state was, if it is anywhere
abbrev pub BoxWas : World → (before after : Arena) → ℕ → BoxPlace → Type 0
BoxWas w before after i (on_heap x) = slice_get w.boxes i ≡ Some (on_heap x)
BoxWas w before after i (on_stack x) = (slice_get w.boxes i ≡ Some (on_stack x)) × (word_at after x ≡ word_at before x)
BoxWas w before after i gone = ⊤

-- the world with other boxes, and exits made by these forms
abbrev pub world_with : List BoxPlace → List (Option ExitForm) → World → World
world_with boxes forms w = record w { boxes = boxes; exit_forms = forms }

-- the state where so many exits were made
abbrev pub exits_counted : (exits : ℕ) → (made : List ℕ) → FlatState → FlatState
exits_counted exits made z = record z { state = record z.state { exits = exits; made = made } }

module _ (setting : Setting) where
  pub record GoesOn (w : World) (boxes : List BoxPlace) (forms : List (Option ExitForm)) (exits : ℕ) (y y' : MidState) : Type 0 where
    pub changes : Changes (control_spot setting) y.arena y'.arena
    pub streams : SameStreams y y'
    pub globals : (n : ℕ) → HasGlobal setting n → word_at y'.arena (global_address setting.at n) ≡ word_at y.arena (global_address setting.at n)
    pub dynamics : (n : ℕ) → HasDynamic setting n → word_at y'.arena (dynamic_address setting.at n) ≡ word_at y.arena (dynamic_address setting.at n)
    pub serials : (drawn : ℕ) × HasWordAt y' serials_address drawn × (drawn + 1 ≡ exits) × (drawn < 2 ^ 32)
    pub box_count : length boxes ≡ length w.boxes
    pub boxes_were : (i : ℕ) (b : BoxPlace) → slice_get boxes i ≡ Some b → BoxWas w y.arena y'.arena i b
    pub boxes_kept : (i a : ℕ) → slice_get w.boxes i ≡ Some (on_heap a) → slice_get boxes i ≡ Some (on_heap a)
    pub form_count : length forms ≡ exits
    pub forms_kept : (e : ℕ) (o : Option ExitForm) → slice_get w.exit_forms e ≡ Some o → slice_get forms e ≡ Some o

  -- all things stand
  abbrev pub LawOfGoing : Type 0
  LawOfGoing =
      (w : World) (z : FlatState) (y y' : MidState) (boxes : List BoxPlace) (forms : List (Option ExitForm)) (exits : ℕ) (made : List ℕ)
      → Things setting w z y → GoesOn w boxes forms exits y y' → Things setting (world_with boxes forms w) (exits_counted exits made z) y'
