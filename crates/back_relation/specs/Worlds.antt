-- Ghosts, which no word holds: what words of the arena stand for, and which control records stand.
use Rattle.std.specs.Prelude.{◌≡◌, ◌⊎◌, ⊤, ℕ, ◌+◌, ◌*◌, ◌<◌, ◌≤◌, ◌==◌, ◌||◌, Bool, true, false, List, [], ◌∷◌, Option, Some, None, slice_get, if◌then◌else◌}
use Rattle.lang_meaning.specs.declared.scope.ExitForm.{ExitForm}
use Rattle.lang_meaning.specs.declared.scope.ExitForm.TheVariants.{Tagbody}
use Rattle.lang_meaning.specs.Objects.{Called}
use Rattle.lang_meaning.specs.State.{Exit, ExitKind, catch_exit, signal_exit, end_exit, Landing, at_segment, at_site}
use Rattle.mid_arena.specs.Places.{Spot, Places, Owner, spot_of}
use Rattle.back_lowering.specs.ControlWords.{record_words}

-- where the value of a variable of the state stands: in a box of the heap, in a dynamic binding on the stack, or nowhere any more
pub data BoxPlace : Type 0 where
  on_heap : ℕ → BoxPlace
  on_stack : ℕ → BoxPlace
  gone : BoxPlace

-- what words stand for: objects, symbols and spots of the code's own; the variables of the state, by their numbers; the calls of methods
-- that are kept in the heap, each with the address of its words; and for each exit, by its number, the form that made it, if it was a block
-- or a tagbody
pub record World : Type 0 where
  pub places : Places
  pub boxes : List BoxPlace
  pub methods : List (ℕ × Called)
  pub exit_forms : List (Option ExitForm)

-- a later world: what had a spot has it, what had a box has it, what was kept is kept; and no new binding stands
pub record Later (w w' : World) : Type 0 where
  pub spots : (p : Owner) (s : Spot) → spot_of w.places p ≡ Some s → spot_of w'.places p ≡ Some s
  pub boxes : (i a : ℕ) → slice_get w.boxes i ≡ Some (on_heap a) → slice_get w'.boxes i ≡ Some (on_heap a)
  pub methods : (i : ℕ) (m : ℕ × Called) → slice_get w.methods i ≡ Some m → slice_get w'.methods i ≡ Some m
  pub exit_forms : (e : ℕ) (o : Option ExitForm) → slice_get w.exit_forms e ≡ Some o → slice_get w'.exit_forms e ≡ Some o
  pub none_new : (i a : ℕ) → slice_get w'.boxes i ≡ Some (on_stack a) → slice_get w.boxes i ≡ Some (on_stack a)

-- the box of a variable
abbrev pub BoxIs : World → (variable address : ℕ) → Type 0
BoxIs w i a = slice_get w.boxes i ≡ Some (on_heap a)

-- a call that is kept at an address
abbrev pub MethodIs : World → (address : ℕ) → Called → Type 0
MethodIs w a called = (i : ℕ) × (slice_get w.methods i ≡ Some (a, called))

-- a transfer to an exit lands at a segment that its form has
abbrev pub LandsIn : Option (Option ExitForm) → Landing → Type 0
LandsIn (Some (Some (Tagbody segments))) (at_segment i) = i < segments
LandsIn (Some (Some (Tagbody segments))) (at_site place) = ⊥
LandsIn o landing = ⊤

-- the exits of catches and of signals, to which transfers leave by a tag
abbrev pub IsTagged : ExitKind → Type 0
IsTagged (catch_exit tag) = ⊤
IsTagged (signal_exit c mark) = ⊤
IsTagged kind = ⊥

-- no value of a binding stands at an address
abbrev pub Plain : World → ℕ → Type 0
Plain w x = (i : ℕ) → slice_get w.boxes i ≡ Some (on_stack x) → ⊥

-- two variables have not the same place
pub record BoxesApart (w : World) : Type 0 where
  pub heap : (i j a : ℕ) → slice_get w.boxes i ≡ Some (on_heap a) → slice_get w.boxes j ≡ Some (on_heap a) → i ≡ j
  pub stack : (i j a : ℕ) → slice_get w.boxes i ≡ Some (on_stack a) → slice_get w.boxes j ≡ Some (on_stack a) → i ≡ j

-- what a control record is for
pub data RecordRole : Type 0 where
  for_cleanup : RecordRole
  for_exit : Exit → RecordRole

-- a control record that stands: where it is, how many blocks are outside, the record outside it, the link that was valid when it was laid, and
-- what it is for
pub record Standing : Type 0 where
  pub address : ℕ
  pub outside : ℕ
  pub outer : ℕ
  pub link : ℕ
  pub role : RecordRole

abbrev pub is_cleanup : RecordRole → Bool
is_cleanup for_cleanup = true
is_cleanup (for_exit x) = false

abbrev pub IsIn : Standing → List Standing → Type 0
IsIn r [] = ⊥
IsIn r (s ∷ rs) = (r ≡ s) ⊎ IsIn r rs

-- no block and no tagbody made the exits of catches and of signals that stand
abbrev pub TagsLand : World → List Standing → Type 0
TagsLand w rs = (x : Exit) (v : Standing) → IsIn v rs → v.role ≡ for_exit x → IsTagged x.kind → slice_get w.exit_forms x.number ≡ Some None

-- how many bytes a record has
abbrev pub record_bytes : ℕ
record_bytes = 4 * record_words

-- records from the one at an address outwards, each below the one outside it
abbrev pub Chain : (above : ℕ) → ℕ → List Standing → Type 0
Chain above a [] = ⊤
Chain above a (r ∷ rs) = (a ≡ r.address) × (above ≤ r.address) × Chain (r.address + record_bytes) r.outer rs

-- the valid exits from the record at an address by the links: their numbers fall from one on
abbrev pub Links : List Standing → ℕ → (below : ℕ) → List Exit → List Standing → Type 0
Links rs a below [] [] = ⊤
Links rs a below [] (v ∷ vs) = ⊥
Links rs a below (x ∷ xs) [] = ⊥
Links rs a below (x ∷ xs) (v ∷ vs) =
    (a ≡ v.address) × IsIn v rs × (v.role ≡ for_exit x) × (x.number < below) × Links rs v.link x.number xs vs

-- the outermost exit, and no other, is the end of the program
abbrev pub EndsAtEnd : List Exit → Type 0
EndsAtEnd [] = ⊥
EndsAtEnd (x ∷ []) = x ≡ record { number = 0; kind = end_exit }
EndsAtEnd (x ∷ y ∷ xs) = (x.kind ≡ end_exit → ⊥) × EndsAtEnd (y ∷ xs)

-- the record of the valid exit with a number
abbrev pub record_of_exit : ℕ → List Exit → List Standing → Option Standing
record_of_exit e [] vs = None
record_of_exit e (x ∷ xs) [] = None
record_of_exit e (x ∷ xs) (v ∷ vs) = if x.number == e then Some v else record_of_exit e xs vs

-- the records from the one on where a transfer to the record at an address goes first: that one, or a cleanup inside it
abbrev pub first_stop : ℕ → List Standing → List Standing
first_stop t [] = []
first_stop t (r ∷ rs) = if (r.address == t) || is_cleanup r.role then r ∷ rs else first_stop t rs
