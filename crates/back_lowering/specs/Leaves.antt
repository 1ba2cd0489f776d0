-- The code of what many forms do: a site is stored, a condition is signalled, variables are read and set, boxes are made.
use Rattle.std.specs.Prelude.{ℕ, zero, suc, ◌+◌, ◌*◌, List, [], ◌∷◌, ◌++◌, Option, Some, None, slice_get}
use Rattle.flat_language.specs.declared.place.Home.{Home}
use Rattle.flat_language.specs.declared.place.Home.TheVariants as home
use Rattle.flat_language.specs.declared.place.VariablePlace.{VariablePlace}
use Rattle.flat_language.specs.declared.place.VariablePlace.TheVariants.{Slot, SlotBox, CapturedValue, CapturedBox}
use Rattle.flat_language.specs.declared.place.ExitPlace.{ExitPlace}
use Rattle.flat_language.specs.declared.place.ExitPlace.TheVariants as exit_place
use Rattle.mid_arena.specs.Tags.{nil_word}
use Rattle.back_lowering.specs.ControlWords.{site_address, function_captured}
use Rattle.back_lowering.specs.declared.scope.SitePlace.{SitePlace}
use Rattle.back_lowering.specs.declared.scope.SitePlace.TheVariants.{Known, Held}
use Rattle.back_lowering.specs.declared.scope.OwnExit.{OwnExit}
use Rattle.back_lowering.specs.declared.scope.Scope.{Scope}
use Rattle.back_lowering.specs.declared.placement.Placement.{Placement}
use Rattle.back_lowering.specs.Routines.{failing_routine, failing_with_routine, domain_routine}
use Rattle.back_lowering.specs.Steps.{Steps, move, constant, load, store, request, call, load_far, store_far, store_to}

-- the site is stored where what is called may look at it; d and t are used
abbrev pub site_stored : SitePlace → (d t : ℕ) → Steps
site_stored (Known n) d t = constant d n ∷ store_to d t site_address
site_stored (Held r) d t = store_to r t site_address

module _ (at : Placement) where
  -- a new condition of a class without slots is signalled, of one slot that has a word, and of a domain error of the word in a register,
  -- which is to be an instance of a class; what the signal comes to is in d
  abbrev pub failing : SitePlace → (d class : ℕ) → Steps
  failing site d class =
      site_stored site d (d + 1) ++ (constant d class ∷ call d (failing_routine at) (d ∷ []) ∷ [])

  abbrev pub failing_with : SitePlace → (d class word : ℕ) → Steps
  failing_with site d class word =
      site_stored site d (d + 1)
      ++ (constant d class ∷ constant (d + 1) word ∷ call d (failing_with_routine at) (d ∷ (d + 1) ∷ []) ∷ [])

  abbrev pub domain_error : SitePlace → (d of class : ℕ) → Steps
  domain_error site d of class =
      site_stored site d (d + 1) ++ (constant d class ∷ call d (domain_routine at) (of ∷ d ∷ []) ∷ [])

-- what the function itself captured

abbrev pub captured_offset : ℕ → ℕ
captured_offset n = function_captured + 4 * n

abbrev pub captured_into : Scope → (d n : ℕ) → Steps
captured_into s d n = load_far d s.function d (captured_offset n)

-- variables

abbrev pub slot_into : (d : ℕ) → Option ℕ → Steps
slot_into d (Some r) = move d r ∷ []
slot_into d None = constant d nil_word ∷ []

abbrev pub variable_into : Scope → (d : ℕ) → VariablePlace → Steps
variable_into s d (Slot n) = slot_into d (slice_get s.slots n)
variable_into s d (SlotBox n) = slot_into d (slice_get s.slots n) ++ (load d d 0 ∷ [])
variable_into s d (CapturedValue n) = captured_into s d n
variable_into s d (CapturedBox n) = captured_into s d n ++ (load d d 0 ∷ [])

abbrev pub slot_from : (d : ℕ) → Option ℕ → Steps
slot_from d (Some r) = move r d ∷ []
slot_from d None = []

-- the word in d is the variable's; t is used
abbrev pub variable_from : Scope → (d t : ℕ) → VariablePlace → Steps
variable_from s d t (Slot n) = slot_from d (slice_get s.slots n)
variable_from s d t (SlotBox n) = slot_into t (slice_get s.slots n) ++ (store d t 0 ∷ [])
variable_from s d t (CapturedValue n) = []
variable_from s d t (CapturedBox n) = captured_into s t n ++ (store d t 0 ∷ [])

-- what a function captures of a variable: the address of its box where it has one, else its word
abbrev pub captured_variable : Scope → (d : ℕ) → VariablePlace → Steps
captured_variable s d (Slot n) = slot_into d (slice_get s.slots n)
captured_variable s d (SlotBox n) = slot_into d (slice_get s.slots n)
captured_variable s d (CapturedValue n) = captured_into s d n
captured_variable s d (CapturedBox n) = captured_into s d n

-- the serial number of an exit

abbrev pub serial_into : (d : ℕ) → Option OwnExit → Steps
serial_into d (Some x) = move d x.serial ∷ []
serial_into d None = constant d 0 ∷ []

abbrev pub exit_into : Scope → (d : ℕ) → ExitPlace → Steps
exit_into s d (exit_place.Own n) = serial_into d (slice_get s.exits n)
exit_into s d (exit_place.Captured n) = captured_into s d n

-- new variables whose words are in registers from d on: each that has a box gets one, whose address is then in its register; t and the next
-- one are used
abbrev pub boxes_made : List Home → (d t : ℕ) → Steps
boxes_made [] d t = []
boxes_made (home.Slot ∷ hs) d t = boxes_made hs (d + 1) t
boxes_made (home.Boxed ∷ hs) d t =
    constant t 1 ∷ request (t + 1) t ∷ store d (t + 1) 0 ∷ move d (t + 1) ∷ boxes_made hs (d + 1) t
