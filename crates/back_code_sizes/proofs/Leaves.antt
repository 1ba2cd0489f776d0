-- What leaves cost: sites, conditions, variables, boxes.
use Rattle.std.proofs.Common.{ℕ, ◌+◌, ◌*◌, ◌≤◌, List, [], ◌∷◌, Option, Some, None, length, slice_get, arith}
use Rattle.flat_language.specs.declared.place.Home.{Home}
use Rattle.flat_language.specs.declared.place.Home.TheVariants as home
use Rattle.flat_language.specs.declared.place.VariablePlace.{VariablePlace}
use Rattle.flat_language.specs.declared.place.VariablePlace.TheVariants.{Slot, SlotBox, CapturedValue, CapturedBox}
use Rattle.flat_language.specs.declared.place.ExitPlace.{ExitPlace}
use Rattle.flat_language.specs.declared.place.ExitPlace.TheVariants as exit_place
use Rattle.back_lowering.specs.ControlWords.{site_address}
use Rattle.back_lowering.specs.declared.scope.SitePlace.{SitePlace}
use Rattle.back_lowering.specs.declared.scope.SitePlace.TheVariants.{Known, Held}
use Rattle.back_lowering.specs.declared.scope.OwnExit.{OwnExit}
use Rattle.back_lowering.specs.declared.scope.Scope.{Scope}
use Rattle.back_lowering.specs.declared.placement.Placement.{Placement}
use Rattle.back_lowering.specs.Routines.{failing_routine, failing_with_routine, domain_routine}
use Rattle.back_lowering.specs.Steps.{constant, load, store, call}
use Rattle.back_lowering.specs.Leaves.{site_stored, failing, failing_with, domain_error, captured_offset, captured_into, slot_into, variable_into, slot_from, variable_from, captured_variable, serial_into, exit_into, boxes_made}
use Rattle.back_code_sizes.proofs.Costs.{cost, append_cost, store_to_cost, load_far_cost}

pub site_cost : (site : SitePlace) (d t : ℕ) → cost (site_stored site d t) ≤ 20
site_cost (Known n) d t = omega (arith, store_to_cost d t site_address)
site_cost (Held r) d t = omega (arith, store_to_cost r t site_address)

-- conditions that are signalled

pub failing_cost : (at : Placement) (site : SitePlace) (d class : ℕ) → cost (failing at site d class) ≤ 73
failing_cost at site d class =
    omega (
      arith,
      append_cost (site_stored site d (d + 1)) (constant d class ∷ call d (failing_routine at) (d ∷ []) ∷ []),
      site_cost site d (d + 1),
    )

pub failing_with_cost : (at : Placement) (site : SitePlace) (d class word : ℕ) → cost (failing_with at site d class word) ≤ 86
failing_with_cost at site d class word =
    omega (
      arith,
      append_cost (site_stored site d (d + 1)) (constant d class ∷ constant (d + 1) word ∷ call d (failing_with_routine at) (d ∷ (d + 1) ∷ []) ∷ []),
      site_cost site d (d + 1),
    )

pub domain_cost : (at : Placement) (site : SitePlace) (d of class : ℕ) → cost (domain_error at site d of class) ≤ 80
domain_cost at site d of class =
    omega (
      arith,
      append_cost (site_stored site d (d + 1)) (constant d class ∷ call d (domain_routine at) (of ∷ d ∷ []) ∷ []),
      site_cost site d (d + 1),
    )

-- variables

pub captured_cost : (s : Scope) (d n : ℕ) → cost (captured_into s d n) ≤ 24
captured_cost s d n = load_far_cost d s.function d (captured_offset n)

pub slot_into_cost : (d : ℕ) (r : Option ℕ) → cost (slot_into d r) ≤ 6
slot_into_cost d (Some r) = omega arith
slot_into_cost d None = omega arith

pub slot_from_cost : (d : ℕ) (r : Option ℕ) → cost (slot_from d r) ≤ 6
slot_from_cost d (Some r) = omega arith
slot_from_cost d None = omega arith

pub variable_into_cost : (s : Scope) (d : ℕ) (p : VariablePlace) → cost (variable_into s d p) ≤ 32
variable_into_cost s d (Slot n) = omega (arith, slot_into_cost d (slice_get s.slots n))
variable_into_cost s d (SlotBox n) =
    omega (arith, append_cost (slot_into d (slice_get s.slots n)) (load d d 0 ∷ []), slot_into_cost d (slice_get s.slots n))
variable_into_cost s d (CapturedValue n) = omega (arith, captured_cost s d n)
variable_into_cost s d (CapturedBox n) = omega (arith, append_cost (captured_into s d n) (load d d 0 ∷ []), captured_cost s d n)

pub variable_from_cost : (s : Scope) (d t : ℕ) (p : VariablePlace) → cost (variable_from s d t p) ≤ 32
variable_from_cost s d t (Slot n) = omega (arith, slot_from_cost d (slice_get s.slots n))
variable_from_cost s d t (SlotBox n) =
    omega (arith, append_cost (slot_into t (slice_get s.slots n)) (store d t 0 ∷ []), slot_into_cost t (slice_get s.slots n))
variable_from_cost s d t (CapturedValue n) = omega arith
variable_from_cost s d t (CapturedBox n) = omega (arith, append_cost (captured_into s t n) (store d t 0 ∷ []), captured_cost s t n)

pub captured_variable_cost : (s : Scope) (d : ℕ) (p : VariablePlace) → cost (captured_variable s d p) ≤ 24
captured_variable_cost s d (Slot n) = omega (arith, slot_into_cost d (slice_get s.slots n))
captured_variable_cost s d (SlotBox n) = omega (arith, slot_into_cost d (slice_get s.slots n))
captured_variable_cost s d (CapturedValue n) = captured_cost s d n
captured_variable_cost s d (CapturedBox n) = captured_cost s d n

pub serial_cost : (d : ℕ) (x : Option OwnExit) → cost (serial_into d x) ≤ 6
serial_cost d (Some x) = omega arith
serial_cost d None = omega arith

pub exit_into_cost : (s : Scope) (d : ℕ) (x : ExitPlace) → cost (exit_into s d x) ≤ 24
exit_into_cost s d (exit_place.Own n) = omega (arith, serial_cost d (slice_get s.exits n))
exit_into_cost s d (exit_place.Captured n) = captured_cost s d n

pub boxes_cost : (hs : List Home) (d t : ℕ) → cost (boxes_made hs d t) ≤ 40 * length hs
boxes_cost [] d t = omega arith
boxes_cost (home.Slot ∷ hs) d t = omega (arith, boxes_cost hs (d + 1) t)
boxes_cost (home.Boxed ∷ hs) d t = omega (arith, boxes_cost hs (d + 1) t)
