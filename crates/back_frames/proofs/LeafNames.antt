-- The registers that the code of what many forms do names.
use Rattle.std.proofs.Common.{ℕ, zero, suc, ◌+◌, List, [], ◌∷◌, Option, Some, None, length, arith}
use Rattle.std.specs.Prelude.{nat_le, slice_get}
use Rattle.base.specs.AllOf.{AllOf}
use Rattle.flat_language.specs.declared.place.Home.{Home}
use Rattle.flat_language.specs.declared.place.Home.TheVariants as home
use Rattle.flat_language.specs.declared.place.VariablePlace.{VariablePlace}
use Rattle.flat_language.specs.declared.place.VariablePlace.TheVariants.{Slot, SlotBox, CapturedValue, CapturedBox}
use Rattle.flat_language.specs.declared.place.ExitPlace.{ExitPlace}
use Rattle.flat_language.specs.declared.place.ExitPlace.TheVariants as exit_place
use Rattle.mid_code.specs.declared.operation.Arithmetic.TheVariants as which
use Rattle.back_lowering.specs.ControlWords.{site_address}
use Rattle.back_lowering.specs.declared.scope.SitePlace.{SitePlace}
use Rattle.back_lowering.specs.declared.scope.SitePlace.TheVariants.{Known, Held}
use Rattle.back_lowering.specs.declared.scope.OwnExit.{OwnExit}
use Rattle.back_lowering.specs.declared.scope.Scope.{Scope}
use Rattle.back_lowering.specs.declared.placement.Placement.{Placement}
use Rattle.back_lowering.specs.Steps.{constant, compute, load, store, most_offset, load_from, store_to, load_far, store_far, words_stored}
use Rattle.back_lowering.specs.Leaves.{site_stored, failing, failing_with, domain_error, captured_offset, captured_into, slot_into, variable_into, slot_from, variable_from, captured_variable, serial_into, exit_into, boxes_made}
use Rattle.back_frames.proofs.Naming.{Names, Range, narrowed, none, ◌▸◌, ◌⊹◌, either, moves, constants, computes, loads, stores, requests, calls}
use Rattle.back_frames.proofs.Surroundings.{Allowed, ExitAllowed, SiteAllowed, VariableAllowed, PlaceAllowed}

-- words at known addresses, and at any offset

pub load_from_names : {P : ℕ → Type 0} (to t address : ℕ) → P to → P t → Names P (load_from to t address)
load_from_names to t address a b =
    either (nat_le address most_offset) (constant t 0 ∷ load to t address ∷ []) (constant t address ∷ load to t 0 ∷ [])
    (constants b ▸ (loads a b ▸ none)) (constants b ▸ (loads a b ▸ none))

pub store_to_names : {P : ℕ → Type 0} (from t address : ℕ) → P from → P t → Names P (store_to from t address)
store_to_names from t address a b =
    either (nat_le address most_offset) (constant t 0 ∷ store from t address ∷ []) (constant t address ∷ store from t 0 ∷ [])
    (constants b ▸ (stores a b ▸ none)) (constants b ▸ (stores a b ▸ none))

pub load_far_names : {P : ℕ → Type 0} (to base t offset : ℕ) → P to → P base → P t → Names P (load_far to base t offset)
load_far_names to base t offset a b c =
    either (nat_le offset most_offset) (load to base offset ∷ []) (constant t offset ∷ compute t which.Add t base ∷ load to t 0 ∷ [])
    (loads a b ▸ none) (constants c ▸ (computes c c b ▸ (loads a c ▸ none)))

pub store_far_names : {P : ℕ → Type 0} (from base t offset : ℕ) → P from → P base → P t → Names P (store_far from base t offset)
store_far_names from base t offset a b c =
    either (nat_le offset most_offset) (store from base offset ∷ []) (constant t offset ∷ compute t which.Add t base ∷ store from t 0 ∷ [])
    (stores a b ▸ none) (constants c ▸ (computes c c b ▸ (stores a c ▸ none)))

pub words_stored_names : {P : ℕ → Type 0} (count d base t offset : ℕ) → Range P d count → P base → P t → Names P (words_stored count d base t offset)
words_stored_names zero d base t offset all b c = none
words_stored_names (suc n) d base t offset all b c =
    store_far_names d base t offset (all d (omega arith) (omega arith)) b c
    ⊹ words_stored_names n (d + 1) base t (offset + 4) (narrowed d (suc n) (d + 1) n all (omega arith) (omega arith)) b c

-- the site, and conditions

pub site_names : {P : ℕ → Type 0} (site : SitePlace) (d t : ℕ) → SiteAllowed P site → P d → P t → Names P (site_stored site d t)
site_names (Known n) d t s a b = constants a ▸ store_to_names d t site_address a b
site_names (Held r) d t s a b = store_to_names r t site_address s b

pub failing_names : {P : ℕ → Type 0} (at : Placement) (site : SitePlace) (d class : ℕ) → SiteAllowed P site → P d → P (d + 1) → Names P (failing at site d class)
failing_names at site d class s a b = site_names site d (d + 1) s a b ⊹ (constants a ▸ (calls a (a, tt) ▸ none))

pub failing_with_names : {P : ℕ → Type 0} (at : Placement) (site : SitePlace) (d class word : ℕ) → SiteAllowed P site → P d → P (d + 1)
    → Names P (failing_with at site d class word)
failing_with_names at site d class word s a b =
    site_names site d (d + 1) s a b ⊹ (constants a ▸ (constants b ▸ (calls a (a, (b, tt)) ▸ none)))

pub domain_names : {P : ℕ → Type 0} (at : Placement) (site : SitePlace) (d of class : ℕ) → SiteAllowed P site → P d → P (d + 1) → P of
    → Names P (domain_error at site d of class)
domain_names at site d of class s a b c = site_names site d (d + 1) s a b ⊹ (constants a ▸ (calls a (c, (a, tt)) ▸ none))

-- variables and exits

pub captured_names : {P : ℕ → Type 0} (s : Scope) (d n : ℕ) → P s.function → P d → Names P (captured_into s d n)
captured_names s d n f a = load_far_names d s.function d (captured_offset n) a f a

slot_into_names : {P : ℕ → Type 0} (d : ℕ) (o : Option ℕ) → Allowed P o → P d → Names P (slot_into d o)
slot_into_names d (Some r) h a = moves a h ▸ none
slot_into_names d None h a = constants a ▸ none

pub variable_names : {P : ℕ → Type 0} (s : Scope) (d : ℕ) (p : VariablePlace) → P s.function → VariableAllowed P s p → P d → Names P (variable_into s d p)
variable_names s d (Slot n) f h a = slot_into_names d (slice_get s.slots n) h a
variable_names s d (SlotBox n) f h a = slot_into_names d (slice_get s.slots n) h a ⊹ (loads a a ▸ none)
variable_names s d (CapturedValue n) f h a = captured_names s d n f a
variable_names s d (CapturedBox n) f h a = captured_names s d n f a ⊹ (loads a a ▸ none)

slot_from_names : {P : ℕ → Type 0} (d : ℕ) (o : Option ℕ) → Allowed P o → P d → Names P (slot_from d o)
slot_from_names d (Some r) h a = moves h a ▸ none
slot_from_names d None h a = none

pub variable_from_names : {P : ℕ → Type 0} (s : Scope) (d t : ℕ) (p : VariablePlace) → P s.function → VariableAllowed P s p → P d → P t
    → Names P (variable_from s d t p)
variable_from_names s d t (Slot n) f h a b = slot_from_names d (slice_get s.slots n) h a
variable_from_names s d t (SlotBox n) f h a b = slot_into_names t (slice_get s.slots n) h b ⊹ (stores a b ▸ none)
variable_from_names s d t (CapturedValue n) f h a b = none
variable_from_names s d t (CapturedBox n) f h a b = captured_names s t n f b ⊹ (stores a b ▸ none)

pub captured_variable_names : {P : ℕ → Type 0} (s : Scope) (d : ℕ) (p : VariablePlace) → P s.function → VariableAllowed P s p → P d
    → Names P (captured_variable s d p)
captured_variable_names s d (Slot n) f h a = slot_into_names d (slice_get s.slots n) h a
captured_variable_names s d (SlotBox n) f h a = slot_into_names d (slice_get s.slots n) h a
captured_variable_names s d (CapturedValue n) f h a = captured_names s d n f a
captured_variable_names s d (CapturedBox n) f h a = captured_names s d n f a

serial_names : {P : ℕ → Type 0} (d : ℕ) (o : Option OwnExit) → ExitAllowed P o → P d → Names P (serial_into d o)
serial_names d (Some x) h a = moves a h.0 ▸ none
serial_names d None h a = constants a ▸ none

pub exit_into_names : {P : ℕ → Type 0} (s : Scope) (d : ℕ) (p : ExitPlace) → P s.function → PlaceAllowed P s p → P d → Names P (exit_into s d p)
exit_into_names s d (exit_place.Own n) f h a = serial_names d (slice_get s.exits n) h a
exit_into_names s d (exit_place.Captured n) f h a = captured_names s d n f a

-- boxes: the registers of the variables that get one, and two more

abbrev pub boxed_registers : List Home → (d : ℕ) → List ℕ
boxed_registers [] d = []
boxed_registers (home.Slot ∷ hs) d = boxed_registers hs (d + 1)
boxed_registers (home.Boxed ∷ hs) d = d ∷ boxed_registers hs (d + 1)

pub boxes_names : {P : ℕ → Type 0} (hs : List Home) (d t : ℕ) → AllOf P (boxed_registers hs d) → P t → P (t + 1) → Names P (boxes_made hs d t)
boxes_names [] d t all a b = none
boxes_names (home.Slot ∷ hs) d t all a b = boxes_names hs (d + 1) t all a b
boxes_names (home.Boxed ∷ hs) d t all a b =
    constants a ▸ (requests b a ▸ (stores all.0 b ▸ (moves all.0 b ▸ boxes_names hs (d + 1) t all.1 a b)))

pub boxed_in_range : {P : ℕ → Type 0} (hs : List Home) (d : ℕ) → Range P d (length hs) → AllOf P (boxed_registers hs d)
boxed_in_range [] d all = tt
boxed_in_range (home.Slot ∷ hs) d all = boxed_in_range hs (d + 1) (narrowed d (suc (length hs)) (d + 1) (length hs) all (omega arith) (omega arith))
boxed_in_range (home.Boxed ∷ hs) d all =
    (all d (omega arith) (omega arith), boxed_in_range hs (d + 1) (narrowed d (suc (length hs)) (d + 1) (length hs) all (omega arith) (omega arith)))
