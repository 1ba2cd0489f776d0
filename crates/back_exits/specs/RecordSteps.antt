-- What the steps of control records do: a record stands as the current one, what was outside is kept in the registers behind it, and stands
-- again where it is left.
use Rattle.std.specs.Prelude.{◌≡◌, ℕ, ◌+◌, ◌*◌, ◌-◌, ◌%◌, ◌^◌, ◌<◌, ◌≤◌, ◌==◌, true, false, List, [], ◌∷◌, ◌++◌, length, Option, Some, slice_set}
use Rattle.mid_code.specs.Arena.{Arena, is_lent, word_at}
use Rattle.mid_code.specs.Meaning.{Context, exec}
use Rattle.mid_code.specs.MidCode.{code_of}
use Rattle.mid_code.specs.State.{Registers, register, falls, ends, MidState}
use Rattle.back_lowering.specs.ControlWords.{control_address, control_words, variables_address, current_address, link_address, serials_address, handlers_address, bindings_address, record_serial, record_kind, record_outer, record_link}
use Rattle.back_lowering.specs.Records.{record_laid, exit_laid, record_left, record_landed}
use Rattle.back_relation.specs.Worlds.{record_bytes}
use Rattle.back_relation.specs.Stores.{stores}

-- what is around, by the control words
pub record ControlSays (a : Arena) (current link handlers bindings : ℕ) : Type 0 where
  pub current_word : word_at a current_address ≡ Some current
  pub link_word : word_at a link_address ≡ Some link
  pub handlers_word : word_at a handlers_address ≡ Some handlers
  pub bindings_word : word_at a bindings_address ≡ Some bindings

-- control words may be stored
abbrev pub ControlLent : Arena → Type 0
ControlLent a = (k : ℕ) → k < 4 * control_words → k % 4 ≡ 0 → is_lent a (control_address + k) ≡ true

-- the words of a record may be stored, and are no control words
pub record RecordLent (a : Arena) (address : ℕ) : Type 0 where
  pub aligned : address % 4 ≡ 0
  pub above : variables_address ≤ address
  pub low : address + record_bytes < 2 ^ 32
  pub lent : (k : ℕ) → k < record_bytes → k % 4 ≡ 0 → is_lent a (address + k) ≡ true

-- what is stored where a record is laid: its kind, the record outside, and that it is the current one
abbrev pub record_stores : (kind address current : ℕ) → List (ℕ × ℕ)
record_stores kind address current =
    (address + record_kind, kind) ∷ (address + record_outer, current) ∷ (current_address, address) ∷ []

-- and where it is that of an exit: the serial number, the link outside, and that it is the innermost valid exit
abbrev pub exit_stores : (address link drawn : ℕ) → List (ℕ × ℕ)
exit_stores address link drawn =
    (serials_address, drawn + 1) ∷ (address + record_serial, drawn + 1) ∷ (address + record_link, link) ∷ (link_address, address) ∷ []

-- where it is left, and where a transfer landed
abbrev pub left_stores : (current link : ℕ) → List (ℕ × ℕ)
left_stores current link = (current_address, current) ∷ (link_address, link) ∷ []

abbrev pub landed_stores : (current link handlers bindings : ℕ) → List (ℕ × ℕ)
landed_stores current link handlers bindings = left_stores current link ++ ((handlers_address, handlers) ∷ (bindings_address, bindings) ∷ [])

-- the registers of a record, behind those in front: the serial number, the record, what was outside, and two that are used
abbrev pub record_registers : (front : Registers) → (serial : Option ℕ) → (address current link handlers bindings : ℕ) → (used next : Option ℕ) → (tail : Registers) → Registers
record_registers front serial address current link handlers bindings used next tail =
    front ++ serial ∷ Some address ∷ Some current ∷ Some link ∷ Some handlers ∷ Some bindings ∷ used ∷ next ∷ tail

abbrev pub with_stores : List (ℕ × ℕ) → (cost : ℕ) → MidState → MidState
with_stores ps cost y = record y { arena = stores ps y.arena; cost = y.cost + cost }

pub record LawOfRecordSteps : Type 0 where
  pub laid :
      (c : Context) (front tail : Registers) (d : ℕ) (r0 r2 r3 r4 r5 r6 r7 : Option ℕ) (kind address current link handlers bindings : ℕ) (y : MidState)
      → length front ≡ d → ControlLent y.arena → RecordLent y.arena address → ControlSays y.arena current link handlers bindings
      → exec c (code_of (record_laid (d + 1) (d + 6) kind)) (front ++ r0 ∷ Some address ∷ r2 ∷ r3 ∷ r4 ∷ r5 ∷ r6 ∷ r7 ∷ tail) y
      ≡ ends falls (record_registers front r0 address current link handlers bindings (Some 0) (Some kind) tail) (with_stores (record_stores kind address current) 68 y)
  pub exit_laid :
      (c : Context) (front tail : Registers) (d : ℕ) (r0 r2 r3 r4 r5 r6 r7 : Option ℕ) (kind address current link handlers bindings drawn : ℕ) (y : MidState)
      → length front ≡ d → ControlLent y.arena → RecordLent y.arena address → ControlSays y.arena current link handlers bindings
      → word_at y.arena serials_address ≡ Some drawn → (drawn == 2 ^ 32 - 1) ≡ false
      → exec c (code_of (exit_laid d (d + 1) (d + 6) kind)) (front ++ r0 ∷ Some address ∷ r2 ∷ r3 ∷ r4 ∷ r5 ∷ r6 ∷ r7 ∷ tail) y
      ≡ ends falls (record_registers front (Some (drawn + 1)) address current link handlers bindings (Some 0) (Some kind) tail)
      (with_stores (record_stores kind address current ++ exit_stores address link drawn) 118 y)
  pub left :
      (c : Context) (regs : Registers) (b t current link : ℕ) (y : MidState) → b + 2 < t → t < length regs → register (b + 1) regs ≡ Some current
      → register (b + 2) regs ≡ Some link → ControlLent y.arena
      → exec c (code_of (record_left b t)) regs y ≡ ends falls (slice_set regs t (Some 0)) (with_stores (left_stores current link) 22 y)
  pub landed :
      (c : Context) (regs : Registers) (b t current link handlers bindings : ℕ) (y : MidState) → b + 4 < t → t < length regs
      → register (b + 1) regs ≡ Some current → register (b + 2) regs ≡ Some link → register (b + 3) regs ≡ Some handlers → register (b + 4) regs ≡ Some bindings
      → ControlLent y.arena
      → exec c (code_of (record_landed b t)) regs y
      ≡ ends falls (slice_set regs t (Some 0)) (with_stores (landed_stores current link handlers bindings) 38 y)
