-- What a machine holds beside its program counter, and what becomes of it where rows are followed.
use Rattle.std.specs.Prelude.{◌≡◌, ℕ, ◌+◌, List, Bool, true, false, Option, Some, None, if◌then◌else◌, ◌==◌, slice_set}
use Rattle.rv_machine.specs.declared.machine.carrying.Flow.{Flow}
use Rattle.rv_machine.specs.declared.machine.carrying.Flow.TheVariants.{On, Branch, Leave as LeaveIt}
use Rattle.rv_machine.specs.Memory.{stored_at}
use Rattle.rv_machine.specs.State.{State}
use Rattle.rv_machine.specs.Step.{Result, next, behind, step_of}
use Rattle.rv_machine.specs.Rows.{address_of}

-- registers, memory, and how many words have a row
pub record Held : Type 0 where
  pub registers : List ℕ
  pub memory : List ℕ
  pub rows : ℕ

-- a machine that holds this and stands at the word of a place
abbrev pub standing : ℕ → Held → State
standing place h = record { pc = address_of place; registers = h.registers; memory = h.memory }

-- a register written; register 0 stays 0
abbrev pub written : ℕ → ℕ → Held → Held
written rd value h = record h { registers = if rd == 0 then h.registers else slice_set h.registers rd value }

-- a store of so many bytes was made, or is no access and nothing has changed
abbrev pub StoredIn : ℕ → ℕ → ℕ → Bool → Held → Held → Type 0
StoredIn size address value true h h' =
    (stored_at size address value h.memory ≡ Some h'.memory) × (h'.registers ≡ h.registers) × (h'.rows ≡ h.rows)
StoredIn size address value false h h' = (stored_at size address value h.memory ≡ None) × (h' ≡ h)

-- where a machine comes to from a place by what a row does there: behind it, at another place if that is taken, or
-- nowhere, and it is left to a step
abbrev pub Flows : Option Result → ℕ → Flow → Held → Held → Type 0
Flows came place On h h' = (came ≡ Some (next (behind (standing place h')))) × (h'.rows ≡ h.rows)
Flows came place (Branch taken target) h h' =
    (came ≡ Some (next (if taken then standing target h' else behind (standing place h')))) × (h'.rows ≡ h.rows)
Flows came place LeaveIt h h' = h' ≡ h

-- the same by the step that the machine takes there
abbrev pub Goes : ℕ → Flow → Held → Held → Type 0
Goes place On h h' = step_of (standing place h) ≡ next (standing (place + 1) h')
Goes place (Branch taken target) h h' =
    step_of (standing place h) ≡ next (standing (if taken then target else place + 1) h')
Goes place LeaveIt h h' = h' ≡ h
