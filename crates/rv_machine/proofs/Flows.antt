-- How a machine goes on after a row.
use Rattle.std.proofs.Common.{◌≡◌, ℕ, ◌+◌, ◌/◌, ◌%◌, ◌<◌, Bool, true, false, Some, None, refl, sym, ap, subst, ◌∙◌, arith}
use Rattle.std.specs.Prelude.{Option, IfSome}
use Rattle.rv_machine.specs.declared.machine.rows.Row.{Row}
use Rattle.rv_machine.specs.declared.machine.carrying.Flow.{Flow}
use Rattle.rv_machine.specs.declared.machine.carrying.Flow.TheVariants.{On, Branch, Leave}
use Rattle.base.specs.Arithmetic.{sum32}
use Rattle.rv_machine.specs.Arithmetic.{even}
use Rattle.rv_machine.specs.Memory.{stored_at}
use Rattle.rv_machine.specs.Step.{Result, next, behind, go_to, store, step_of}
use Rattle.rv_machine.specs.Rows.{address_of, does}
use Rattle.rv_machine.specs.Held.{Held, Flows, Goes, StoredIn, standing}

pub flows_as : (r r' : Option Result) (place : ℕ) (flow : Flow) (h h' : Held) → r ≡ r' → Flows r' place flow h h' → Flows r place flow h h'
flows_as r r' place flow h h' e flows = subst (λ x. Flows x place flow h h') (sym e) flows

-- the place of an address whose last bit is cleared, where bit 1 is 0
pub lands : (address : ℕ) → address < 4294967296 → address % 4 < 2 → address_of (address / 4) ≡ even address
lands address small low = omega arith

-- a row that stores, where the store was made
pub stored_row :
    (size address value place : ℕ) (made : Bool) (h h' : Held) → made ≡ true → StoredIn size address value made h h'
    → (Some (store (stored_at size address value h.memory) (standing place h)) ≡ Some (next (behind (standing place h'))))
    × (h'.rows ≡ h.rows)
stored_row size address value place true h h' e stored = (rw (stored.0, stored.1) refl, stored.2)
stored_row size address value place false h h' e stored = cc

came : (o : Option Result) (r step : Result) → o ≡ Some r → IfSome o (λ x. x ≡ step) → r ≡ step
came None r step e h = cc
came (Some x) r step e h = cc

behind-is : (place : ℕ) (h : Held) → next (behind (standing place h)) ≡ next (standing (place + 1) h)
behind-is place h =
    let e : sum32 (address_of place) 4 ≡ address_of (place + 1) = omega arith in ap (λ pc. next (go_to pc (standing place h))) e

-- what a row does is the machine's next step
pub goes_from :
    (row : Row) (place : ℕ) (flow : Flow) (h h' : Held)
    → IfSome (does row (standing place h)) (λ x. x ≡ step_of (standing place h)) → Flows (does row (standing place h)) place flow h h'
    → Goes place flow h h'
goes_from row place On h h' steps flows = sym (came _ _ _ flows.0 steps) ∙ behind-is place h'
goes_from row place (Branch true target) h h' steps flows = sym (came _ _ _ flows.0 steps)
goes_from row place (Branch false target) h h' steps flows = sym (came _ _ _ flows.0 steps) ∙ behind-is place h'
goes_from row place Leave h h' steps flows = flows

pub goes_so :
    (taken so : Bool) (place target : ℕ) (h h' : Held) → taken ≡ so → Goes place (Branch taken target) h h'
    → Goes place (Branch so target) h h'
goes_so taken so place target h h' is goes = subst (λ t. Goes place (Branch t target) h h') is goes
