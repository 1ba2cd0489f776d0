-- The registers of the worked program stand well in those of the machine.
use Rattle.std.proofs.Common.{inl, ◌≡◌, ◌≢◌, ℕ, zero, suc, ◌<◌, Bool, true, false, List, [], ◌∷◌, length, Some, refl, sym, subst, ◌∙◌, arith, eqb-true}
use Rattle.std.specs.Prelude.{slice_get, ◌==◌, ◌||◌}
use Rattle.std.specs.List.{list_any}
use Rattle.mid_code.specs.declared.operation.Arithmetic.TheVariants as which
use Rattle.mid_code.specs.declared.operation.Comparison.TheVariants as comparison
use Rattle.mid_code.specs.declared.operation.Operation.{Operation}
use Rattle.mid_code.specs.declared.operation.Operation.TheVariants as operation
use Rattle.mid_code.specs.declared.program.MidProcedure.{MidProcedure}
use Rattle.mid_lines.specs.declared.line.Line.{Line}
use Rattle.mid_lines.specs.declared.line.Line.TheVariants.{Do, Branch, Switch, Jump, Lay, Landed, GiveBack, Lend, GiveBackLent, Return, Cut, Halt, Unhandled}
use Rattle.mid_lines.specs.Flattened.{procedure_lines}
use Rattle.mid_lines.specs.LinesChecked.{line_fits}
use Rattle.back_places.specs.declared.place.Place.{Place}
use Rattle.back_places.specs.declared.place.Place.TheVariants.{InRegister, InSlot, AsConstant}
use Rattle.back_places.specs.Facts.{IsPlace, Apart}
use Rattle.back_places.proofs.LinesInForm.{all_at}
use Rattle.back_trivial.specs.OwnSlots.{no_target}
use Rattle.back_allocation.specs.declared.placing.RegisterPlaces.{RegisterPlaces}
use Rattle.back_allocation.specs.LineSteps.{line_gives}
use Rattle.back_allocation.specs.Names.{IsNaming}
use Rattle.back_allocation.specs.Standing.{MayCut, CanBeGiven}
use Rattle.back_allocation.specs.Places.{place_at}
use Rattle.back_allocation.specs.ProgramPlaces.{places_for, FitsProcedure, PlacesFit}
use Rattle.back_allocation.proofs.GivenRegisters.{line_given}
use Rattle.back_allocation.proofs.Naming.{is_naming}
use Rattle.back_images.specs.Worked.{printing_procedure, printing, in_registers}

abbrev chosen : RegisterPlaces
chosen = places_for in_registers 0

abbrev spot : ℕ → Place
spot v = place_at chosen.places v

from_nowhere : (p : Place) → Apart no_target p
from_nowhere (InRegister r) = tt
from_nowhere (InSlot k) = tt
from_nowhere (AsConstant w) = tt

operation_held : (o : Operation) (r : ℕ) → CanBeGiven (Do o) (InRegister r)
operation_held (operation.Move to from) r = tt
operation_held (operation.Constant to word) r = tt
operation_held (operation.Compute to which first second) r = tt
operation_held (operation.Load to base offset) r = tt
operation_held (operation.Store from base offset) r = tt
operation_held (operation.Request to words) r = tt
operation_held (operation.Draw to base offset) r = tt
operation_held (operation.Put from) r = tt
operation_held (operation.Get to) r = tt
operation_held (operation.Call to callee arguments) r = tt

-- a register of the machine holds what any line gives
held_any : (x : Line) (r : ℕ) → CanBeGiven x (InRegister r)
held_any (Do o) r = operation_held o r
held_any (Branch t otherwise) r = tt
held_any (Switch a targets) r = tt
held_any (Jump to) r = tt
held_any (Lay block words landing) r = tt
held_any (Landed a) r = tt
held_any (GiveBack words) r = tt
held_any (Lend block words) r = tt
held_any GiveBackLent r = tt
held_any (Return a) r = tt
held_any (Cut block word) r = tt
held_any (Halt a) r = tt
held_any (Unhandled class site condition) r = tt

all_apart : (v u : ℕ) → v ≢ u → Apart (spot v) (spot u)
all_apart zero zero ne = absurd (ne refl)
all_apart zero (suc zero) ne = λ e. omega (arith, e)
all_apart zero (suc (suc zero)) ne = λ e. omega (arith, e)
all_apart zero (suc (suc (suc u))) ne = tt
all_apart (suc zero) zero ne = λ e. omega (arith, e)
all_apart (suc zero) (suc zero) ne = absurd (ne refl)
all_apart (suc zero) (suc (suc zero)) ne = λ e. omega (arith, e)
all_apart (suc zero) (suc (suc (suc u))) ne = tt
all_apart (suc (suc zero)) zero ne = λ e. omega (arith, e)
all_apart (suc (suc zero)) (suc zero) ne = λ e. omega (arith, e)
all_apart (suc (suc zero)) (suc (suc zero)) ne = absurd (ne refl)
all_apart (suc (suc zero)) (suc (suc (suc u))) ne = tt
all_apart (suc (suc (suc v))) u ne = from_nowhere (spot u)

-- each register can be given what its lines give
can_be : (v : ℕ) (x : Line) → v < 3 → CanBeGiven x (spot v)
can_be zero x h = held_any x 12
can_be (suc zero) x h = held_any x 13
can_be (suc (suc zero)) x h = held_any x 14
can_be (suc (suc (suc v))) x h = absurd (omega (arith, h))

all_places : (v : ℕ) → IsPlace 1 (spot v)
all_places zero = (omega arith, omega arith, omega arith, omega arith, omega arith)
all_places (suc zero) = (omega arith, omega arith, omega arith, omega arith, omega arith)
all_places (suc (suc zero)) = (omega arith, omega arith, omega arith, omega arith, omega arith)
all_places (suc (suc (suc v))) = omega arith

-- lines that neither call nor cut
is_quiet : Line → Bool
is_quiet (Do (operation.Call to callee arguments)) = false
is_quiet (Cut block word) = false
is_quiet x = true

never_cut : (x : Line) → is_quiet x ≡ true → MayCut x → ⊥
unfolding is_quiet
never_cut (Do (operation.Call to callee arguments)) h m = cc h
never_cut (Cut block word) h m = cc h
never_cut (Do o) h m = m
never_cut x h m = m

abbrev listed : List Line
listed = (procedure_lines printing_procedure).lines

quiet : (line : ℕ) (x : Line) → slice_get listed line ≡ Some x → MayCut x → ⊥
unfolding is_quiet
quiet line x e m = never_cut x (all_at is_quiet listed line x refl e) m

low : (line to : ℕ) (x : Line) → slice_get listed line ≡ Some x → line_gives x ≡ Some to → to < 3
low line to x e g = line_given 3 (length listed) x to (all_at (line_fits 3 (length listed)) listed line x refl e) g

-- each line has its registers for names
abbrev own : ℕ → ℕ
own w = w

first_or_later : (v a : ℕ) (rest : Bool) → ((a == v) || rest) ≡ true → a < 3 → (rest ≡ true → v < 3) → v < 3
first_or_later v a rest h low later = by (a == v) refl
  where
    by : (b : Bool) → (a == v) ≡ b → v < 3
    by true e = subst (λ n. n < 3) (eqb-true a v e) low
    by false e = later (subst (λ b. (b || rest) ≡ true) e h)

one_low : (v a : ℕ) → list_any (λ r. r == v) (a ∷ []) ≡ true → a < 3 → v < 3
one_low v a h low = first_or_later v a false h low (λ k. absurd (cc k))

two_low : (v a b : ℕ) → list_any (λ r. r == v) (a ∷ b ∷ []) ≡ true → a < 3 → b < 3 → v < 3
two_low v a b h low more = first_or_later v a (list_any (λ r. r == v) (b ∷ [])) h low (λ k. one_low v b k more)

given_own : (w : ℕ) → w < 3 → (to : ℕ) → Some w ≡ Some to → (own w ≡ to) × (w < 3)
given_own w low to h = (cc h, low)

own_naming : (line : ℕ) (x : Line) → slice_get listed line ≡ Some x → IsNaming own 3 x x
own_naming zero x e =
    let same : Do (operation.Constant 0 65) ≡ x = cc e in
    subst (λ z. IsNaming own 3 z z) same (is_naming own 3 own 0 _ _ refl (λ v h. absurd (cc h)) (given_own 0 (omega arith)))
own_naming (suc zero) x e =
    let same : Do (operation.Constant 1 1) ≡ x = cc e in
    subst (λ z. IsNaming own 3 z z) same (is_naming own 3 own 1 _ _ refl (λ v h. absurd (cc h)) (given_own 1 (omega arith)))
own_naming (suc (suc zero)) x e =
    let same : Do (operation.Constant 2 68) ≡ x = cc e in
    subst (λ z. IsNaming own 3 z z) same (is_naming own 3 own 2 _ _ refl (λ v h. absurd (cc h)) (given_own 2 (omega arith)))
own_naming (suc (suc (suc zero))) x e =
    let same : Branch (record { comparison = comparison.LessUnsigned; first = 0; second = 2 }) 7 ≡ x = cc e in
    subst (λ z. IsNaming own 3 z z) same
    (is_naming own 3 own 0 _ _ refl (λ v h. (refl, two_low v 0 2 h (omega arith) (omega arith))) (λ to h. absurd (cc h)))
own_naming (suc (suc (suc (suc zero)))) x e =
    let same : Do (operation.Put 0) ≡ x = cc e in
    subst (λ z. IsNaming own 3 z z) same (is_naming own 3 own 0 _ _ refl (λ v h. (refl, one_low v 0 h (omega arith))) (λ to h. absurd (cc h)))
own_naming (suc (suc (suc (suc (suc zero))))) x e =
    let same : Do (operation.Compute 0 which.Add 0 1) ≡ x = cc e in
    subst (λ z. IsNaming own 3 z z) same
    (is_naming own 3 own 0 _ _ refl (λ v h. (refl, two_low v 0 1 h (omega arith) (omega arith))) (given_own 0 (omega arith)))
own_naming (suc (suc (suc (suc (suc (suc zero)))))) x e =
    let same : Jump 3 ≡ x = cc e in
    subst (λ z. IsNaming own 3 z z) same (is_naming own 3 own 0 _ _ refl (λ v h. absurd (cc h)) (λ to h. absurd (cc h)))
own_naming (suc (suc (suc (suc (suc (suc (suc zero))))))) x e =
    let same : Return 0 ≡ x = cc e in
    subst (λ z. IsNaming own 3 z z) same (is_naming own 3 own 0 _ _ refl (λ v h. (refl, one_low v 0 h (omega arith))) (λ to h. absurd (cc h)))
own_naming (suc (suc (suc (suc (suc (suc (suc (suc line)))))))) x e = absurd (cc e)

fits : FitsProcedure printing_procedure chosen
fits = record {
  stand = record {
    owner = own;
    names = 3;
    alive = λ v line. true;
    enters = λ v. false;
    named = record {
      count = refl;
      each = λ line x y h g. let same : x ≡ y = cc (sym h ∙ g) in subst (λ z. IsNaming own 3 x z) same (own_naming line x h);
    };
    owned = record {
      alone = λ line to w y h e below a ne same. ne same;
      entry = λ w below a. inl below;
      own = λ w below. refl;
    };
    stand = record {
      well = record {
        along = record { reads = λ v line s h r. refl; behind = λ v line s h f w a. refl; aside = λ v line to s h g a. refl };
        apart = λ v u line a b ne. all_apart v u ne;
        given = λ line to v x h g a ne. all_apart v to ne;
        somewhere = λ line to x h g. can_be to x (low line to x h g);
        calls = λ line to v callee arguments h a ne. absurd (quiet line (Do (operation.Call to callee arguments)) h tt);
        landed = λ line landing v x h m g a. absurd (quiet line x h m);
      };
      entered = λ v h a. absurd (omega (arith, h));
      apart = λ v u a b ne. all_apart v u ne;
      passed = λ v h a. absurd (omega (arith, h));
      places = all_places;
    };
    entry = refl;
  };
  finds = refl;
}

each_fits : (number : ℕ) (p : MidProcedure) → slice_get printing.procedures number ≡ Some p → FitsProcedure p (places_for in_registers number)
each_fits zero p h = let same : printing_procedure ≡ p = cc h in subst (λ q. FitsProcedure q chosen) same fits
each_fits (suc number) p h = absurd (cc h)

pub places_fit : PlacesFit printing in_registers
places_fit = record { count = refl; each = each_fits }
