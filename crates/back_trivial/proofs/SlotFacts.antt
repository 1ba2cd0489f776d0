-- The facts of the trivial allocation are those that a test tells.
use Rattle.std.proofs.Common.{◌≡◌, ℕ, ◌+◌, ◌<◌, true, ◌&&◌, Option, Some, None, refl, sym, ap, subst, arith, eqb-true, eq-eqb}
use Rattle.std.specs.Prelude.{nat_lt, slice_get}
use Rattle.std.proofs.lemmas.Bool.Decides.{nat_tests}
use Rattle.mid_lines.specs.declared.line.LineProcedure.{LineProcedure}
use Rattle.mid_lines.specs.declared.line.LineProgram.{LineProgram}
use Rattle.mid_lines.proofs.Conjunctions.{front_true, back_true, both_true}
use Rattle.back_places.specs.declared.place.Place.{Place}
use Rattle.back_places.specs.declared.place.Place.TheVariants.{InRegister, InSlot, AsConstant}
use Rattle.back_places.specs.StepLaw.{Known}
use Rattle.back_places.specs.Trivial.{own_slot, InOwnSlot}
use Rattle.back_places.proofs.LinesInForm.{register_below}
use Rattle.back_trivial.specs.OwnSlots.{registers_in, is_slot_of, is_in_own_slot}

slot_is : (v : ℕ) (p : Place) → is_slot_of v p ≡ true → p ≡ own_slot v
slot_is v (InRegister r) h = absurd (cc h)
slot_is v (InSlot k) h = ap InSlot (eqb-true k (v + 1) h)
slot_is v (AsConstant w) h = absurd (cc h)

is_slot : (v : ℕ) (p : Place) → p ≡ own_slot v → is_slot_of v p ≡ true
is_slot v (InRegister r) h = absurd (cc h)
is_slot v (InSlot k) h = eq-eqb k (v + 1) (cc h)
is_slot v (AsConstant w) h = absurd (cc h)

module _ (program : LineProgram) where
  pub test_tells : (number line v : ℕ) (p : Place) → InOwnSlot program number line v p → Known (is_in_own_slot program) number line v p
  test_tells number line v p f =
      let below : nat_lt v f.procedure.registers ≡ true = (let within = f.within in grind (arith, nat_tests, within)) in
      subst (λ o. (nat_lt v (registers_in o) && is_slot_of v p) ≡ true) (sym f.there)
      (both_true (nat_lt v f.procedure.registers) (is_slot_of v p) below (is_slot v p f.place_is))

  pub told : (number line v : ℕ) (p : Place) → Known (is_in_own_slot program) number line v p → InOwnSlot program number line v p
  told number line v p h =
      by (slice_get program.procedures number) refl (front_true (nat_lt v (registers_in (slice_get program.procedures number))) (is_slot_of v p) h)
    where
      by : (o : Option LineProcedure) → slice_get program.procedures number ≡ o → nat_lt v (registers_in o) ≡ true → InOwnSlot program number line v p
      by None e k = absurd (let below : v < 0 = grind (arith, nat_tests, k) in omega (arith, below))
      by (Some q) e k = record {
        place_is = slot_is v p (back_true (nat_lt v (registers_in (slice_get program.procedures number))) (is_slot_of v p) h);
        procedure = q;
        there = e;
        within = register_below q.registers v k;
      }
